use Rattle.std.proofs.Common.{Err, ℕ, List, refl, sym, ap, ◌∙◌, subst}
use Rattle.weave_io.specs.Told.{Tells}
use Rattle.store_journal.proofs.Moments.{weaker}
use Rattle.weave_keep.specs.KeepEnds.{HasAdded, IsLeftByKeep, added_by}
use Rattle.weave_keep.proofs.Journals.{left_by_keep, less_of, unread_moments}
use Rattle.weave_keep.proofs.Prepared.{of_input, of_unread}
use Rattle.weave_keep.proofs.answering.prepare_answer.Goals as goal

pub returns-in-Ok-clause-prepared : goal.returns-in-Ok-clause-prepared
returns-in-Ok-clause-prepared g c = of_input _ _ _ _ c.as_slice.result.now _ (subst (λ (l : List ℕ). Tells (g.S.Source.left c.args.source.now) l) (sym c.as_slice.ensures.value) c.in-Ok.ensures.all) c.in-Ok.ensures.end c.answer_to.ensures.prepared

pub returns-in-Ok-clause-any_moment : goal.returns-in-Ok-clause-any_moment
returns-in-Ok-clause-any_moment g c told =
    weaker g.D.Disk.moment g.D.Disk.images_since c.args.disk.now c.answer_to.new.disk _ _ (c.answer_to.ensures.any_moment told)
    (less_of (HasAdded (added_by c.as_slice.result.now)) (IsLeftByKeep (g.S.Source.left c.args.source.now))
    (left_by_keep (g.S.Source.left c.args.source.now) c.as_slice.result.now (subst (λ (l : List ℕ). Tells (g.S.Source.left c.args.source.now) l) (sym c.as_slice.ensures.value) c.in-Ok.ensures.all))
    (g.D.Disk.images c.args.disk.now))

pub returns-in-Err-clause-prepared : goal.returns-in-Err-clause-prepared
returns-in-Err-clause-prepared g c = of_unread _ _ _ _ _ _ refl c.answer_unread.ensures
    (λ is. c.read_all.ensures.too_long (c.in-Err.is ∙ ap Err is))
    (λ is. (c.read_all.ensures.read (c.in-Err.is ∙ ap Err is), c.read_all.ensures.read_in_time (c.in-Err.is ∙ ap Err is)))

pub returns-in-Err-clause-any_moment : goal.returns-in-Err-clause-any_moment
returns-in-Err-clause-any_moment g c told =
    unread_moments g.D.Disk.images g.D.Disk.moment g.D.Disk.images_since (g.S.Source.left c.args.source.now) c.images_have_the_commits.ensures.commits g.met.D.Disk.since_now c.args.disk.now
