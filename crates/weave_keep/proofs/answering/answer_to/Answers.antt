use Rattle.std.proofs.Common.{◌≡◌, ℕ, List, Ok, Err, refl, sym, subst}
use Rattle.program_defs.specs.declared.script.Script.{Script}
use Rattle.weave_script.specs.ReadText.{Fault, read_text}
use Rattle.store_journal.proofs.Moments.{weaker}
use Rattle.weave_keep.specs.KeepEnds.{HasAdded, added_by, added_if_read}
use Rattle.weave_keep.specs.Prepared.{AnswersRefusal}
use Rattle.weave_keep.proofs.Journals.{less_of, same_added, untouched}
use Rattle.weave_keep.proofs.Prepared.{added_by_read, of_fault, of_read_fault, of_script}
use Rattle.weave_keep.proofs.answering.answer_to.Goals as goal

pub answer_for-requires : goal.answer_for-requires
answer_for-requires g c = c.texts_are_of_one_script.ensures.script c.args.input.now _ (c.texts_are_read.ensures.read c.args.input.now _ c.in-Ok.ensures.read)

pub returns-in-Ok-clause-prepared : goal.returns-in-Ok-clause-prepared
returns-in-Ok-clause-prepared g c = of_script _ _ c.args.input.now _ c.requires (c.texts_are_read.ensures.read c.args.input.now _ c.in-Ok.ensures.read) c.in-Ok.ensures.read c.answer_for.ensures.answered

pub returns-in-Ok-clause-any_moment : goal.returns-in-Ok-clause-any_moment
returns-in-Ok-clause-any_moment g c told =
    weaker g.D.Disk.moment g.D.Disk.images_since c.args.disk.now c.answer_for.new.disk _ _ (c.answer_for.ensures.any_moment told)
    (less_of (HasAdded (λ recovered. added_if_read recovered (Ok c.in-Ok.script))) (HasAdded (added_by c.args.input.now))
    (same_added (λ recovered. added_if_read recovered (Ok c.in-Ok.script)) (added_by c.args.input.now) (λ recovered. sym (added_by_read c.args.input.now recovered (Ok c.in-Ok.script) c.in-Ok.ensures.read)))
    (g.D.Disk.images c.args.disk.now))

pub returns-in-Err-Refused-clause-prepared : goal.returns-in-Err-Refused-clause-prepared
returns-in-Err-Refused-clause-prepared g c =
    let first : Fault = record { line = c.in-Err-Refused.line; cause = c.in-Err-Refused.cause } in
    let is : read_text c.args.input.now ≡ Err first = of_read_fault Script c.in-Err-Refused.field-0 first.line first.cause (λ line cause. read_text c.args.input.now ≡ Err (record { line = line; cause = cause })) c.in-Err-Refused.field-0-is c.in-Err-Refused.ensures.refused in
    of_fault _ first c.args.input.now _ refl (λ script. c.texts_are_read.ensures.refused c.args.input.now first script c.requires is) is (subst (λ (cause : List ℕ). AnswersRefusal c.in-Err-Refused.line cause c.refused.result) c.text.ensures c.refused.ensures)

pub returns-in-Err-Refused-clause-any_moment : goal.returns-in-Err-Refused-clause-any_moment
returns-in-Err-Refused-clause-any_moment g c told =
    untouched c.images_have_the_commits.ensures.commits g.D.Disk.images g.D.Disk.moment g.D.Disk.images_since (added_by c.args.input.now) g.met.D.Disk.since_now c.args.disk.now

pub returns-in-Err-Memory-clause-prepared : goal.returns-in-Err-Memory-clause-prepared
returns-in-Err-Memory-clause-prepared g c = λ not. refl

pub returns-in-Err-Memory-clause-any_moment : goal.returns-in-Err-Memory-clause-any_moment
returns-in-Err-Memory-clause-any_moment g c told =
    untouched c.images_have_the_commits.ensures.commits g.D.Disk.images g.D.Disk.moment g.D.Disk.images_since (added_by c.args.input.now) g.met.D.Disk.since_now c.args.disk.now
