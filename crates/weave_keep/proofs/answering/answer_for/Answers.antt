use Rattle.std.proofs.Common.{rules, ◌≡◌, true, false, Ok, inl, inr, refl, sym}
use Rattle.store_journal.proofs.Moments.{weaker}
use Rattle.weave_keep.specs.KeepEnds.{HasAdded, added_if_read}
use Rattle.weave_keep.specs.KeptReports.{can_be_kept, commits_of_script}
use Rattle.weave_keep.proofs.Journals.{less_of, same_added, untouched}
use Rattle.weave_keep.proofs.Prepared.{added_by_script}
use Rattle.weave_keep.proofs.Versions.{all_kept}
use Rattle.weave_keep.proofs.answering.answer_for.Goals as goal

pub report_kept-requires : goal.report_kept-requires
report_kept-requires g c =
    let laws = c.scripts_are_small.ensures in
    all_kept c.requires.joins c.args.script.now.requests c.requires.version (laws.operations c.args.script.now c.requires) (laws.requests c.args.script.now c.requires)

pub returns-then-can_be_kept-clause-answered : goal.returns-then-can_be_kept-clause-answered
returns-then-can_be_kept-clause-answered g c =
    let can : can_be_kept c.args.script.now ≡ true = search rules in
    inl (can, c.report_kept.ensures.ends)

pub returns-then-can_be_kept-clause-any_moment : goal.returns-then-can_be_kept-clause-any_moment
returns-then-can_be_kept-clause-any_moment g c told =
    let can : can_be_kept c.args.script.now ≡ true = search rules in
    weaker g.D.Disk.moment g.D.Disk.images_since c.args.disk.now c.report_kept.new.disk _ _ (c.report_kept.ensures.any_moment told)
    (less_of (HasAdded (λ recovered. commits_of_script recovered c.args.script.now)) (HasAdded (λ recovered. added_if_read recovered (Ok c.args.script.now)))
    (same_added (λ recovered. commits_of_script recovered c.args.script.now) (λ recovered. added_if_read recovered (Ok c.args.script.now)) (λ recovered. sym (added_by_script c.args.script.now recovered can)))
    (g.D.Disk.images c.args.disk.now))

pub returns-clause-answered : goal.returns-clause-answered
returns-clause-answered g c =
    let cannot : can_be_kept c.args.script.now ≡ false = search rules in
    inr (cannot, refl, c.refused.ensures)

pub returns-clause-any_moment : goal.returns-clause-any_moment
returns-clause-any_moment g c told =
    untouched c.images_have_the_commits.ensures.commits g.D.Disk.images g.D.Disk.moment g.D.Disk.images_since (λ recovered. added_if_read recovered (Ok c.args.script.now)) g.met.D.Disk.since_now c.args.disk.now
