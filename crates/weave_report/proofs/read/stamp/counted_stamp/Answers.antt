use Rattle.std.proofs.Common.{ℕ, List, [], subst, arith}
use Rattle.std.proofs.lemmas.Result.{err_from_is_err_and}
use Rattle.weave_report.specs.ReadAnswers.{Gives}
use Rattle.weave_report.specs.ReadingFields.{stamp_with_counts}
use Rattle.weave_report.proofs.ListsRead.{few_are_all}
use Rattle.weave_report.proofs.ReadingLoops.{fails, done, exactly_gives}
use Rattle.weave_report.proofs.read.stamp.counted_stamp.Goals as goal

pub returns-in_err-counts : goal.returns-in_err-counts
returns-in_err-counts c =
    let p = err_from_is_err_and c.from_residual.result c.from_residual.ensures.1 in
    rw (p.1, p.2) (fails c.in_err-counts.field-0.0 _ (λ counts. stamp_with_counts c.args.gates c.args.epoch c.args.home counts) _
    (few_are_all c.args.gates c.args.epoch c.args.home [] c.args.words (omega arith)) c.in_err-counts.ensures)

pub returns : goal.returns
returns c =
    let stamp = λ (counts : List ℕ). stamp_with_counts c.args.gates c.args.epoch c.args.home counts in
    subst (Gives c.stamp_of.result) (done c.in_ok-counts.counts _ stamp _ (few_are_all c.args.gates c.args.epoch c.args.home [] c.args.words (omega arith)) c.in_ok-counts.ensures)
    (subst (λ counts. Gives c.stamp_of.result (stamp counts)) c.as_slice.ensures (exactly_gives c.stamp_of.result _ c.stamp_of.ensures))
