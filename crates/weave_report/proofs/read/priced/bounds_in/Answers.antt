use Rattle.std.proofs.Common.{◌+◌, Some, ap, ◌∙◌, drop, map}
use Rattle.std.proofs.lemmas.Result.{err_from_is_err_and}
use Rattle.weave_report.specs.ReadingPriced.{bounds_from}
use Rattle.weave_report.proofs.ReadingLoops.{bounds_fail, bounds_go_on}
use Rattle.weave_report.proofs.read.priced.bounds_in.Goals as goal

pub returns-in_err-vertex : goal.returns-in_err-vertex
returns-in_err-vertex c =
    let p = err_from_is_err_and c.from_residual.result c.from_residual.ensures.1 in
    rw (p.1, p.2) (bounds_fail c.args.words.now c.loop-word.word-index _ c.loop-word.bounds c.loop-word.last c.in_err-vertex.field-0.0 c.loop-word-test.true c.loop-word.invariant c.in_err-vertex.ensures)

pub loop-word-preserved : goal.loop-word-preserved
loop-word-preserved c =
    ap (λ bounds. bounds_from bounds (Some c.in_ok-vertex.field-0.vertex) (drop (c.loop-word.word-index + 1) (map (λ word. word.now) c.args.words.now))) c.in_ok-push.ensures.ok
    ∙ bounds_go_on c.args.words.now c.loop-word.word-index _ c.loop-word.bounds c.loop-word.last c.in_ok-vertex.field-0 c.loop-word-test.true c.loop-word.invariant c.in_ok-vertex.ensures
