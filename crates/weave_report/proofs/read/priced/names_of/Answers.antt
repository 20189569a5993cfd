use Rattle.std.proofs.Common.{◌+◌, ap, ◌∙◌, drop, map}
use Rattle.std.proofs.lemmas.Result.{err_from_is_err_and}
use Rattle.weave_report.specs.ReadingFields.{names_from}
use Rattle.weave_report.proofs.ReadingLoops.{names_fail, names_go_on}
use Rattle.weave_report.proofs.read.priced.names_of.Goals as goal

pub returns-in_err-name_in : goal.returns-in_err-name_in
returns-in_err-name_in c =
    let p = err_from_is_err_and c.from_residual.result c.from_residual.ensures.1 in
    rw (p.1, p.2) (names_fail c.args.words.now c.loop-word.word-index _ c.loop-word.names c.in_err-name_in.field-0.0 c.loop-word-test.true c.loop-word.invariant c.in_err-name_in.ensures)

pub loop-word-preserved : goal.loop-word-preserved
loop-word-preserved c =
    ap (λ names. names_from names (drop (c.loop-word.word-index + 1) (map (λ word. word.now) c.args.words.now))) c.in_ok-push.ensures.ok
    ∙ names_go_on c.args.words.now c.loop-word.word-index _ c.loop-word.names c.in_ok-name_in.field-0 c.loop-word-test.true c.loop-word.invariant c.in_ok-name_in.ensures
