use Rattle.std.proofs.Common.{Bool, false, sym, subst, ◌∙◌}
use Rattle.std.specs.Prelude.{MatchBool}
use Rattle.graph_ops.specs.Graphs.{plain_of}
use Rattle.program_defs.specs.PlainAnswer.{IsPlainAnswer}
use Rattle.order_witness.proofs.SameRecords.{answered, said_by_test}
use Rattle.order_witness.proofs.replay.judge_answer.Goals as goal

pub returns-then-is_price-clause-holds : goal.returns-then-is_price-clause-holds
returns-then-is_price-clause-holds c =
    said_by_test c.in_ok-holds.holds (IsPlainAnswer (plain_of c.args.graph.now) c.args.program.now c.args.answer.now) c.in_ok-holds.ensures

pub returns-clause-holds : goal.returns-clause-holds
returns-clause-holds c =
    let graph = plain_of c.args.graph.now in
    let program = c.args.program.now in
    let said = c.args.answer.now in
    subst (λ (b : Bool). MatchBool b (IsPlainAnswer graph program said) (¬ IsPlainAnswer graph program said)) (sym c.same_outcome-holds.ensures)
    (answered c.plain_answer_is_one.ensures graph program c.in_ok-asked.asked.answer said (sym c.is_price.ensures ∙ c.if-is_price.false) c.in_ok-asked.ensures.answer)
