use Rattle.std.proofs.Common.{List, ℕ, subst}
use Rattle.report_rules.specs.PrintedOrder.{IsPrintedOrder}
use Rattle.run_judge.specs.Differences.{IsFirstDifference}
use Rattle.run_judge.proofs.PrintedLaws.{first_place}
use Rattle.run_judge.proofs.printed.first_fault.Goals as goal

pub returns : goal.returns
returns c =
    let report = c.args.report.now in
    let printed : List ℕ = c.in_ok-printed.printed.items in
    let is : IsPrintedOrder report printed = record { taken = c.args.turns.now; in_turn = c.requires; listed = c.in_ok-printed.ensures } in
    first_place c.printed_order_is_one.ensures report printed is c.first_difference.result
    (subst (λ (xs : List ℕ). IsFirstDifference xs report.order c.first_difference.result) c.as_slice.ensures.value
    (subst (λ (xs : List ℕ). IsFirstDifference c.as_slice.result.now xs c.first_difference.result) c.as_slice-2.ensures c.first_difference.ensures))
