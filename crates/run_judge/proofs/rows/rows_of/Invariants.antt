use Rattle.std.proofs.Common.{◌≡◌, length}
use Rattle.order_witness.specs.Begun.{is_request_before}
use Rattle.order_witness.specs.ByNumber.{list_at}
use Rattle.order_witness.specs.Preceding.{LeadsBySteps, leads_directly}
use Rattle.run_judge.specs.Rows.{AreTurnRows}
use Rattle.run_judge.proofs.rows.rows_of.Given as goal

abbrev pub invariant-loop-turn : goal.invariant-loop-turn
invariant-loop-turn l = record {
  size : length l.rows.items ≡ length l.report.replies;
  rows : AreTurnRows (LeadsBySteps (leads_directly (is_request_before l.report) (list_at l.ends))) l.chains l.spots l.turns l.turn l.rows.items;
}
