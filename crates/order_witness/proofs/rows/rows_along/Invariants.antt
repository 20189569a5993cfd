use Rattle.std.proofs.Common.{◌≡◌, length}
use Rattle.order_witness.specs.Begun.{is_request_before}
use Rattle.order_witness.specs.ByNumber.{list_at}
use Rattle.order_witness.specs.Preceding.{leads_directly}
use Rattle.order_witness.specs.Rows.{AreRowsOfCounts}
use Rattle.order_witness.proofs.rows.rows_along.Given as goal

abbrev pub invariant-loop-turn : goal.invariant-loop-turn
invariant-loop-turn l = record {
  size : length l.rows.items ≡ l.count;
  rows : AreRowsOfCounts (leads_directly (is_request_before l.report) (list_at l.befores)) l.line l.runs l.turns l.turn l.rows.items;
}
