use Rattle.std.proofs.Common.{◌≡◌, ◌+◌, length}
use Rattle.order_witness.specs.Begun.{is_request_before}
use Rattle.order_witness.specs.ByNumber.{list_at}
use Rattle.order_witness.specs.Preceding.{leads_directly}
use Rattle.order_witness.specs.Marks.{AreLookedAt, ArePreceders, ArePassed, not_marked}
use Rattle.order_witness.proofs.walk.mark_before.Given as goal

abbrev pub invariant-loop-request : goal.invariant-loop-request
invariant-loop-request l = record {
  size : length l.marked ≡ length l.fn.marked;
  passed : ArePassed l.line l.marked l.runs l.passed;
  marked : ArePreceders (leads_directly (is_request_before l.report) (list_at l.befores)) l.order (l.place + 1) l.marked l.due.items;
  looked : AreLookedAt (leads_directly (is_request_before l.report) (list_at l.befores)) l.marked l.looked;
}

abbrev pub decreases-loop-request : goal.decreases-loop-request
decreases-loop-request l = length l.due.items + not_marked l.marked
