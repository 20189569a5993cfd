use Rattle.std.proofs.Common.{◌≡◌, length}
use Rattle.report_rules.specs.PrintedOrder.{begun_requests}
use Rattle.order_witness.specs.Heads.{AreWaiting, requests_left}
use Rattle.order_witness.proofs.Printing.{AreTaken}
use Rattle.order_witness.proofs.printed_order.take_all.Given as goal

abbrev pub invariant-loop-turns : goal.invariant-loop-turns
invariant-loop-turns l = record {
  waiting : AreWaiting l.report l.line l.befores l.runs l.seen l.done;
  size : length l.done ≡ length l.report.replies;
  in_turn : AreTaken l.report (begun_requests l.report) l.turns.items (requests_left l.report l.done);
}

abbrev pub decreases-loop-turns : goal.decreases-loop-turns
decreases-loop-turns l = length (requests_left l.report l.done)
