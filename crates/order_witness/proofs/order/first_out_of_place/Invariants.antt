use Rattle.std.proofs.Common.{◌≡◌, [], length, take}
use Rattle.weave_data.specs.Facts.{AllHold, facts_in_turn}
use Rattle.report_rules.specs.RightReport.{IsListedInOrder}
use Rattle.order_witness.specs.Marks.{AreLookedAt, ArePreceders, ArePassed}
use Rattle.order_witness.specs.Preceding.{direct_steps}
use Rattle.order_witness.specs.Tops.{AreBelowTops}
use Rattle.order_witness.proofs.order.first_out_of_place.Given as goal

abbrev pub invariant-loop-place : goal.invariant-loop-place
invariant-loop-place l = record {
  hold : AllHold (facts_in_turn (IsListedInOrder l.script l.report) (take l.place l.order));
  size : length l.marked ≡ length l.report.replies;
  passed : ArePassed l.line l.marked l.runs l.passed;
  marked : ArePreceders (direct_steps l.report l.befores) l.order l.place l.marked [];
  looked : AreLookedAt (direct_steps l.report l.befores) l.marked l.looked;
  tops : AreBelowTops l.script (take l.place l.order) l.tops;
}
