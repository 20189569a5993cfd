use Rattle.std.proofs.Common.{◌≡◌, IsTrue, not, ◌&&◌, take, length}
use Rattle.weave_data.specs.Facts.{AllHold, facts_in_turn}
use Rattle.report_rules.specs.Lookups.{is_in, may_be_listed}
use Rattle.order_witness.specs.Seen.{AreSeen}
use Rattle.order_witness.proofs.listing.first_out_of_place.Given as goal

abbrev pub invariant-loop-place : goal.invariant-loop-place
invariant-loop-place l = record {
  hold : AllHold (facts_in_turn (λ before r. IsTrue (not (is_in r before) && may_be_listed l.report r)) (take l.place l.order));
  size : length l.seen ≡ length l.initial.seen;
  seen : AreSeen (take l.place l.order) l.seen;
}
