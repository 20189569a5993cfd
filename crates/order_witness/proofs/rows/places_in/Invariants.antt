use Rattle.std.proofs.Common.{◌≡◌, length}
use Rattle.order_witness.specs.Rows.{ArePlacesIn}
use Rattle.order_witness.proofs.rows.places_in.Given as goal

abbrev pub invariant-loop-place : goal.invariant-loop-place
invariant-loop-place l = record {
  size : length l.places.items ≡ l.count;
  placed : ArePlacesIn l.line l.count l.place l.places.items;
}
