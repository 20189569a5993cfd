use Rattle.order_witness.specs.Rising.{AreAtPlaces}
use Rattle.order_witness.proofs.replies.are_at_places.Given as goal

abbrev pub invariant-loop-place : goal.invariant-loop-place
invariant-loop-place l = AreAtPlaces l.script l.replies l.place
