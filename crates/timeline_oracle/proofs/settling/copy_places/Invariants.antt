use Rattle.std.proofs.Common.{◌≡◌, ◌≤◌, take, length}
use Rattle.timeline_oracle.proofs.settling.copy_places.Given as goal

abbrev pub invariant-loop-place : goal.invariant-loop-place
invariant-loop-place l = (l.copy.items ≡ take l.place-index l.places) × (length l.places ≤ l.copy.cap)
