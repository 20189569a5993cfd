use Rattle.std.proofs.Common.{◌≡◌, ◌≤◌, ◌+◌, ◌++◌, take, length}
use Rattle.vector_stamp.specs.Settling.{additions_from, places_of, pairs_of}
use Rattle.timeline_oracle.proofs.settling.put_before.Given as goal

abbrev pub invariant-loop-place : goal.invariant-loop-place
invariant-loop-place l =
    (l.places.items ≡ places_of (additions_from 0 l.initial.graph.pairs (take l.place l.earlier) l.later))
    × (l.graph.pairs ≡ l.initial.graph.pairs ++ pairs_of (additions_from 0 l.initial.graph.pairs (take l.place l.earlier) l.later) l.later)
    × (l.initial.graph.spare ≤ l.place + l.graph.spare)
    × (l.places.len ≤ l.place)
    × (length l.earlier ≤ l.places.cap)
