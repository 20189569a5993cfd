use Rattle.std.proofs.Common.{◌≡◌, All, Option, None}
use Rattle.std.specs.Vec.{vec_len}
use Rattle.vector_stamp.specs.declared.clock.Clock.{Clock}
use Rattle.shard_node.proofs.low_marks.no_low_marks.Given as goal

abbrev pub invariant-loop-gate : goal.invariant-loop-gate
invariant-loop-gate l = (vec_len l.lows ≡ l._gate) × All (λ (low : Option Clock). low ≡ None) l.lows.items
