use Rattle.std.proofs.Common.{◌≡◌, ◌<◌, ℕ, Some, map, Contains}
use Rattle.vector_stamp.specs.declared.clock.Stamp.{Stamp}
use Rattle.order_witness.specs.Begun.{stamp_in}
use Rattle.order_witness.proofs.rising.begun_by_stamps.Given as goal

abbrev pub invariant-loop-place : goal.invariant-loop-place
invariant-loop-place l = (k : ℕ) (stamp : Stamp) → k < l.place → stamp_in l.replies k ≡ Some stamp → Contains (map (λ (one : ℕ × ℕ × ℕ × ℕ). one.3) l.begun.items) k
