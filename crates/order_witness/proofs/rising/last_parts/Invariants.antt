use Rattle.std.proofs.Common.{◌≡◌, ℕ, map, take}
use Rattle.order_witness.proofs.rising.last_parts.Given as goal

abbrev pub invariant-loop-one : goal.invariant-loop-one
invariant-loop-one l = l.places.items ≡ map (λ (one : ℕ × ℕ × ℕ × ℕ). one.3) (take l.one-index l.begun)
