use Rattle.std.proofs.Common.{◌≡◌, ℕ, map, take}
use Rattle.order_witness.proofs.rising.second_parts.Given as goal

abbrev pub invariant-loop-one : goal.invariant-loop-one
invariant-loop-one l = l.places.items ≡ map (λ (one : ℕ × ℕ). one.1) (take l.one-index l.requests)
