use Rattle.std.proofs.Common.{◌≡◌, ◌<◌, ℕ}
use Rattle.order_witness.specs.Heads.{item}
use Rattle.order_witness.proofs.chain.first_place.Given as goal

abbrev pub invariant-loop-place : goal.invariant-loop-place
invariant-loop-place l = (k : ℕ) → k < l.place → ¬ (item l.numbers k ≡ l.number)
