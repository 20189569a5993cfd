use Rattle.std.proofs.Common.{◌≡◌, ◌≤◌, ◌<◌, ℕ, true}
use Rattle.order_witness.specs.Heads.{is_done, item}
use Rattle.order_witness.proofs.heads.first_left.Given as goal

abbrev pub invariant-loop-place : goal.invariant-loop-place
invariant-loop-place l = (k : ℕ) → l.from ≤ k → k < l.place → is_done l.done (item l.requests k) ≡ true
