use Rattle.std.proofs.Common.{◌≡◌, ℕ, ◌<◌, false, get_or}
use Rattle.oracle_chain.specs.Held.{HeldView}
use Rattle.oracle_chain.proofs.ends.next_live.Given as goal

abbrev pub invariant-loop-other : goal.invariant-loop-other
invariant-loop-other l = (k : ℕ) (d : HeldView) → l.number < k → k < l.other → (get_or l.replicas k d).live ≡ false
