use Rattle.std.proofs.Common.{ℕ, suc, ◌≤◌, ◌++◌, List, length}
use Rattle.order_witness.specs.Spreading.{IsFoundThrough}
use Rattle.order_witness.proofs.chain.follow.Given as goal

abbrev pub invariant-loop-at : goal.invariant-loop-at
invariant-loop-at l = record {
  within : l.at ≤ length l.found;
  so_far : (rest : List ℕ) → IsFoundThrough l.b l.found l.from l.at rest → IsFoundThrough l.b l.found l.from (suc l.place) (l.chain.items ++ rest);
}

abbrev pub decreases-loop-at : goal.decreases-loop-at
decreases-loop-at l = l.at
