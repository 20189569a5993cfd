use Rattle.std.specs.Prelude.{◌≡◌}
use Rattle.weaver_locks.specs.Hands.{made_by}
use Rattle.weaver_workers.specs.Carrying.{Carries, HaveHeardBelow}
use Rattle.weaver_workers.proofs.nudging.nudge.Given as goal

abbrev pub invariant-loop-gate : goal.invariant-loop-gate
invariant-loop-gate g l = record {
  carries : Carries l.fn.shared l.fn.hand l.hand;
  none : (made_by l.hand).shards ≡ (made_by l.fn.hand).shards;
  heard : HaveHeardBelow l.gate l.fn.home l.fn.hand l.hand;
}
