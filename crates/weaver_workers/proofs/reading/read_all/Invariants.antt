use Rattle.weaver_locks.specs.Hands.{IsHand}
use Rattle.weaver_workers.specs.Turning.{stand, KeepsOn, RunsIn}
use Rattle.weaver_workers.proofs.reading.read_all.Given as goal

abbrev pub invariant-loop : goal.invariant-loop
invariant-loop g l = record {
  hand : IsHand l.fn.shared l.hand;
  runs : RunsIn l.fn.shared (stand l.hand l.client);
  goes : KeepsOn l.fn.shared (stand l.fn.hand l.fn.client) (stand l.hand l.client);
}
