use Rattle.std.proofs.Common.{◌≡◌}
use Rattle.weaver_locks.specs.Hands.{hand_number}
use Rattle.lock_tests.specs.ReadyWorkers.{IsReadyWorker}
use Rattle.lock_tests.proofs.hands.threads.transact_when_free.Given as goal

abbrev pub invariant-loop : goal.invariant-loop
invariant-loop g l = record {
  worker : IsReadyWorker l.shared l.me;
  number : hand_number l.me.hand ≡ hand_number l.initial.me.hand;
}
