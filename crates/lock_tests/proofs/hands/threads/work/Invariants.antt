use Rattle.std.proofs.Common.{◌≡◌}
use Rattle.weaver_locks.specs.Hands.{hand_number}
use Rattle.lock_tests.specs.ReadyWorkers.{IsReadyWorker}
use Rattle.lock_tests.proofs.hands.threads.work.Given as goal

abbrev pub invariant-loop-request : goal.invariant-loop-request
invariant-loop-request g l = record {
  worker : IsReadyWorker l.shared l.me;
  number : hand_number l.me.hand ≡ hand_number l.initial.me.hand;
}
