use Rattle.std.proofs.Common.{◌≡◌}
use Rattle.weaver_locks.specs.Hands.{hand_number}
use Rattle.lock_tests.specs.ReadyWorkers.{IsReadyWorker}
use Rattle.lock_tests.proofs.hands.threads.nudge.Given as goal

abbrev pub invariant-loop-from : goal.invariant-loop-from
invariant-loop-from g l = record {
  worker : IsReadyWorker l.shared l.me;
  number : hand_number l.me.hand ≡ hand_number l.initial.me.hand;
}

abbrev pub invariant-loop-from-2 : goal.invariant-loop-from-2
invariant-loop-from-2 g l = record {
  worker : IsReadyWorker l.shared l.me;
  number : hand_number l.me.hand ≡ hand_number l.initial.me.hand;
}
