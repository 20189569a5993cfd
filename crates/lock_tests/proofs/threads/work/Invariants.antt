use Rattle.std.proofs.Common.{◌≡◌}
use Rattle.weaver_locks.specs.Hands.{hand_number}
use Rattle.lock_tests.specs.Workers.{IsPlayer}
use Rattle.lock_tests.proofs.threads.work.Given as goal

abbrev pub invariant-loop-turn : goal.invariant-loop-turn
invariant-loop-turn g l = record {
  player : IsPlayer l.shared l.player;
  number : hand_number l.player.worker.hand ≡ hand_number l.initial.player.worker.hand;
}
