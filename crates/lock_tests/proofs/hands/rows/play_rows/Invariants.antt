use Rattle.std.proofs.Common.{◌≡◌, vec_len}
use Rattle.lock_tests.specs.ReadyWorkers.{AreWorkers}
use Rattle.lock_tests.proofs.hands.rows.play_rows.Given as goal

abbrev pub invariant-loop-who : goal.invariant-loop-who
invariant-loop-who g l = record {
  workers : AreWorkers l.fn.shared l.workers.items;
  count : vec_len l.workers ≡ vec_len l.initial.workers;
}
