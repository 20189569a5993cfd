use Rattle.std.specs.Vec.Iter.{into_iter_items, into_iter_len}
use Rattle.std.proofs.Common.{◌≡◌, ◌++◌, length, map}
use Rattle.lock_tests.specs.ReadyWorkers.{hand_of_worker}
use Rattle.lock_tests.proofs.hands.bench.hands_in.Given as goal

abbrev pub invariant-loop-worker : goal.invariant-loop-worker
invariant-loop-worker g l = record {
  all : l.hands.items ++ map hand_of_worker (into_iter_items l.worker-iterator) ≡ map hand_of_worker l.fn.workers.items;
  long : into_iter_len l.worker-iterator ≡ length (into_iter_items l.worker-iterator);
}
