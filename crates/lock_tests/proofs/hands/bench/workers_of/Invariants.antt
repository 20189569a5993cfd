use Rattle.std.specs.Vec.Iter.{into_iter_items, into_iter_len}
use Rattle.std.proofs.Common.{◌≡◌, ◌++◌, length, map}
use Rattle.lock_tests.specs.ReadyWorkers.{worker_of}
use Rattle.lock_tests.proofs.hands.bench.workers_of.Given as goal

abbrev pub invariant-loop-hand : goal.invariant-loop-hand
invariant-loop-hand g l = record {
  all : l.workers.items ++ map worker_of (into_iter_items l.hand-iterator) ≡ map worker_of l.fn.hands.items;
  long : into_iter_len l.hand-iterator ≡ length (into_iter_items l.hand-iterator);
}
