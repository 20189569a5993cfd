use Rattle.std.specs.Vec.Iter.{into_iter_items, into_iter_len}
use Rattle.std.proofs.Common.{◌≡◌, ◌+◌, length}
use Rattle.std.specs.List.{All}
use Rattle.lock_tests.specs.Turns.{IsHandOfNewLocks, IsReadySeat}
use Rattle.lock_tests.proofs.turns.bench.seats_of.Given as goal

abbrev pub invariant-loop-hand : goal.invariant-loop-hand
invariant-loop-hand g l = record {
  ready : All (IsReadySeat l.fn.script l.fn.shared) l.seats.items;
  new : All (IsHandOfNewLocks l.fn.shared) (into_iter_items l.hand-iterator);
  long : into_iter_len l.hand-iterator ≡ length (into_iter_items l.hand-iterator);
  count : length l.seats.items + into_iter_len l.hand-iterator ≡ length l.fn.hands.items;
}
