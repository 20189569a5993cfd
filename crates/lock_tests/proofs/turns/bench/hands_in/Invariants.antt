use Rattle.std.specs.Vec.Iter.{into_iter_items, into_iter_len}
use Rattle.std.proofs.Common.{◌≡◌, ℕ, ◌<◌, ◌++◌, get_or, length, map}
use Rattle.weaver_locks.specs.declared.hand.Hand.{Hand}
use Rattle.weaver_locks.specs.Hands.{hand_number}
use Rattle.lock_tests.specs.Turns.{hand_of_seat}
use Rattle.lock_tests.proofs.turns.bench.hands_in.Given as goal

abbrev pub invariant-loop-seat : goal.invariant-loop-seat
invariant-loop-seat g l = record {
  all : l.hands.items ++ map hand_of_seat (into_iter_items l.seat-iterator) ≡ map hand_of_seat l.fn.seats.items;
  long : into_iter_len l.seat-iterator ≡ length (into_iter_items l.seat-iterator);
  numbers : (k : ℕ) (h : Hand) → k < length l.hands.items → hand_number (get_or l.hands.items k h) ≡ k;
}
