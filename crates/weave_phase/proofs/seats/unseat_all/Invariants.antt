use Rattle.std.specs.Vec.Iter.{into_iter_items, into_iter_len}
use Rattle.std.proofs.Common.{◌≡◌, ◌≤◌, ◌++◌, drop, length, map}
use Rattle.weave_phase.specs.Seats.{hand_in}
use Rattle.weave_phase.specs.declared.seats.Seat.{Seat}
use Rattle.weave_phase.proofs.SoFar.{UnseatedSoFar}
use Rattle.weave_phase.proofs.seats.unseat_all.Given as goal

abbrev pub invariant-loop-k : goal.invariant-loop-k
invariant-loop-k l = record {
  left : into_iter_items l.k-iterator.iter ≡ drop l.k-iterator.count l.fn.seats.items;
  long : into_iter_len l.k-iterator.iter ≡ length (into_iter_items l.k-iterator.iter);
  hands : l.hands.items ++ map (λ (seat : Seat). hand_in seat.worker) (into_iter_items l.k-iterator.iter) ≡ map (λ (seat : Seat). hand_in seat.worker) l.fn.seats.items;
  within : l.k-iterator.count ≤ length l.fn.seats.items;
  so_far : UnseatedSoFar l.sessions l.k-iterator.count l.fn.seats.items l.initial.slots.items l.slots.items;
}
