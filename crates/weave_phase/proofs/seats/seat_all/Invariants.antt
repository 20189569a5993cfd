use Rattle.std.specs.Vec.Iter.{into_iter_items, into_iter_len}
use Rattle.std.proofs.Common.{◌≡◌, ◌≤◌, drop, length}
use Rattle.weave_phase.proofs.SoFar.{SeatedSoFar}
use Rattle.weave_phase.proofs.seats.seat_all.Given as goal

abbrev pub invariant-loop-k : goal.invariant-loop-k
invariant-loop-k l = record {
  left : into_iter_items l.k-iterator.iter ≡ drop l.k-iterator.count l.fn.hands.items;
  long : into_iter_len l.k-iterator.iter ≡ length (into_iter_items l.k-iterator.iter);
  within : l.k-iterator.count ≤ length l.fn.hands.items;
  so_far : SeatedSoFar l.sessions l.gates l.k-iterator.count l.fn.hands.items l.initial.slots.items l.slots.items l.seats.items;
}
