use Rattle.std.specs.Vec.Iter.{into_iter_items, into_iter_len}
use Rattle.std.proofs.Common.{◌≡◌, ◌++◌, length, map, Some}
use Rattle.weave_phase.proofs.slots.from_slots.Given as goal

abbrev pub invariant-loop-slot : goal.invariant-loop-slot
invariant-loop-slot l = record {
  all : map Some l.clients.items ++ into_iter_items l.slot-iterator ≡ l.fn.slots.items;
  long : into_iter_len l.slot-iterator ≡ length (into_iter_items l.slot-iterator);
}
