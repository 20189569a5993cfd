use Rattle.std.specs.Vec.Iter.{into_iter_items, into_iter_len}
use Rattle.std.proofs.Common.{◌≡◌, ◌++◌, length, map, Some}
use Rattle.weave_phase.proofs.slots.into_slots.Given as goal

abbrev pub invariant-loop-client : goal.invariant-loop-client
invariant-loop-client l = record {
  all : l.slots.items ++ map Some (into_iter_items l.client-iterator) ≡ map Some l.fn.clients.items;
  long : into_iter_len l.client-iterator ≡ length (into_iter_items l.client-iterator);
}
