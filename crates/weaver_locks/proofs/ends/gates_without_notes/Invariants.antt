use Rattle.std.specs.Vec.Iter.{into_iter_items, into_iter_len}
use Rattle.std.proofs.Common.{◌≡◌, ◌≤◌, ◌+◌, ◌++◌, length, map, vec_len, vec_capacity}
use Rattle.weaver_locks.proofs.ends.gates_without_notes.Given as goal

abbrev pub invariant-loop-gate : goal.invariant-loop-gate
invariant-loop-gate l = record {
  all : l.gates.items ++ map (λ n. n.gate) (into_iter_items l.gate-iterator) ≡ map (λ n. n.gate) l.fn.noted.items;
  long : into_iter_len l.gate-iterator ≡ length (into_iter_items l.gate-iterator);
  space : vec_len l.gates + into_iter_len l.gate-iterator ≤ vec_capacity l.gates;
}
