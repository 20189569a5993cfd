use Rattle.std.specs.Vec.Iter.{into_iter_items, into_iter_len}
use Rattle.std.proofs.Common.{◌≡◌, ◌≤◌, ◌+◌, ◌++◌, length, map, vec_len, vec_capacity}
use Rattle.std.specs.List.{All}
use Rattle.weaver_locks.proofs.bare.bare_gates.Given as goal

abbrev pub invariant-loop-gate : goal.invariant-loop-gate
invariant-loop-gate l = record {
  all : map (λ b. b.gate) l.bare.items ++ into_iter_items l.gate-iterator ≡ l.fn.gates.items;
  long : into_iter_len l.gate-iterator ≡ length (into_iter_items l.gate-iterator);
  space : vec_len l.bare + into_iter_len l.gate-iterator ≤ vec_capacity l.bare;
  store : All (λ b. b.store.value ≡ l.fn.locks.store) l.bare.items;
  shards : All (λ b. b.shards.value ≡ l.fn.locks.shards) l.bare.items;
}
