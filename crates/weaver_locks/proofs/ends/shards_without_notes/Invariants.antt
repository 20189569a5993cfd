use Rattle.std.specs.Vec.Iter.{into_iter_items, into_iter_len}
use Rattle.std.proofs.Common.{◌≡◌, ◌≤◌, ◌+◌, ◌++◌, length, map, vec_len, vec_capacity}
use Rattle.weaver_locks.proofs.ends.shards_without_notes.Given as goal

abbrev pub invariant-loop-shard : goal.invariant-loop-shard
invariant-loop-shard l = record {
  all : l.shards.items ++ map (λ n. n.shard) (into_iter_items l.shard-iterator) ≡ map (λ n. n.shard) l.fn.noted.items;
  long : into_iter_len l.shard-iterator ≡ length (into_iter_items l.shard-iterator);
  space : vec_len l.shards + into_iter_len l.shard-iterator ≤ vec_capacity l.shards;
}
