use Rattle.std.specs.Vec.Iter.{into_iter_items, into_iter_len}
use Rattle.std.proofs.Common.{◌≡◌, ◌≤◌, ◌+◌, ◌++◌, length, map, vec_len, vec_capacity}
use Rattle.std.specs.List.{All}
use Rattle.weaver_locks.proofs.bare.bare_shards.Given as goal

abbrev pub invariant-loop-shard : goal.invariant-loop-shard
invariant-loop-shard l = record {
  all : map (λ b. b.shard) l.bare.items ++ into_iter_items l.shard-iterator ≡ l.fn.shards.items;
  long : into_iter_len l.shard-iterator ≡ length (into_iter_items l.shard-iterator);
  space : vec_len l.bare + into_iter_len l.shard-iterator ≤ vec_capacity l.bare;
  count : All (λ b. b.shards ≡ l.fn.count) l.bare.items;
  gates : All (λ b. b.gates.value ≡ l.fn.locks.gates) l.bare.items;
  store : All (λ b. b.store.value ≡ l.fn.locks.store) l.bare.items;
  oracle : All (λ b. b.oracle.value ≡ l.fn.locks.oracle) l.bare.items;
}
