use Rattle.std.proofs.Common.{◌≡◌, ◌<◌, ℕ, slice_index_or, vec_len}
use Rattle.shard_node.specs.Shards.{ShardView}
use Rattle.weaver_locks.specs.Closing.{IsNewShard}
use Rattle.lock_tests.proofs.machines.new_shards.Given as goal

abbrev pub invariant-loop-number : goal.invariant-loop-number
invariant-loop-number g l = record {
  count : vec_len l.made ≡ l.number;
  new : (k : ℕ) (d : ShardView) → k < vec_len l.made → IsNewShard k l.fn.gates (slice_index_or l.made.items k d);
}
