use Rattle.std.proofs.Common.{◌<◌, ℕ, slice_index_or}
use Rattle.shard_node.specs.Shards.{ShardView}
use Rattle.weave_entries.specs.ShardRules.{IsShardLog}
use Rattle.weave_phase.proofs.rules.shows_shards.Given as goal

abbrev pub invariant-loop-shard : goal.invariant-loop-shard
invariant-loop-shard l = (k : ℕ) (s : ShardView) → k < l.shard-index
    → IsShardLog (slice_index_or l.shards k s).gates (slice_index_or l.shards k s).log
