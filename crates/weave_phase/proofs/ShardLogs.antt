-- The logs of shards that are made for one number of gatekeepers.
-- Used by `split_shards_keep_the_rules`.
use Rattle.std.proofs.Common.{◌≡◌, ℕ, zero, suc, ◌<◌, List, [], ◌∷◌, length, map, slice_index_or, subst, arith}
use Rattle.shard_node.specs.Shards.{ShardView}
use Rattle.weave_entries.specs.ShardRules.{IsShardLog}
use Rattle.weaver_core.specs.ShardTable.{log_of_shard}

-- each keeps the rules, and so does the empty log of a shard that isn't there
pub logs-keep-the-rules : (gates : ℕ) → IsShardLog gates [] → (shards : List ShardView)
    → ((k : ℕ) (s : ShardView) → k < length shards → (slice_index_or shards k s).gates ≡ gates)
    → ((k : ℕ) (s : ShardView) → k < length shards → IsShardLog (slice_index_or shards k s).gates (slice_index_or shards k s).log)
    → (shard : ℕ) → IsShardLog gates (slice_index_or (map log_of_shard shards) shard [])
logs-keep-the-rules gates none [] made keep shard = none
logs-keep-the-rules gates none (s ∷ shards) made keep zero =
    let first : 0 < length (s ∷ shards) = omega arith in
    subst (λ (n : ℕ). IsShardLog n s.log) (made 0 s first) (keep 0 s first)
logs-keep-the-rules gates none (s ∷ shards) made keep (suc shard) =
    logs-keep-the-rules gates none shards (λ k d low. made (suc k) d (omega (arith, low))) (λ k d low. keep (suc k) d (omega (arith, low))) shard
