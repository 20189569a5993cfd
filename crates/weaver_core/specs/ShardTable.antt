-- The shards of a core as contracts see them.
use Rattle.std.specs.Prelude.{◌≡◌, ℕ, List, [], ◌∷◌, ◌++◌, map, replicate, slice_get, slice_index_or, slice_set, Some}
use Rattle.shard_node.specs.Shards.{ShardView}
use Rattle.weave_entries.specs.declared.shard_log.ShardEntry.{ShardEntry}
use Rattle.weave_entries.specs.declared.shard_log.ShardDeed.{ShardDeed}

-- the number of gatekeepers, and the log of each shard, in the order of numbers
pub record ShardTable : Type 0 where
  pub gates : ℕ
  pub logs : List (List ShardEntry)

-- the log of a shard; empty if there is none of this number
abbrev pub shard_log_at : ShardTable → ℕ → List ShardEntry
shard_log_at shards number = slice_index_or shards.logs number []

-- a shard's log has one more entry, of author 0, and all else is as before
pub record AddsToShard (old new : ShardTable) (number : ℕ) (deed : ShardDeed) : Type 0 where
  pub logs : new.logs ≡ slice_set old.logs number (shard_log_at old number ++ record { author = 0; deed = deed } ∷ [])
  pub gates : new.gates ≡ old.gates

-- The table inside. No public contract cites what follows.

-- the log of a shard
abbrev pub log_of_shard : ShardView → List ShardEntry
log_of_shard shard = shard.log

-- each shard has its place as its number, and is made for this number of gatekeepers
pub record AreShardsInOrder (gates : ℕ) (shards : List ShardView) : Type 0 where
  pub numbers : (number : ℕ) (shard : ShardView) → slice_get shards number ≡ Some shard → shard.number ≡ number
  pub each_gates : (number : ℕ) (shard : ShardView) → slice_get shards number ≡ Some shard → shard.gates ≡ gates

-- the first shards, before anything arrived
pub record AreFirstShards (count gates : ℕ) (shards : List ShardView) : Type 0 where
  pub in_order : AreShardsInOrder gates shards
  pub logs : map log_of_shard shards ≡ replicate count []
