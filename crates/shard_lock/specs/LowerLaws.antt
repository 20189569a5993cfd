-- The laws of the crates below that this crate relies on, in one record. No public contract cites this.
use Rattle.std.specs.Prelude.{◌≡◌, ℕ, ◌≤◌, List, length, Some, None}
use Rattle.weave_entries.specs.declared.message.Message.{Message}
use Rattle.weave_entries.specs.declared.shard_log.ShardDeed.{ShardDeed}
use Rattle.weave_entries.specs.declared.shard_log.ShardEntry.{ShardEntry}
use Rattle.weave_entries.specs.Logs.{AtEachEntry}
use Rattle.weave_entries.specs.declared.store_log.StoreEntry.{StoreEntry}
use Rattle.weave_entries.specs.ShardReplay.{head_of, waits_at}
use Rattle.weave_entries.specs.ShardRules.{IsShardLog, PassesAt}
use Rattle.weave_entries.specs.StoreRule.{IsStoreLog}
use Rattle.weave_account.specs.declared.account.Account.{Account}
use Rattle.weave_account.specs.Account.{shard_log}
use Rattle.weave_account.specs.GoesOn.{IsBeginningOf}
use Rattle.weave_account.specs.Seen.{HasSeen}
use Rattle.seen_logs.specs.References.{ShardRefersAs}
use Rattle.seen_logs.specs.Seen.{AreLegal, GatesGoOn, IsWithin, ShardRefersWithin}

-- what was seen goes on, and heads pass
pub record LawsForShardNotes : Type 0 where
  pub notes : (shards : ℕ) (seen next : Account) → GatesGoOn seen next
      → IsBeginningOf seen.store next.store → IsBeginningOf seen.oracle next.oracle → (shard : ℕ)
      → IsBeginningOf (shard_log seen shard) (shard_log next shard) → ShardRefersWithin shards seen shard
      → AtEachEntry (λ before (entry : ShardEntry). length (shard_log seen shard) ≤ length before
      → ShardRefersAs next shards shard before entry.author entry.deed) (shard_log next shard)
      → ShardRefersWithin shards next shard
  pub stays : (shards shard : ℕ) (seen next : Account) → GatesGoOn seen next
      → IsBeginningOf seen.store next.store → IsBeginningOf seen.oracle next.oracle
      → (before : List ShardEntry) (author : ℕ) (deed : ShardDeed)
      → ShardRefersAs seen shards shard before author deed → ShardRefersAs next shards shard before author deed
  pub beginnings : (gates shards : ℕ) (seen next : Account) → IsWithin seen next → AreLegal gates shards next
      → AreLegal gates shards seen
  pub has_seen : (gates shards : ℕ) (seen : Account) (shard : ℕ) → IsStoreLog seen.store
      → IsShardLog gates (shard_log seen shard) → ShardRefersWithin shards seen shard
      → HasSeen shards seen.store shard (shard_log seen shard)
  pub passes : (shards : ℕ) (store : List StoreEntry) (shard : ℕ) (log : List ShardEntry)
      → HasSeen shards store shard log → (home : ℕ) (head : Message) → head_of home log ≡ Some head
      → waits_at head log ≡ None → PassesAt log head
