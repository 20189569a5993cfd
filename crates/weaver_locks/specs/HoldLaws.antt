-- The laws of the crates below that a hold relies on, in one record. No public contract cites this.
use Rattle.std.specs.Prelude.{◌≡◌, ℕ, List, [], ◌∷◌}
use Rattle.vector_stamp.specs.declared.clock.Stamp.{Stamp}
use Rattle.weave_entries.specs.declared.oracle_log.OracleDeed.{OracleDeed}
use Rattle.weave_entries.specs.declared.shard_log.ShardDeed.{ShardDeed}
use Rattle.weave_entries.specs.declared.shard_log.ShardEntry.{ShardEntry}
use Rattle.weave_entries.specs.declared.store_log.StoreDeed.{StoreDeed}
use Rattle.weave_entries.specs.declared.store_log.StoreEntry.{StoreEntry}
use Rattle.weave_entries.specs.OracleRules.{IsOracleLog}
use Rattle.weave_entries.specs.ShardReplay.{Visit}
use Rattle.weave_account.specs.declared.account.Account.{Account}
use Rattle.weave_account.specs.Account.{Precedence}
use Rattle.weave_account.specs.GoesOn.{IsBeginningOf}
use Rattle.weave_account.specs.Oracle.{seen_last}
use Rattle.seen_logs.specs.References.{OracleRefersAs, ShardRefersAs, StoreRefersAs}
use Rattle.seen_logs.specs.Seen.{GatesGoOn, HasAsked, IsSeenByHand}
use Rattle.weaver_locks.specs.HandLaws.{HandLaws}

-- hands see more, what was seen goes on, and asked pairs precede
pub record HoldLaws : Type 0 where
  pub hand : HandLaws
  pub store_stays : (seen next : Account) → GatesGoOn seen next → IsBeginningOf seen.oracle next.oracle
      → (before : List StoreEntry) (author : ℕ) (deed : StoreDeed)
      → StoreRefersAs seen before author deed → StoreRefersAs next before author deed
  pub oracle_stays : (seen next : Account) → GatesGoOn seen next
      → (deed : OracleDeed) → OracleRefersAs seen deed → OracleRefersAs next deed
  pub shard_stays : (shards shard : ℕ) (seen next : Account) → GatesGoOn seen next
      → IsBeginningOf seen.store next.store → IsBeginningOf seen.oracle next.oracle
      → (before : List ShardEntry) (author : ℕ) (deed : ShardDeed)
      → ShardRefersAs seen shards shard before author deed → ShardRefersAs next shards shard before author deed
  pub asked_precede : (shards number : ℕ) (start seen : Account) → IsSeenByHand shards number start seen
      → IsOracleLog seen.oracle → (shard : ℕ) (before : List ShardEntry) (visit : Visit)
      → HasAsked number start seen shard before visit → (update : Stamp)
      → seen_last before visit ≡ update ∷ [] → Precedence seen update visit.stamp
