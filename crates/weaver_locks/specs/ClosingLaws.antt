-- The laws of the crates below that closed logs rely on, in one record. No public contract cites this.
use Rattle.std.specs.Prelude.{◌≡◌, ℕ, ◌<◌, ◌≤◌, List, ◌∷◌, ◌++◌, map, length}
use Rattle.weave_entries.specs.declared.gate_log.GateDeed.{GateDeed}
use Rattle.weave_entries.specs.declared.gate_log.GateEntry.{GateEntry}
use Rattle.weave_entries.specs.declared.oracle_log.OracleDeed.{OracleDeed}
use Rattle.weave_entries.specs.declared.oracle_log.OracleEntry.{OracleEntry}
use Rattle.weave_entries.specs.declared.shard_log.ShardDeed.{ShardDeed}
use Rattle.weave_entries.specs.declared.shard_log.ShardEntry.{ShardEntry}
use Rattle.weave_entries.specs.declared.store_log.StoreDeed.{StoreDeed}
use Rattle.weave_entries.specs.declared.store_log.StoreEntry.{StoreEntry}
use Rattle.weave_account.specs.GoesOn.{IsBeginningOf}
use Rattle.seen_logs.specs.Entries.{account_of_logs, gate_entry, gate_pair, oracle_entry, oracle_pair, shard_entry, shard_pair, store_entry, store_pair}
use Rattle.seen_logs.specs.Seen.{AreBeginnings, IsWithin}
use Rattle.chronicle.specs.Logs.{IsGrown}
use Rattle.weaver_locks.specs.HandLaws.{KeepsPlaces}

-- where the entries of authors are
pub record OwnEntries (E : Type 0) : Type 0 where
  pub authors : (passes : ℕ) (start log before after : List (ℕ × E)) (entry : ℕ × E) → IsGrown passes start log
      → log ≡ before ++ entry ∷ after → length start ≤ length before → entry.0 < passes
  pub places : KeepsPlaces E

-- the law of accounts of logs of locks that is used here
abbrev pub MoreIsSeen : Type 0
MoreIsSeen = (gates next_gates : List (List (ℕ × GateDeed))) (store next_store : List (ℕ × StoreDeed))
    → (oracle next_oracle : List (ℕ × OracleDeed)) (shards next_shards : List (List (ℕ × ShardDeed)))
    → AreBeginnings gates next_gates → IsBeginningOf store next_store → IsBeginningOf oracle next_oracle
    → AreBeginnings shards next_shards
    → IsWithin (account_of_logs gates store oracle shards)
    (account_of_logs next_gates next_store next_oracle next_shards)

-- the laws that the closed logs rely on
pub record ClosingLaws : Type 0 where
  pub gate_entries : OwnEntries GateDeed
  pub store_entries : OwnEntries StoreDeed
  pub oracle_entries : OwnEntries OracleDeed
  pub shard_entries : OwnEntries ShardDeed
  pub gate_back : (log : List (ℕ × GateDeed)) → map gate_pair (map gate_entry log) ≡ log
  pub store_back : (log : List (ℕ × StoreDeed)) → map store_pair (map store_entry log) ≡ log
  pub oracle_back : (log : List (ℕ × OracleDeed)) → map oracle_pair (map oracle_entry log) ≡ log
  pub shard_back : (log : List (ℕ × ShardDeed)) → map shard_pair (map shard_entry log) ≡ log
  pub more : MoreIsSeen
  pub gate_records : (log : List GateEntry) → map gate_entry (map gate_pair log) ≡ log
  pub store_records : (log : List StoreEntry) → map store_entry (map store_pair log) ≡ log
  pub oracle_records : (log : List OracleEntry) → map oracle_entry (map oracle_pair log) ≡ log
  pub shard_records : (log : List ShardEntry) → map shard_entry (map shard_pair log) ≡ log
