-- The laws of the crates below on what hands have seen, in one. No public contract cites this.
use Rattle.std.specs.Prelude.{◌≡◌, ℕ, ◌<◌, List, [], ◌∷◌, ◌++◌, length, slice_index_or}
use mathlib.Core.List.{IsPrefix}
use Rattle.weave_entries.specs.declared.gate_log.GateDeed.{GateDeed}
use Rattle.weave_entries.specs.declared.gate_log.GateEntry.{GateEntry}
use Rattle.weave_entries.specs.declared.oracle_log.OracleDeed.{OracleDeed}
use Rattle.weave_entries.specs.declared.oracle_log.OracleEntry.{OracleEntry}
use Rattle.weave_entries.specs.declared.shard_log.ShardDeed.{ShardDeed}
use Rattle.weave_entries.specs.declared.shard_log.ShardEntry.{ShardEntry}
use Rattle.weave_entries.specs.declared.store_log.StoreDeed.{StoreDeed}
use Rattle.weave_entries.specs.declared.store_log.StoreEntry.{StoreEntry}
use Rattle.weave_entries.specs.ShardRules.{IsShardLog}
use Rattle.weave_account.specs.declared.account.Account.{Account}
use Rattle.weave_account.specs.Account.{gate_log, shard_log}
use Rattle.weave_account.specs.GoesOn.{IsBeginningOf}
use Rattle.seen_logs.specs.Entries.{account_of_logs, gate_entries, gate_pairs, oracle_entries, oracle_pairs, shard_entries, shard_pairs, store_entries, store_pairs}
use Rattle.seen_logs.specs.Seen.{AddsAsSeen, AreBeginnings, AreLegal, IsSeenByHand, IsWithin}
use Rattle.chronicle.specs.Logs.{Log, entries_of}

-- if what is seen has all of the author's entries in the log, each of them has a place there
abbrev pub KeepsPlaces : Type 0 → Type 0
KeepsPlaces E = (author : ℕ) (seen log before after : Log E) (entry : ℕ × E) → IsPrefix seen log
    → entries_of author log ≡ entries_of author seen → log ≡ before ++ entry ∷ after → entry.0 ≡ author
    → length before < length seen

-- hands see more, own entries were seen, and entries are pairs
pub record HandLaws : Type 0 where
  pub see_more : (gates shards number : ℕ) (start seen next : Account) → IsSeenByHand shards number start seen
      → IsWithin seen next → ((shard : ℕ) → IsShardLog gates (shard_log next shard))
      → AddsAsSeen shards number start seen next → IsSeenByHand shards number start next
  pub legal_before : (gates shards : ℕ) (seen next : Account) → IsWithin seen next → AreLegal gates shards next
      → AreLegal gates shards seen
  pub gate_places : KeepsPlaces GateDeed
  pub store_places : KeepsPlaces StoreDeed
  pub oracle_places : KeepsPlaces OracleDeed
  pub shard_places : KeepsPlaces ShardDeed
  pub gate_records : (log : List GateEntry) → gate_entries (gate_pairs log) ≡ log
  pub store_records : (log : List StoreEntry) → store_entries (store_pairs log) ≡ log
  pub oracle_records : (log : List OracleEntry) → oracle_entries (oracle_pairs log) ≡ log
  pub shard_records : (log : List ShardEntry) → shard_entries (shard_pairs log) ≡ log
  pub gate_back : (log : Log GateDeed) → gate_pairs (gate_entries log) ≡ log
  pub store_back : (log : Log StoreDeed) → store_pairs (store_entries log) ≡ log
  pub oracle_back : (log : Log OracleDeed) → oracle_pairs (oracle_entries log) ≡ log
  pub shard_back : (log : Log ShardDeed) → shard_pairs (shard_entries log) ≡ log
  pub at_gate : (gates : List (Log GateDeed)) (store : Log StoreDeed) (oracle : Log OracleDeed)
      (shards : List (Log ShardDeed)) (home : ℕ)
      → gate_log (account_of_logs gates store oracle shards) home ≡ gate_entries (slice_index_or gates home [])
  pub at_shard : (gates : List (Log GateDeed)) (store : Log StoreDeed) (oracle : Log OracleDeed)
      (shards : List (Log ShardDeed)) (shard : ℕ)
      → shard_log (account_of_logs gates store oracle shards) shard ≡ shard_entries (slice_index_or shards shard [])
  pub within : (gates next_gates : List (Log GateDeed)) (store next_store : Log StoreDeed)
      (oracle next_oracle : Log OracleDeed) (shards next_shards : List (Log ShardDeed))
      → AreBeginnings gates next_gates → IsBeginningOf store next_store → IsBeginningOf oracle next_oracle
      → AreBeginnings shards next_shards
      → IsWithin (account_of_logs gates store oracle shards)
      (account_of_logs next_gates next_store next_oracle next_shards)
