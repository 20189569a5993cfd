-- Entries as pairs of an author and a deed, as the logs of locks have them, and as records, as the logs of machines and
-- accounts have them.
use Rattle.std.specs.Prelude.{ℕ, List, [], map}
use Rattle.weave_entries.specs.declared.gate_log.GateDeed.{GateDeed}
use Rattle.weave_entries.specs.declared.gate_log.GateEntry.{GateEntry}
use Rattle.weave_entries.specs.declared.oracle_log.OracleDeed.{OracleDeed}
use Rattle.weave_entries.specs.declared.oracle_log.OracleEntry.{OracleEntry}
use Rattle.weave_entries.specs.declared.shard_log.ShardDeed.{ShardDeed}
use Rattle.weave_entries.specs.declared.shard_log.ShardEntry.{ShardEntry}
use Rattle.weave_entries.specs.declared.store_log.StoreDeed.{StoreDeed}
use Rattle.weave_entries.specs.declared.store_log.StoreEntry.{StoreEntry}
use Rattle.weave_account.specs.declared.account.Account.{Account}

-- Gatekeepers

-- an entry as a pair
abbrev pub gate_pair : GateEntry → ℕ × GateDeed
gate_pair entry = (entry.author, entry.deed)

-- a pair as an entry
abbrev pub gate_entry : ℕ × GateDeed → GateEntry
gate_entry pair = record { author = pair.0; deed = pair.1 }

-- a machine's log as its lock has it
abbrev pub gate_pairs : List GateEntry → List (ℕ × GateDeed)
gate_pairs log = map gate_pair log

-- a lock's log as its machine has it
abbrev pub gate_entries : List (ℕ × GateDeed) → List GateEntry
gate_entries log = map gate_entry log

-- The store

-- an entry as a pair
abbrev pub store_pair : StoreEntry → ℕ × StoreDeed
store_pair entry = (entry.author, entry.deed)

-- a pair as an entry
abbrev pub store_entry : ℕ × StoreDeed → StoreEntry
store_entry pair = record { author = pair.0; deed = pair.1 }

-- a machine's log as its lock has it
abbrev pub store_pairs : List StoreEntry → List (ℕ × StoreDeed)
store_pairs log = map store_pair log

-- a lock's log as its machine has it
abbrev pub store_entries : List (ℕ × StoreDeed) → List StoreEntry
store_entries log = map store_entry log

-- The oracle

-- an entry as a pair
abbrev pub oracle_pair : OracleEntry → ℕ × OracleDeed
oracle_pair entry = (entry.author, entry.deed)

-- a pair as an entry
abbrev pub oracle_entry : ℕ × OracleDeed → OracleEntry
oracle_entry pair = record { author = pair.0; deed = pair.1 }

-- a machine's log as its lock has it
abbrev pub oracle_pairs : List OracleEntry → List (ℕ × OracleDeed)
oracle_pairs log = map oracle_pair log

-- a lock's log as its machine has it
abbrev pub oracle_entries : List (ℕ × OracleDeed) → List OracleEntry
oracle_entries log = map oracle_entry log

-- Shards

-- an entry as a pair
abbrev pub shard_pair : ShardEntry → ℕ × ShardDeed
shard_pair entry = (entry.author, entry.deed)

-- a pair as an entry
abbrev pub shard_entry : ℕ × ShardDeed → ShardEntry
shard_entry pair = record { author = pair.0; deed = pair.1 }

-- a machine's log as its lock has it
abbrev pub shard_pairs : List ShardEntry → List (ℕ × ShardDeed)
shard_pairs log = map shard_pair log

-- a lock's log as its machine has it
abbrev pub shard_entries : List (ℕ × ShardDeed) → List ShardEntry
shard_entries log = map shard_entry log

-- All logs

-- what was seen of the logs of locks, as an account
abbrev pub account_of_logs : List (List (ℕ × GateDeed)) → List (ℕ × StoreDeed) → List (ℕ × OracleDeed)
    → List (List (ℕ × ShardDeed)) → Account
account_of_logs gates store oracle shards = record {
  gates = map gate_entries gates;
  store = store_entries store;
  oracle = oracle_entries oracle;
  shards = map shard_entries shards;
  sessions = [];
}
