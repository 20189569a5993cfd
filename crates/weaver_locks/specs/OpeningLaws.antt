-- The laws of the crates below that new locks rely on, in one record. No public contract cites this.
use Rattle.std.specs.Prelude.{◌≡◌, ℕ, ◌<◌, List, map, length}
use Rattle.weave_entries.specs.declared.gate_log.GateEntry.{GateEntry}
use Rattle.weave_entries.specs.declared.oracle_log.OracleDeed.{OracleDeed}
use Rattle.weave_entries.specs.declared.oracle_log.OracleEntry.{OracleEntry}
use Rattle.weave_entries.specs.declared.shard_log.ShardEntry.{ShardEntry}
use Rattle.weave_entries.specs.declared.store_log.StoreDeed.{StoreDeed}
use Rattle.weave_entries.specs.declared.store_log.StoreEntry.{StoreEntry}
use Rattle.gatekeeper.specs.Gates.{GateView}
use Rattle.shard_node.specs.Shards.{ShardView}
use Rattle.weave_account.specs.declared.account.Account.{Account}
use Rattle.weave_account.specs.Account.{gate_log, shard_log}
use Rattle.weave_account.specs.GoesOn.{IsBeginningOf}
use Rattle.seen_logs.specs.Entries.{gate_entry, gate_pair, oracle_entry, oracle_pair, shard_entry, shard_pair, store_entry, store_pair}
use Rattle.seen_logs.specs.References.{OracleRefersAs, StoreRefersAs}
use Rattle.seen_logs.specs.Seen.{AreLegal, GateRefersWithin, GatesGoOn, IsWithin, ShardRefersWithin}
use Rattle.gate_lock.specs.declared.notes.GateNotes.{GateNotes}
use Rattle.gate_lock.specs.Notes as gate
use Rattle.shard_lock.specs.declared.notes.ShardNotes.{ShardNotes}
use Rattle.shard_lock.specs.Notes as shard

-- machines with notes of whole logs keep their laws, and what was seen goes on
pub record OpeningLaws : Type 0 where
  pub gate_kept : (g : GateView) (notes : GateNotes) (account : Account) → g.home < g.gates
      → length notes.gates.items ≡ g.gates → length notes.shards.items ≡ g.shards
      → AreLegal g.gates g.shards account → GateRefersWithin g.shards account g.home
      → ((k : ℕ) → gate_log (gate.seen_of_gate g notes) k ≡ gate_log account k)
      → (gate.seen_of_gate g notes).store ≡ account.store
      → ((k : ℕ) → shard_log (gate.seen_of_gate g notes) k ≡ shard_log account k) → gate.GateIsKept g notes
  pub shard_kept : (s : ShardView) (shards : ℕ) (notes : ShardNotes) (account : Account) → s.number < shards
      → length notes.gates.items ≡ s.gates → AreLegal s.gates shards account
      → ShardRefersWithin shards account s.number
      → ((k : ℕ) → gate_log (shard.seen_of_shard s notes) k ≡ gate_log account k)
      → (shard.seen_of_shard s notes).store ≡ account.store → (shard.seen_of_shard s notes).oracle ≡ account.oracle
      → s.log ≡ shard_log account s.number → shard.ShardIsKept s shards notes
  pub store_stays : (seen next : Account) → GatesGoOn seen next → IsBeginningOf seen.oracle next.oracle
      → (before : List StoreEntry) (author : ℕ) (deed : StoreDeed)
      → StoreRefersAs seen before author deed → StoreRefersAs next before author deed
  pub oracle_stays : (seen next : Account) → GatesGoOn seen next
      → (deed : OracleDeed) → OracleRefersAs seen deed → OracleRefersAs next deed
  pub beginnings : (gates shards : ℕ) (seen next : Account) → IsWithin seen next → AreLegal gates shards next
      → AreLegal gates shards seen
  pub gate_records : (log : List GateEntry) → map gate_entry (map gate_pair log) ≡ log
  pub store_records : (log : List StoreEntry) → map store_entry (map store_pair log) ≡ log
  pub oracle_records : (log : List OracleEntry) → map oracle_entry (map oracle_pair log) ≡ log
  pub shard_records : (log : List ShardEntry) → map shard_entry (map shard_pair log) ≡ log
