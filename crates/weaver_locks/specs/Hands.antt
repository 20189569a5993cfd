-- Hands, and what they have seen.
use Rattle.std.specs.Prelude.{◌≡◌, ℕ, List, ◌++◌, map, length, slice_set, All}
use Rattle.weave_entries.specs.declared.gate_log.GateDeed.{GateDeed}
use Rattle.weave_entries.specs.declared.gate_log.GateEntry.{GateEntry}
use Rattle.weave_entries.specs.declared.shard_log.ShardDeed.{ShardDeed}
use Rattle.weave_entries.specs.declared.shard_log.ShardEntry.{ShardEntry}
use Rattle.weave_entries.specs.declared.store_log.StoreEntry.{StoreEntry}
use Rattle.weave_entries.specs.declared.oracle_log.OracleEntry.{OracleEntry}
use Rattle.weave_account.specs.declared.account.Account.{Account}
use Rattle.weave_account.specs.Account.{gate_log, shard_log}
use Rattle.seen_logs.specs.Entries.{account_of_logs}
use Rattle.seen_logs.specs.Seen.{AreLegal, IsSeenByHand}
use Rattle.chronicle.specs.declared.pass.Pass.{Pass}
use Rattle.chronicle.specs.Locks.{lock_of}
use Rattle.chronicle.specs.Passes.{IsReady, number_of, seen_by_pass, own_entries}
use Rattle.lock_row.specs.Rows.{AreReady}
use Rattle.weaver_locks.specs.declared.hand.Hand.{Hand}
use Rattle.weaver_locks.specs.declared.shared.Shared.{Shared}
use Rattle.weaver_locks.specs.Locks.{start_of}

-- the hand's number, which its entries have as their author's
abbrev pub hand_number : Hand → ℕ
hand_number hand = number_of hand.store

-- what a hand's passes have seen
abbrev pub seen_by : Hand → Account
seen_by hand =
    account_of_logs (map seen_by_pass hand.gates.items) (seen_by_pass hand.store) (seen_by_pass hand.oracle)
    (map seen_by_pass hand.shards.items)

-- the hand's own entries: those with its number
abbrev pub made_by : Hand → Account
made_by hand =
    account_of_logs (map own_entries hand.gates.items) (own_entries hand.store) (own_entries hand.oracle)
    (map own_entries hand.shards.items)

-- logs with these entries at the end of a gatekeeper's, of the store's and the oracle's, of a shard's and the oracle's
abbrev pub with_gate_entries : ℕ → List GateEntry → Account → Account
with_gate_entries gate entries account =
    record account { gates = slice_set account.gates gate (gate_log account gate ++ entries) }

abbrev pub with_store_entries : List StoreEntry → List OracleEntry → Account → Account
with_store_entries entries pairs account =
    record account { store = account.store ++ entries; oracle = account.oracle ++ pairs }

abbrev pub with_shard_entries : ℕ → List ShardEntry → List OracleEntry → Account → Account
with_shard_entries shard entries pairs account = record account {
  oracle = account.oracle ++ pairs;
  shards = slice_set account.shards shard (shard_log account shard ++ entries);
}

-- The hand has a pass of each lock, all with its number, each in no hold. Each list that they have seen is legal, and
-- they have seen all that the entries refer to that the hand made, and that were there at the start.
pub record IsHand (shared : Shared) (hand : Hand) : Type 0 where
  pub gates : length hand.gates.items ≡ length shared.gates.items
  pub shards : length hand.shards.items ≡ length shared.shards.items
  pub gates_ready : AreReady shared.gates.items hand.gates.items
  pub store_ready : IsReady (lock_of shared.store) hand.store
  pub oracle_ready : IsReady (lock_of shared.oracle) hand.oracle
  pub shards_ready : AreReady shared.shards.items hand.shards.items
  pub gate_numbers : All (λ (p : Pass GateDeed). number_of p ≡ hand_number hand) hand.gates.items
  pub oracle_number : number_of hand.oracle ≡ hand_number hand
  pub shard_numbers : All (λ (p : Pass ShardDeed). number_of p ≡ hand_number hand) hand.shards.items
  pub legal : AreLegal (length shared.gates.items) (length shared.shards.items) (seen_by hand)
  pub seen : IsSeenByHand (length shared.shards.items) (hand_number hand) (start_of shared) (seen_by hand)
