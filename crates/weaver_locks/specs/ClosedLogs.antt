-- What is known of the logs of machines that came out of their locks. No public contract cites this.
use Rattle.std.specs.Prelude.{◌≡◌, ℕ, ◌<◌, List, All}
use Rattle.weave_entries.specs.declared.oracle_log.OracleEntry.{OracleEntry}
use Rattle.weave_entries.specs.declared.store_log.StoreEntry.{StoreEntry}
use Rattle.gatekeeper.specs.Gates.{GateView}
use Rattle.shard_node.specs.Shards.{ShardView}
use Rattle.seen_logs.specs.Closed.{AreOfHands}
use Rattle.seen_logs.specs.Seen.{AreLegal, IsWithin, VisitsOwnPrograms}
use Rattle.weaver_locks.specs.declared.hand.Hand.{Hand}
use Rattle.weaver_locks.specs.declared.shared.Shared.{Shared}
use Rattle.weaver_locks.specs.Closing.{AreInOrder, AreEntriesOfHands, entries_by, logs_of, seen_by_number}
use Rattle.weaver_locks.specs.Hands.{hand_number, made_by, seen_by}
use Rattle.weaver_locks.specs.Locks.{gate_count, hands_of, shard_count, start_of}

-- the machines are in order, and their logs are what all hands have seen and made since the start
pub record AreClosedLogs (shared : Shared) (hands : List Hand) (gates : List GateView) (store : List StoreEntry)
    (oracle : List OracleEntry) (shards : List ShardView) : Type 0 where
  pub order : AreInOrder gates shards
  pub legal : AreLegal (gate_count shared) (shard_count shared) (logs_of gates store oracle shards)
  pub within : All (λ hand. IsWithin (seen_by hand) (logs_of gates store oracle shards)) hands
  pub entries : AreEntriesOfHands (hands_of shared) (start_of shared) (seen_by_number hands)
      (logs_of gates store oracle shards)
  pub of_hands : ((number : ℕ) → number < hands_of shared
      → VisitsOwnPrograms number (start_of shared) (seen_by_number hands number))
      → AreOfHands (shard_count shared) (hands_of shared) (start_of shared) (seen_by_number hands)
      (logs_of gates store oracle shards)
  pub made : All (λ hand. entries_by (hand_number hand) (logs_of gates store oracle shards) ≡ made_by hand) hands
