-- The laws of the crates below that a phase starts by, in one. No public contract cites this.
use Rattle.std.specs.Prelude.{◌≡◌, ℕ, ◌<◌, List, length, map, take, Contains, IsTrue, Some, slice_get, slice_index_or}
use Rattle.vector_stamp.specs.declared.clock.Stamp.{Stamp}
use Rattle.program_defs.specs.declared.script.Script.{Script}
use Rattle.weave_entries.specs.declared.session_log.SessionEntry.{SessionEntry}
use Rattle.weave_entries.specs.SessionReplay.{IsSessionLog, begins_in, has_reply_in, session_of}
use Rattle.weave_account.specs.declared.account.Account.{Account}
use Rattle.weaver_core.specs.declared.client.Client.{Client}
use Rattle.weaver_core.specs.Sessions.{log_of_client}
use Rattle.weaver_locks.specs.declared.hand.Hand.{Hand}
use Rattle.weaver_locks.specs.declared.shared.Shared.{Shared}
use Rattle.weaver_locks.specs.Hands.{seen_by, IsHand}
use Rattle.weaver_locks.specs.Locks.{hands_of, start_of}
use Rattle.weaver_workers.specs.Keeping.{HasLanded, KeepsClient}
use Rattle.workers_account.specs.Phase.{IsClosedBy, IsPhaseEnd, IsPhaseRun, IsPhaseStart, WorkerHasEnded}
use Rattle.workers_account.specs.Ready.{IsAnsweredUpTo}
use Rattle.workers_account.specs.SessionRuns.{HasNoRequest, WasRunForSession}
use Rattle.gatekeeper.specs.Gates.{GateView}
use Rattle.program_defs.specs.Limits.{IsWithinLimits}
use Rattle.seen_logs.specs.Seen.{VisitsOwnPrograms, without_sessions}
use Rattle.shard_node.specs.Shards.{ShardView}
use Rattle.weave_account.specs.Account.{shard_log}
use Rattle.vector_stamp.specs.declared.clock.Clock.{Clock}
use Rattle.weave_account.specs.Clocks.{IsKnown}
use Rattle.weave_account.specs.GoesOn.{GoesOn}
use Rattle.weave_account.specs.IsAccount.{IsAccount}
use Rattle.weave_entries.specs.declared.oracle_log.OracleEntry.{OracleEntry}
use Rattle.weave_entries.specs.declared.store_log.StoreEntry.{StoreEntry}
use Rattle.weave_entries.specs.ShardRules.{IsShardLog}
use Rattle.weave_entries.specs.StoreRule.{IsStoreLog}
use Rattle.weaver_core.specs.declared.split.Split.{Split}
use Rattle.weaver_core.specs.Splitting.{account_of, CanBeJoined, IsGateFor, IsShardFor}
use Rattle.weaver_locks.specs.Closing.{logs_of, seen_by_number, AreInOrder, MayStart}

pub record StartLaws : Type 0 where
  -- split_clients_are_ready
  pub idle : (script : Script) (start : Account) (shared : Shared) (clients : List Client) (hand : Hand)
      → IsPhaseStart script start shared clients → IsHand shared hand → seen_by hand ≡ start_of shared → HasLanded hand
  pub ready : (script : Script) (start : Account) (shared : Shared) (clients : List Client) (hand : Hand) (session : ℕ)
      (client : Client) → IsPhaseStart script start shared clients → IsHand shared hand
      → seen_by hand ≡ start_of shared → slice_get clients session ≡ Some client
      → ((r : ℕ) (stamp : Stamp) → Contains (begins_in (log_of_client client)) (r, stamp)
      → IsTrue (has_reply_in r (log_of_client client))) → KeepsClient shared script session hand client
  -- sessions_go_in_turn
  pub begun_first : (number : ℕ) (requests : List ℕ) (log : List SessionEntry) → IsSessionLog number requests log
      → map (λ (begun : ℕ × Stamp). begun.0) (begins_in log) ≡ take (session_of requests log).begun requests
  -- split_machines_may_start
  pub may_start : (script : Script) (start : Account) (gates : List GateView) (store : List StoreEntry)
      (oracle : List OracleEntry) (shards : List ShardView) → IsWithinLimits script → IsAccount script start
      → logs_of gates store oracle shards ≡ without_sessions start → length gates ≡ script.gates
      → length shards ≡ script.shards → AreInOrder gates shards → IsStoreLog store
      → ((shard : ℕ) → IsShardLog script.gates (shard_log start shard)) → MayStart gates store oracle shards
  -- split_machines_are_in_order, closed_machines_are_parts
  pub order : (split : Split) → CanBeJoined split → AreInOrder split.gates.items split.shards.items
  pub logs : (split : Split) → CanBeJoined split
      → logs_of split.gates.items split.store split.oracle split.shards.items ≡ without_sessions (account_of split)
  pub counts : (split : Split) → CanBeJoined split → (length split.gates.items ≡ split.script.gates)
      × (length split.shards.items ≡ split.script.shards)
  pub parts : (script : Script) (gates : List GateView) (shards : List ShardView) → length gates ≡ script.gates
      → length shards ≡ script.shards → AreInOrder gates shards
      → ((home : ℕ) (gate : GateView) → slice_get gates home ≡ Some gate → IsGateFor script home gate)
      × ((number : ℕ) (shard : ShardView) → slice_get shards number ≡ Some shard → IsShardFor script number shard)
  -- split_shards_keep_the_rules
  pub shards : (split : Split) → CanBeJoined split → ((k : ℕ) (s : ShardView) → k < length split.shards.items
      → IsShardLog (slice_index_or split.shards.items k s).gates (slice_index_or split.shards.items k s).log)
      → (shard : ℕ) → IsShardLog split.script.gates (shard_log (account_of split) shard)
  -- closed_parts_can_be_joined
  pub ends : (shared : Shared) (script : Script) (upto : ℕ) (start : Account) (was is : List Client)
      (hands : List Hand) (closed : Account) → IsPhaseRun shared script upto start was is hands
      → IsClosedBy shared script start is hands closed → IsPhaseEnd script upto start is closed
  -- sessions_run_as_their_workers_end
  pub ran_as : (shared : Shared) (script : Script) (upto : ℕ) (start : Account) (was is : List Client)
      (hands : List Hand) (closed : Account) → IsPhaseRun shared script upto start was is hands
      → IsClosedBy shared script start is hands closed → (session : ℕ)
      → WorkerHasEnded shared script upto is hands session → WasRunForSession script upto session start closed
  pub ran_idle : (script : Script) (from upto session : ℕ) (start closed : Account)
      → HasNoRequest script from upto session → IsAnsweredUpTo script from start → GoesOn start closed
      → WasRunForSession script upto session start closed
  -- hands_of_a_phase_visit_their_own
  pub own_visits : (shared : Shared) (script : Script) (upto : ℕ) (start : Account) (was is : List Client)
      (hands : List Hand) → IsPhaseRun shared script upto start was is hands → (number : ℕ) → number < hands_of shared
      → VisitsOwnPrograms number (start_of shared) (seen_by_number hands number)
  -- facts_stay_true
  pub clocks : (script : Script) (account next : Account) → GoesOn account next → (clock : Clock)
      → IsKnown account clock → IsKnown next clock
