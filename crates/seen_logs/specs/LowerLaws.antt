-- The laws of the crates below that the laws of this crate rely on, in one record. No public contract cites this.
use Rattle.std.specs.Prelude.{◌≡◌, ◌≢◌, ℕ, ◌<◌, ◌≤◌, List, [], ◌∷◌, ◌++◌, map, take, length, AllPairs, Contains, Some}
use Rattle.weave_data.specs.declared.name.Name.{Name}
use Rattle.weave_data.specs.Names.{shard_of}
use Rattle.weave_data.specs.Limits.{most_gates}
use Rattle.vector_stamp.specs.declared.clock.Clock.{Clock}
use Rattle.vector_stamp.specs.declared.clock.Stamp.{Stamp}
use Rattle.vector_stamp.specs.Clocks.{clock_after_hearing, first_clock}
use Rattle.vector_stamp.specs.Order.{count_of, id_of}
use Rattle.program_defs.specs.declared.script.Script.{Script}
use Rattle.program_defs.specs.Limits.{IsWithinLimits}
use Rattle.weave_entries.specs.declared.gate_log.GateEntry.{GateEntry}
use Rattle.weave_entries.specs.declared.message.Addressed.{Addressed}
use Rattle.weave_entries.specs.declared.message.Message.{Message}
use Rattle.weave_entries.specs.declared.oracle_log.OracleEntry.{OracleEntry}
use Rattle.weave_entries.specs.declared.shard_log.ShardEntry.{ShardEntry}
use Rattle.weave_entries.specs.declared.shard_log.ShardDeed.TheVariants.{Applied}
use Rattle.weave_entries.specs.declared.store_log.StoreEntry.{StoreEntry}
use Rattle.weave_entries.specs.GateReplay.{BegunRequest, addressed_to, clock_after, clock_of, flight_of, low_mark, running_of, stamps_of}
use Rattle.weave_entries.specs.GateRules.{EndsWhatItBegan, IsGateLog}
use Rattle.weave_entries.specs.OracleReplay.{settled_entry}
use Rattle.weave_entries.specs.ShardReplay.{arrived_at, processed_by, updates_in, updates_of}
use Rattle.weave_entries.specs.ShardRules.{IsShardLog}
use Rattle.weave_entries.specs.StoreReplay.{commits_naming, commits_of}
use Rattle.weave_account.specs.declared.account.Account.{Account}
use Rattle.weave_account.specs.Account.{IsBegunStamp, Precedence, all_begun, gate_log, shard_log}
use Rattle.weave_account.specs.Clocks.{IsKnown}
use Rattle.weave_account.specs.GoesOn.{GoesOn}
use Rattle.weave_account.specs.IsAccount.{IsAccount}
use Rattle.weave_account.specs.Seen.{HasSeen, IsMade}
use Rattle.weave_account.specs.Shards.{update_of}

-- what is known stays known, updates go on with the logs, and accounts, clocks and begins keep their laws
pub record LawsForSeenLogs : Type 0 where
  -- What is known stays known
  pub precedence_stays : (script : Script) (account next : Account) → GoesOn account next → (a b : Stamp)
      → Precedence account a b → Precedence next a b
  pub known_stays : (script : Script) (account next : Account) → GoesOn account next → (clock : Clock)
      → IsKnown account clock → IsKnown next clock
  -- Updates
  pub applied : (gates : ℕ) (log : List ShardEntry) (author gate number : ℕ) (head : Message) (v : Name)
      → IsShardLog gates log → arrived_at gate number log ≡ Some head
      → updates_of v (log ++ record { author = author; deed = Applied gate number } ∷ [])
      ≡ updates_of v log ++ updates_in v head
  pub not_applied : (gates : ℕ) (log : List ShardEntry) (entry : ShardEntry) (v : Name) → IsShardLog gates log
      → processed_by entry.deed ≡ [] → updates_of v (log ++ entry ∷ []) ≡ updates_of v log
  -- Accounts
  pub ends : (home shards : ℕ) (log : List GateEntry) → IsGateLog home shards log → EndsWhatItBegan log
  pub settled : (script : Script) (account : Account) → IsWithinLimits script → IsAccount script account
      → (entry : OracleEntry) → Contains account.oracle entry
      → (stamp : Stamp) → Contains ((settled_entry entry).later ∷ (settled_entry entry).earlier) stamp
      → IsBegunStamp account stamp
  pub made : (script : Script) (account : Account) → IsWithinLimits script → IsAccount script account
      → (shard home : ℕ) (addressed : Addressed) → Contains (addressed_to shard (gate_log account home)) addressed
      → IsMade script.shards account.store shard addressed.message
  pub has_seen : (script : Script) (account : Account) → IsWithinLimits script → IsAccount script account
      → (shard : ℕ) → HasSeen script.shards account.store shard (shard_log account shard)
  pub updates_seen : (shards : ℕ) (store : List StoreEntry) (shard : ℕ) (log : List ShardEntry)
      → HasSeen shards store shard log → (v : Name) → shard_of v shards ≡ shard
      → updates_of v log ≡ map (update_of v) (take (length (updates_of v log)) (commits_naming v (commits_of store)))
  pub ids : (script : Script) (account : Account) → IsWithinLimits script → IsAccount script account
      → (a b : BegunRequest) → Contains (all_begun account) a → Contains (all_begun account) b → a.request ≢ b.request
      → id_of a.stamp ≢ id_of b.stamp
  -- Clocks
  pub low_known : (account : Account) (stamp : Stamp) (running : List BegunRequest) → IsKnown account stamp.clock
      → ((begun : BegunRequest) → Contains running begun → IsKnown account begun.stamp.clock)
      → IsKnown account (low_mark stamp running)
  pub flight_stamp : (log : List GateEntry) (flight : BegunRequest) → flight_of log ≡ Some flight
      → Contains (stamps_of log) flight.stamp
  pub running_stamp : (log : List GateEntry) (program : BegunRequest) → Contains (running_of log) program
      → Contains (stamps_of log) program.stamp
  pub heard_known : (account : Account) (home : ℕ) → home < most_gates → (clock heard : Clock) → IsKnown account clock
      → IsKnown account heard → IsKnown account (clock_after_hearing home clock heard)
  pub replay_clock : (home : ℕ) (log : List GateEntry) (entry : GateEntry)
      → clock_of home (log ++ entry ∷ []) ≡ clock_after home (clock_of home log) entry.deed
  pub raised_count : (gate epoch : ℕ) → count_of gate (first_clock epoch) ≡ 0
  -- Begins
  pub seen_ids : (shards : ℕ) (seen : Account) → length seen.gates ≤ most_gates
      → ((home : ℕ) → IsGateLog home shards (gate_log seen home))
      → AllPairs (λ (a b : BegunRequest). id_of a.stamp ≢ id_of b.stamp) (all_begun seen)
