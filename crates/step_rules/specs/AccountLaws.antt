-- What step_rules cites of accounts: the laws of weave_account in one record. No public contract cites this.
use Rattle.std.specs.Prelude.{◌≡◌, ◌⊎◌, ℕ, ◌<◌, List, ◌∷◌, ◌++◌, map, take, length, Contains, Some}
use Rattle.vector_stamp.specs.declared.clock.Stamp.{Stamp}
use Rattle.vector_stamp.specs.Clocks.{clock_after_hearing, meet_of}
use Rattle.vector_stamp.specs.Coherence.{AreCoherent}
use Rattle.vector_stamp.specs.declared.clock.Clock.{Clock}
use Rattle.vector_stamp.specs.Precedence.{GivenPair, IsAcyclic}
use Rattle.vector_stamp.specs.Settling.{SettledEntry}
use Rattle.weave_data.specs.declared.name.Name.{Name}
use Rattle.weave_data.specs.Names.{shard_of}
use Rattle.weave_data.specs.Limits.{most_gates}
use Rattle.weave_entries.specs.declared.message.Message.{Message}
use Rattle.weave_entries.specs.declared.gate_log.GateEntry.{GateEntry}
use Rattle.weave_entries.specs.declared.gate_log.GateDeed.{GateDeed}
use Rattle.weave_entries.specs.declared.store_log.StoreEntry.{StoreEntry}
use Rattle.weave_entries.specs.declared.session_log.SessionDeed.{SessionDeed}
use Rattle.weave_entries.specs.declared.shard_log.ShardDeed.{ShardDeed}
use Rattle.weave_entries.specs.declared.shard_log.ShardEntry.{ShardEntry}
use Rattle.weave_entries.specs.declared.oracle_log.OracleEntry.{OracleEntry}
use Rattle.weave_entries.specs.GateReplay.{BegunRequest, clock_of}
use Rattle.weave_entries.specs.OracleReplay.{settled_entry}
use Rattle.weave_entries.specs.ShardReplay.{Visit, arrived_at, bound_of, reads_in, visits_of, updates_of}
use Rattle.weave_entries.specs.StoreReplay.{Judgement, judgements_of, commits_naming}
use Rattle.program_defs.specs.declared.script.Script.{Script}
use Rattle.report_rules.specs.declared.report.Pair.{Pair}
use Rattle.weave_account.specs.declared.account.Account.{Account}
use Rattle.weave_account.specs.Account.{Precedence, all_begun, pairs_in, commits_in, gate_log, shard_log}
use Rattle.weave_account.specs.IsAccount.{IsAccount}
use Rattle.program_defs.specs.Limits.{IsWithinLimits}
use Rattle.weave_account.specs.NoLogs.{no_logs}
use Rattle.weave_account.specs.Channels.{SendsAs}
use Rattle.weave_account.specs.Clocks.{IsKnown}
use Rattle.weave_account.specs.Gatekeepers.{BeginEachOnce, BeginsAs}
use Rattle.weave_account.specs.GoesOn.{GoesOn, IsBeginningOf}
use Rattle.weave_account.specs.Oracle.{HasItsEntry, IsAskedByCommit, IsAskedByVisit}
use Rattle.weave_account.specs.Pairs.{IsPairInAccount}
use Rattle.weave_account.specs.Sessions.{RepliesAs}
use Rattle.weave_account.specs.Store.{Judges}
use Rattle.weave_account.specs.Shards.{ShardFitsAs, update_of}

-- What step_rules cites of accounts: the laws of weave_account in one record.
pub record AccountLaws : Type 0 where
  -- begun_stamps_are_coherent
  pub stamps_coherent : (script : Script) (account : Account) → IsWithinLimits script → IsAccount script account
      → AreCoherent (map (λ (begun : BegunRequest). begun.stamp) (all_begun account))
  pub stamps_acyclic : (script : Script) (account : Account) → IsWithinLimits script → IsAccount script account
      → IsAcyclic (pairs_in account)
  -- clocks_are_known
  pub known_gatekeepers : (script : Script) (account : Account) → IsWithinLimits script → IsAccount script account
      → (home : ℕ) → IsKnown account (clock_of home (gate_log account home))
  pub known_begun : (script : Script) (account : Account) → IsWithinLimits script → IsAccount script account
      → (begun : BegunRequest) → Contains (all_begun account) begun → IsKnown account begun.stamp.clock
  pub known_judged : (script : Script) (account : Account) → IsWithinLimits script → IsAccount script account
      → (judged : Judgement) → Contains (judgements_of account.store) judged → IsKnown account judged.stamp.clock
  pub known_settled : (script : Script) (account : Account) → IsWithinLimits script → IsAccount script account
      → (entry : OracleEntry) → Contains account.oracle entry → (stamp : Stamp)
      → Contains ((settled_entry entry).later ∷ (settled_entry entry).earlier) stamp → IsKnown account stamp.clock
  pub known_messages : (script : Script) (account : Account) → IsWithinLimits script → IsAccount script account
      → (shard home number : ℕ) (message : Message) → arrived_at home number (shard_log account shard) ≡ Some message
      → IsKnown account message.stamp.clock × IsKnown account message.low
  pub known_visits : (script : Script) (account : Account) → IsWithinLimits script → IsAccount script account
      → (shard : ℕ) (visit : Visit) → Contains (visits_of (shard_log account shard)) visit
      → IsKnown account visit.stamp.clock
  pub known_bounds : (script : Script) (account : Account) → IsWithinLimits script → IsAccount script account
      → (shard : ℕ) (bound : Clock) → bound_of script.gates (shard_log account shard) ≡ Some bound
      → IsKnown account bound
  pub known_heard : (script : Script) (account : Account) → IsWithinLimits script → IsAccount script account
      → (home : ℕ) → home < most_gates → (clock heard : Clock) → IsKnown account clock → IsKnown account heard
      → IsKnown account (clock_after_hearing home clock heard)
  pub known_met : (script : Script) (account : Account) → IsWithinLimits script → IsAccount script account
      → (a b : Clock) → IsKnown account a → IsKnown account b → IsKnown account (meet_of a b)
  -- facts_stay_true
  pub stay_precedence : (script : Script) (account next : Account) → GoesOn account next → (a b : Stamp)
      → Precedence account a b → Precedence next a b
  pub stay_clocks : (script : Script) (account next : Account) → GoesOn account next → (clock : Clock)
      → IsKnown account clock → IsKnown next clock
  pub stay_begins : (script : Script) (account next : Account) → IsWithinLimits script → IsAccount script account
      → GoesOn account next → BeginEachOnce next → (home : ℕ) (before after : List GateEntry) (entry : GateEntry)
      → gate_log account home ≡ before ++ entry ∷ after → BeginsAs script next home before entry.deed
  pub stay_judgements : (script : Script) (account next : Account) → GoesOn account next
      → (before : List StoreEntry) (judged : Judgement) → Judges script account before judged
      → Judges script next before judged
  pub stay_sends : (script : Script) (account next : Account) → GoesOn account next
      → (before : List GateEntry) (author : ℕ) (deed : GateDeed) → SendsAs account script.shards before author deed
      → SendsAs next script.shards before author deed
  pub stay_shards : (script : Script) (account next : Account) → GoesOn account next
      → (shard : ℕ) (before : List ShardEntry) (deed : ShardDeed) → ShardFitsAs script account shard before deed
      → ShardFitsAs script next shard before deed
  pub stay_replies : (script : Script) (account next : Account) → GoesOn account next → (deed : SessionDeed)
      → RepliesAs account deed → RepliesAs next deed
  pub stay_asked : (script : Script) (account next : Account) → IsWithinLimits script → IsAccount script account
      → GoesOn account next → (settled : SettledEntry) → IsAskedByCommit account settled
      ⊎ IsAskedByVisit account settled → IsAskedByCommit next settled ⊎ IsAskedByVisit next settled
  pub stay_marked : (script : Script) (account next : Account) → IsWithinLimits script → IsAccount script account
      → GoesOn account next → (shard : ℕ) (visit : Visit) → Contains (visits_of (shard_log account shard)) visit
      → HasItsEntry account (shard_log account shard) visit → HasItsEntry next (shard_log next shard) visit
  pub stay_reads : (script : Script) (account next : Account) → IsWithinLimits script → IsAccount script account
      → GoesOn account next → (r shard : ℕ)
      → IsBeginningOf (reads_in r (shard_log account shard)) (reads_in r (shard_log next shard))
  pub stay_pairs : (script : Script) (account next : Account) → GoesOn account next → BeginEachOnce next
      → (pair : Pair) (given : GivenPair) → IsPairInAccount account pair given → IsPairInAccount next pair given
  -- updates_are_commits
  pub updates : (script : Script) (account : Account) → IsWithinLimits script → IsAccount script account → (v : Name)
      → let log = shard_log account (shard_of v script.shards) in updates_of v log
      ≡ map (update_of v) (take (length (updates_of v log)) (commits_naming v (commits_in account)))
  -- empty_logs_are_an_account
  pub empty : (script : Script) → IsAccount script (no_logs script)
