-- The laws of the crates below that the laws of this crate rely on, in one record. No public contract cites this.
use Rattle.std.specs.Prelude.{◌≡◌, ◌↔◌, ℕ, ◌+◌, ◌<◌, ◌==◌, cond, List, [], ◌∷◌, ◌++◌, map, take, length, AllPairs, Contains, IsSomeAnd, IsTrue, Some}
use Rattle.weave_data.specs.declared.name.Name.{Name}
use Rattle.weave_data.specs.Names.{shard_of}
use Rattle.weave_data.specs.Limits.{most_gates}
use Rattle.graph_ops.specs.Mentions.{is_among}
use Rattle.graph_ops.specs.declared.part.Part.{Part}
use Rattle.vector_stamp.specs.declared.clock.Clock.{Clock}
use Rattle.vector_stamp.specs.declared.clock.Stamp.{Stamp}
use Rattle.vector_stamp.specs.Order.{HasEightCounts, is_at_most, is_before, stamp_before}
use Rattle.vector_stamp.specs.Clocks.{clock_after_hearing, clock_after_tick, counts_no_more}
use Rattle.vector_stamp.specs.Precedence.{GivenPair, IsAcyclic, Precedes, precedes}
use Rattle.program_defs.specs.declared.script.Request.{Request}
use Rattle.program_defs.specs.declared.script.Script.{Script}
use Rattle.program_defs.specs.declared.script.Step.{Step}
use Rattle.program_defs.specs.declared.script.Work.TheVariants.{Change}
use Rattle.program_defs.specs.Limits.{IsWithinLimits}
use Rattle.report_rules.specs.Lookups.{request_at}
use Rattle.weave_entries.specs.declared.gate_log.GateEntry.{GateEntry}
use Rattle.weave_entries.specs.declared.message.Addressed.{Addressed}
use Rattle.weave_entries.specs.declared.message.Message.{Message}
use Rattle.weave_entries.specs.declared.shard_log.ShardEntry.{ShardEntry}
use Rattle.weave_entries.specs.declared.shard_log.ShardDeed.TheVariants.{Applied}
use Rattle.weave_entries.specs.declared.store_log.StoreEntry.{StoreEntry}
use Rattle.weave_entries.specs.GateReplay.{addressed_to, channel_of, clock_of, stamps_of}
use Rattle.weave_entries.specs.GateRules.{IsChannel, IsGateLog}
use Rattle.weave_entries.specs.ShardReplay.{arrived_at, processed_by, processed_count, processed_of, updates_of, visit_by, visits_of}
use Rattle.weave_entries.specs.StoreReplay.{Commit, Judgement, commit_by, commits_naming, commits_of, count_naming, judgements_of, names_vertex}
use Rattle.weave_account.specs.declared.account.Account.{Account}
use Rattle.weave_account.specs.Account.{Precedence, commits_in, gate_log, pairs_in, reads_of, shard_log}
use Rattle.weave_account.specs.Clocks.{IsKnown}
use Rattle.weave_account.specs.GoesOn.{GoesOn, visits_by}
use Rattle.weave_account.specs.IsAccount.{IsAccount}
use Rattle.weave_account.specs.OnTheWay.{IsOnTheWay}
use Rattle.weave_account.specs.Seen.{HasSeen, IsMade}
use Rattle.weave_account.specs.Shards.{update_of}
use Rattle.step_rules.specs.CoreState.{CoreState}
use Rattle.step_rules.specs.IsCore.{IsCore, IsStepOf}
use Rattle.step_rules.specs.Trace.{state_after}

-- stamps and clocks
pub record ReadinessOfStamps : Type 0 where
  -- stamps_are_ordered
  pub irreflexive : (a : Stamp) → ¬ IsTrue (stamp_before a a)
  pub transitive : (a b c : Stamp) → IsTrue (stamp_before a b) → IsTrue (stamp_before b c) → IsTrue (stamp_before a c)
  -- clocks_are_ordered
  pub at_most_before : (a b c : Clock) → IsTrue (is_at_most a b) → IsTrue (is_before b c) → IsTrue (is_before a c)
  -- ticks_rise
  pub ticks : (home : ℕ) (clock : Clock) → home < most_gates → HasEightCounts clock
      → IsTrue (is_before clock (clock_after_tick home clock))
  -- hearing_brings_order
  pub then_after : (home : ℕ) (clock heard : Clock) → home < most_gates → HasEightCounts clock → HasEightCounts heard
      → IsTrue (counts_no_more home clock heard)
      → IsTrue (is_before heard (clock_after_tick home (clock_after_hearing home clock heard)))
  -- precedence_is_decided
  pub tested : (pairs : List GivenPair) (a b : Stamp) → Precedes pairs a b ↔ IsTrue (precedes pairs a b)

-- logs
pub record ReadinessOfLogs : Type 0 where
  -- stamps_rise
  pub under : (home shards : ℕ) (log : List GateEntry) → home < most_gates → IsGateLog home shards log → (stamp : Stamp)
      → Contains (stamps_of log) stamp → IsTrue (is_at_most stamp.clock (clock_of home log))
  pub homes : (home shards : ℕ) (log : List GateEntry) → home < most_gates → IsGateLog home shards log → (stamp : Stamp)
      → Contains (stamps_of log) stamp → stamp.home ≡ home
  pub eight : (home shards : ℕ) (log : List GateEntry) → home < most_gates → IsGateLog home shards log
      → HasEightCounts (clock_of home log)
  -- channels_rise
  pub channel : (home shards shard : ℕ) (log : List GateEntry) → home < most_gates → IsGateLog home shards log
      → IsChannel shard log
  -- stamps_are_its_own
  pub sent : (home shards shard : ℕ) (log : List GateEntry) → IsGateLog home shards log → (message : Message)
      → Contains (channel_of shard log) message → Contains (stamps_of log) message.stamp
  -- the_shard_replay_goes_on
  pub processed : (log : List ShardEntry) (entry : ShardEntry)
      → processed_of (log ++ entry ∷ []) ≡ processed_of log ++ processed_by entry.deed
  pub visits : (log : List ShardEntry) (entry : ShardEntry)
      → visits_of (log ++ entry ∷ []) ≡ visits_of log ++ visit_by entry.author entry.deed
  -- the_store_replay_goes_on
  pub commits : (log : List StoreEntry) (entry : StoreEntry)
      → commits_of (log ++ entry ∷ []) ≡ commits_of log ++ commit_by entry.deed
  pub count : (v : Name) (commits : List Commit) (commit : Commit)
      → count_naming v (commits ++ commit ∷ []) ≡ count_naming v commits + cond (names_vertex v commit) 1 0
  -- arrivals_stay
  pub stay : (log : List ShardEntry) (entry : ShardEntry) (gate number : ℕ) (message : Message)
      → arrived_at gate number log ≡ Some message → arrived_at gate number (log ++ entry ∷ []) ≡ Some message
  -- updates_go_on
  pub counted : (log : List ShardEntry) (author gate number at_gate : ℕ)
      → processed_count at_gate (log ++ record { author = author; deed = Applied gate number } ∷ [])
      ≡ processed_count at_gate log + cond (gate == at_gate) 1 0
  pub count_still : (log : List ShardEntry) (entry : ShardEntry) → processed_by entry.deed ≡ []
      → (gate : ℕ) → processed_count gate (log ++ entry ∷ []) ≡ processed_count gate log

-- accounts, and the steps of a core
pub record ReadinessOfAccounts : Type 0 where
  -- commits_are_on_the_way
  pub on_the_way : (script : Script) (account : Account) → IsWithinLimits script → IsAccount script account
      → (before after : List StoreEntry) (entry : StoreEntry) → account.store ≡ before ++ entry ∷ after
      → (commit : Commit) → commit_by entry.deed ≡ commit ∷ [] → (v : Name) → IsTrue (names_vertex v commit)
      → IsOnTheWay script account commit v (count_naming v (commits_of before))
  -- commits_are_ordered
  pub ordered : (script : Script) (account : Account) → IsWithinLimits script → IsAccount script account → (v : Name)
      → AllPairs (λ (a b : Commit). Precedence account a.stamp b.stamp) (commits_naming v (commits_in account))
  -- updates_are_commits
  pub updates : (script : Script) (account : Account) → IsWithinLimits script → IsAccount script account
      → (v : Name) → let log = shard_log account (shard_of v script.shards) in
      updates_of v log ≡ map (update_of v) (take (length (updates_of v log)) (commits_naming v (commits_in account)))
  -- accounts_were_seen
  pub seen : (script : Script) (account : Account) → IsWithinLimits script → IsAccount script account
      → (shard : ℕ) → HasSeen script.shards account.store shard (shard_log account shard)
  pub made : (script : Script) (account : Account) → IsWithinLimits script → IsAccount script account
      → (shard home : ℕ) (addressed : Addressed) → Contains (addressed_to shard (gate_log account home)) addressed
      → IsMade script.shards account.store shard addressed.message
  -- judgements_are_of_requests
  pub judged_work : (script : Script) (account : Account) → IsWithinLimits script → IsAccount script account
      → (judged : Judgement) → Contains (judgements_of account.store) judged
      → IsSomeAnd (request_at script judged.request) (λ (request : Request). request.work ≡ Change judged.ops)
  -- messages_can_be_taken
  pub kept_here : (script : Script) (account : Account) → IsWithinLimits script → IsAccount script account
      → (shard home : ℕ) (addressed : Addressed) → Contains (addressed_to shard (gate_log account home)) addressed
      → (part : Part) → Contains addressed.message.parts part → shard_of part.vertex script.shards ≡ shard
  -- begun_stamps_are_coherent
  pub acyclic : (script : Script) (account : Account) → IsWithinLimits script → IsAccount script account
      → IsAcyclic (pairs_in account)
  -- clocks_are_known
  pub known : (script : Script) (account : Account) → IsWithinLimits script → IsAccount script account
      → (home : ℕ) → IsKnown account (clock_of home (gate_log account home))
  pub may_be_heard : (shards home : ℕ) (account : Account) → home < most_gates
      → IsGateLog home shards (gate_log account home)
      → (clock : Clock) → IsKnown account clock
      → IsTrue (counts_no_more home (clock_of home (gate_log account home)) clock)
  -- facts_stay_true
  pub same_reads : (script : Script) (account next : Account) → IsWithinLimits script → IsAccount script account
      → GoesOn account next → (r : ℕ)
      → ((shard : ℕ) → visits_by r (shard_log next shard) ≡ visits_by r (shard_log account shard))
      → reads_of next r ≡ reads_of account r
  -- steps_keep_the_core
  pub goes_on : (script : Script) (state : CoreState) (step : Step) → IsWithinLimits script → IsStepOf script step
      → IsCore script state
      → GoesOn state.account (state_after script state step).account

-- all of them
pub record LawsForReadiness : Type 0 where
  pub stamps : ReadinessOfStamps
  pub logs : ReadinessOfLogs
  pub accounts : ReadinessOfAccounts
  -- each_vertex_is_named_once
  pub among : (names : List Name) (v : Name) → IsTrue (is_among names v) ↔ Contains names v
