-- The laws of the crates below that the laws of accounts rely on, in one record. No public contract cites this.
use Rattle.std.specs.Prelude.{◌≡◌, ◌≢◌, ◌↔◌, ◌⊎◌, ℕ, ◌<◌, ◌≤◌, max, min, List, [], map, take, length, AllPairs, Contains, IsTrue, Some, Ok, is_ok, slice_get}
use Rattle.weave_data.specs.declared.name.Name.{Name}
use Rattle.weave_data.specs.Limits.{most_gates}
use Rattle.graph_ops.specs.declared.op.Op.{Op}
use Rattle.graph_ops.specs.Alike.{EndAlike}
use Rattle.graph_ops.specs.Mentions.{named_by, is_among}
use Rattle.graph_ops.specs.Operations.{State}
use Rattle.graph_ops.specs.PlainGraph.{PlainGraph, PassedTx, transaction}
use Rattle.graph_ops.specs.VertexOps.{ops_on, state_after_ops, none_refused}
use Rattle.vector_stamp.specs.declared.clock.Clock.{Clock}
use Rattle.vector_stamp.specs.declared.clock.Stamp.{Stamp}
use Rattle.vector_stamp.specs.Order.{HasEightCounts, count_of, is_at_most, is_before, StampsRise, are_apart, same_stamp, stamp_before, unordered}
use Rattle.vector_stamp.specs.Clocks.{first_clock, clock_after_tick, clock_after_hearing, meet_of}
use Rattle.vector_stamp.specs.ClockLaws.{ClockLaws}
use Rattle.vector_stamp.specs.Coherence.{AreCoherent}
use Rattle.vector_stamp.specs.Precedence.{IsAcyclic, JoinsEvents, Precedes, PrecedesAmong, precedes, GivenPair}
use Rattle.vector_stamp.specs.Settling.{additions_from}
use Rattle.program_defs.specs.declared.program.Program.{Program}
use Rattle.program_defs.specs.declared.program.Answer.{Answer}
use Rattle.program_defs.specs.Agreement.{AgreeOnVisits}
use Rattle.program_defs.specs.PlainAnswer.{IsPlainAnswer}
use Rattle.program_defs.specs.Visits.{visits_to, graph_read, IsListOfVisits}
use Rattle.report_rules.specs.declared.report.Report.{Report}
use Rattle.report_rules.specs.PrintedOrder.{IsPrintedOrder}
use Rattle.weave_entries.specs.declared.gate_log.GateEntry.{GateEntry}
use Rattle.weave_entries.specs.declared.message.Message.{Message}
use Rattle.weave_entries.specs.declared.oracle_log.OracleEntry.{OracleEntry}
use Rattle.weave_entries.specs.GateReplay.{BegunRequest, begun_in, clock_of, stamps_of, txs_of, ended_in, flight_of, running_of, channel_of}
use Rattle.weave_entries.specs.GateRules.{IsGateLog, IsChannel, BeginsEachOnce, CountsItsTicks, EndsWhatItBegan}
use Rattle.weave_entries.specs.declared.session_log.SessionEntry.{SessionEntry}
use Rattle.weave_entries.specs.SessionReplay.{IsSessionLog, begins_in, has_begun_in, has_reply_in, replied_count, replied_in, session_of}
use Rattle.weave_entries.specs.OracleReplay.{pairs_of_log}
use Rattle.weave_entries.specs.OracleRules.{IsOracleLog}

-- stamps and precedence are ordered, logs of gatekeepers and the oracle keep what their rules imply, transactions
-- depend on the vertices that they name, and programs on those that they visit
pub record LawsForAccounts : Type 0 where
  -- Stamps and precedence
  pub irreflexive : (a : Stamp) → ¬ IsTrue (stamp_before a a)
  pub transitive : (a b c : Stamp) → IsTrue (stamp_before a b) → IsTrue (stamp_before b c) → IsTrue (stamp_before a c)
  pub decided : (pairs : List GivenPair) (a b : Stamp) → Precedes pairs a b ↔ IsTrue (precedes pairs a b)
  pub events : (events : List Stamp) (pairs : List GivenPair) → JoinsEvents events pairs → (a b : Stamp)
      → Contains events a
      → Contains events b → Precedes pairs a b → PrecedesAmong events pairs a b
  pub each_count : (a b : Clock) → IsTrue (is_before a b)
      → (a.epoch < b.epoch) ⊎ ((a.epoch ≡ b.epoch) × ((gate : ℕ) → count_of gate a ≤ count_of gate b))
  pub same_stamps : (a b : Stamp) → IsTrue (same_stamp a b) ↔ (a ≡ b)
  pub coherent_apart : (stamps : List Stamp) (a b : Stamp) → AreCoherent stamps → Contains stamps a → Contains stamps b
      → a ≢ b
      → IsTrue (are_apart a b)
  pub in_place : (pairs : List GivenPair) (earlier : List Stamp) (later : Stamp) (place : ℕ) (event : Stamp)
      → Contains (additions_from 0 pairs earlier later) (place, event) → slice_get earlier place ≡ Some event
  -- Clocks
  pub clocks : ClockLaws
  pub two_epochs : (a b : Clock) → a.epoch < b.epoch → (meet_of a b ≡ a) × (meet_of b a ≡ a)
  pub met : (gate : ℕ) (a b : Clock) → HasEightCounts a → HasEightCounts b → a.epoch ≡ b.epoch
      → count_of gate (meet_of a b) ≡ min (count_of gate a) (count_of gate b)
  pub below_first : (a b : Clock) → HasEightCounts a → HasEightCounts b → IsTrue (is_at_most (meet_of a b) a)
  pub below_second : (a b : Clock) → HasEightCounts a → HasEightCounts b → IsTrue (is_at_most (meet_of a b) b)
  pub met_eight : (a b : Clock) → HasEightCounts a → HasEightCounts b → HasEightCounts (meet_of a b)
  pub ticked_others : (home gate : ℕ) (clock : Clock) → gate ≢ home
      → count_of gate (clock_after_tick home clock) ≡ count_of gate clock
  pub raised_count : (gate epoch : ℕ) → count_of gate (first_clock epoch) ≡ 0
  pub heard_others : (home gate : ℕ) (clock heard : Clock) → home < most_gates → HasEightCounts clock
      → HasEightCounts heard
      → heard.epoch ≡ clock.epoch → gate ≢ home
      → count_of gate (clock_after_hearing home clock heard) ≡ max (count_of gate clock) (count_of gate heard)
  pub heard_higher : (home gate : ℕ) (clock heard : Clock) → home < most_gates → HasEightCounts clock
      → HasEightCounts heard
      → clock.epoch < heard.epoch → gate ≢ home
      → count_of gate (clock_after_hearing home clock heard) ≡ count_of gate heard
  -- Logs of gatekeepers
  pub rise : (home shards : ℕ) (log : List GateEntry) → home < most_gates → IsGateLog home shards log
      → StampsRise (stamps_of log)
  pub coherent : (home shards : ℕ) (log : List GateEntry) → home < most_gates → IsGateLog home shards log
      → AreCoherent (stamps_of log)
  pub stamps_under : (home shards : ℕ) (log : List GateEntry) → home < most_gates → IsGateLog home shards log
      → (stamp : Stamp)
      → Contains (stamps_of log) stamp → IsTrue (is_at_most stamp.clock (clock_of home log))
  pub stamps_home : (home shards : ℕ) (log : List GateEntry) → home < most_gates → IsGateLog home shards log
      → (stamp : Stamp)
      → Contains (stamps_of log) stamp → stamp.home ≡ home
  pub eight_each : (home shards : ℕ) (log : List GateEntry) → home < most_gates → IsGateLog home shards log
      → (stamp : Stamp)
      → Contains (stamps_of log) stamp → HasEightCounts stamp.clock
  pub own_stamp : (log : List GateEntry) (begun : BegunRequest) → Contains (begun_in log) begun
      → Contains (stamps_of log) begun.stamp
  pub channel : (home shards shard : ℕ) (log : List GateEntry) → home < most_gates → IsGateLog home shards log
      → IsChannel shard log
  pub before_flight : (home shards shard : ℕ) (log : List GateEntry) → home < most_gates → IsGateLog home shards log
      → (flight : BegunRequest) → flight_of log ≡ Some flight → (message : Message)
      → Contains (channel_of shard log) message
      → IsTrue (stamp_before message.stamp flight.stamp)
  pub ticks : (home shards : ℕ) (log : List GateEntry) → home < most_gates → IsGateLog home shards log
      → CountsItsTicks home log
  pub ends : (home shards : ℕ) (log : List GateEntry) → IsGateLog home shards log → EndsWhatItBegan log
  pub own_running : (log : List GateEntry) (program : BegunRequest) → Contains (running_of log) program
      → Contains (stamps_of log) program.stamp
  pub low_eight : (home shards shard : ℕ) (log : List GateEntry) → home < most_gates → IsGateLog home shards log
      → (message : Message) → Contains (channel_of shard log) message → HasEightCounts message.low
  pub low_marks : (home shards shard : ℕ) (log : List GateEntry) → home < most_gates → IsGateLog home shards log
      → (message : Message) → Contains (channel_of shard log) message
      → (program : BegunRequest) → Contains (running_of log) program
      → IsTrue (is_at_most message.low program.stamp.clock)
  pub flight : (home shards : ℕ) (log : List GateEntry) → IsGateLog home shards log → BeginsEachOnce log
      → (tx : BegunRequest)
      → (flight_of log ≡ Some tx) ↔ (Contains (txs_of log) tx × ¬ Contains (ended_in log) tx.request)
  -- Logs of sessions
  pub session_begins : (number : ℕ) (requests : List ℕ) (log : List SessionEntry) → IsSessionLog number requests log
      → map (λ (begun : ℕ × Stamp). begun.0) (begins_in log) ≡ take (session_of requests log).begun requests
  pub session_replies : (number : ℕ) (requests : List ℕ) (log : List SessionEntry) → IsSessionLog number requests log
      → replied_in log ≡ take (replied_count (session_of requests log)) requests
  pub begun_tested : (request : ℕ) (log : List SessionEntry)
      → IsTrue (has_begun_in request log) ↔ Contains (map (λ (begun : ℕ × Stamp). begun.0) (begins_in log)) request
  pub reply_tested : (request : ℕ) (log : List SessionEntry)
      → IsTrue (has_reply_in request log) ↔ Contains (replied_in log) request
  -- Logs of the oracle
  pub acyclic : (log : List OracleEntry) → IsOracleLog log → IsAcyclic (pairs_of_log log)
  pub left_open : (log : List OracleEntry) → IsOracleLog log → (a b : Stamp) → Contains (pairs_of_log log) (a, b)
      → IsTrue (unordered a b)
  -- Transactions
  pub named_once : (ops : List Op) → AllPairs (λ a b. a ≢ b) (named_by ops)
  pub named_among : (names : List Name) (v : Name) → IsTrue (is_among names v) ↔ Contains names v
  pub unnamed : (ops : List Op) (v : Name) → ¬ IsTrue (is_among (named_by ops) v) → ops_on v ops ≡ []
  pub leaves : (ops : List Op) (graph : PlainGraph) (passed : PassedTx) → transaction ops graph ≡ Ok passed → (v : Name)
      → passed.graph v ≡ state_after_ops (ops_on v ops) (graph v)
  pub passes : (ops : List Op) (graph : PlainGraph) → IsTrue (is_ok (transaction ops graph)) → (v : Name)
      → IsTrue (none_refused (ops_on v ops) (graph v))
  pub ends_alike : (ops : List Op) (first second : PlainGraph)
      → ((v : Name) → IsTrue (is_among (named_by ops) v) → first v ≡ second v)
      → EndAlike first second (transaction ops first) (transaction ops second)
  -- Programs
  pub visits_alike : (g h : PlainGraph) (program : Program) (visits : List Name) → AgreeOnVisits g h program
      → IsListOfVisits g program visits → IsListOfVisits h program visits
  pub answers_alike : (g h : PlainGraph) (program : Program) → AgreeOnVisits g h program → (answer : Answer)
      → IsPlainAnswer g program answer → IsPlainAnswer h program answer
  pub visits_whole : (reads : List (Name × State)) (program : Program)
      → IsListOfVisits (graph_read reads) program (visits_to (length reads) (graph_read reads) program)
  pub one_answer : (graph : PlainGraph) (program : Program) (a b : Answer) → IsPlainAnswer graph program a
      → IsPlainAnswer graph program b → a ≡ b
  -- Reports
  pub one_order : (report : Report) (a b : List ℕ) → IsPrintedOrder report a → IsPrintedOrder report b → a ≡ b
