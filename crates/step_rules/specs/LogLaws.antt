-- What step_rules cites of logs: laws of weave_entries in one record. No public contract cites this.
use Rattle.std.specs.Prelude.{◌≡◌, ◌↔◌, ℕ, ◌<◌, List, [], ◌∷◌, ◌++◌, map, take, Contains, IsTrue, Some}
use Rattle.weave_data.specs.Limits.{most_gates}
use Rattle.vector_stamp.specs.declared.clock.Stamp.{Stamp}
use Rattle.vector_stamp.specs.Order.{HasEightCounts, StampsRise, is_at_most}
use Rattle.vector_stamp.specs.Coherence.{AreCoherent}
use Rattle.vector_stamp.specs.Precedence.{GivenPair}
use Rattle.vector_stamp.specs.Settling.{additions_from, pairs_of, SettledEntry}
use Rattle.weave_entries.specs.declared.message.Addressed.{Addressed}
use Rattle.weave_entries.specs.declared.message.Message.{Message}
use Rattle.weave_entries.specs.declared.gate_log.GateEntry.{GateEntry}
use Rattle.weave_entries.specs.declared.oracle_log.OracleEntry.{OracleEntry}
use Rattle.weave_entries.specs.declared.session_log.SessionEntry.{SessionEntry}
use Rattle.weave_entries.specs.GateReplay.{BegunRequest, clock_after, clock_of, stamps_by, stamps_of, begun_by, begun_in, txs_of, programs_of, ended_by, ended_in, flight_after, flight_of, running_after, running_of, messages_by, to_shard, channel_of}
use Rattle.weave_entries.specs.GateRules.{FitsAs, IsGateLog, HearsAs, HearsNoMore, BeginsEachOnce, CountsItsTicks, IsChannel, EndsEachOnce, EndsWhatItBegan}
use Rattle.weave_entries.specs.OracleReplay.{settled_entry, pairs_of_entry, pairs_of_log}
use Rattle.weave_entries.specs.OracleRules.{IsRightEntry, IsOracleLog}
use Rattle.weave_entries.specs.SessionReplay.{session_of, replied_count, begins_in, replied_in, has_begun_in, has_reply_in, IsSessionLog}

-- What step_rules cites of logs: laws of weave_entries in one record.
pub record LogLaws : Type 0 where
  -- a_log_goes_on
  pub log_at_first : (home shards : ℕ) → IsGateLog home shards []
  pub log_right : (home shards : ℕ) (log : List GateEntry) (entry : GateEntry) → IsGateLog home shards log
      → FitsAs home shards log entry.author entry.deed → IsGateLog home shards (log ++ entry ∷ [])
  pub log_right_before : (home shards : ℕ) (log rest : List GateEntry) → IsGateLog home shards (log ++ rest)
      → IsGateLog home shards log
  pub log_hears : (home : ℕ) (log : List GateEntry) (entry : GateEntry) → HearsNoMore home log
      → HearsAs home log entry.deed → HearsNoMore home (log ++ entry ∷ [])
  -- the_replay_goes_on
  pub replay_clock : (home : ℕ) (log : List GateEntry) (entry : GateEntry)
      → clock_of home (log ++ entry ∷ []) ≡ clock_after home (clock_of home log) entry.deed
  pub replay_flight : (log : List GateEntry) (entry : GateEntry)
      → flight_of (log ++ entry ∷ []) ≡ flight_after (flight_of log) entry.author entry.deed
  pub replay_running : (log : List GateEntry) (entry : GateEntry)
      → running_of (log ++ entry ∷ []) ≡ running_after (running_of log) entry.author entry.deed
  pub replay_stamps : (log : List GateEntry) (entry : GateEntry)
      → stamps_of (log ++ entry ∷ []) ≡ stamps_of log ++ stamps_by entry.deed
  pub replay_begun : (log : List GateEntry) (entry : GateEntry)
      → begun_in (log ++ entry ∷ []) ≡ begun_in log ++ begun_by entry.author entry.deed
  pub replay_ended : (log : List GateEntry) (entry : GateEntry)
      → ended_in (log ++ entry ∷ []) ≡ ended_in log ++ ended_by entry.deed
  pub replay_channel : (shard : ℕ) (log : List GateEntry) (entry : GateEntry)
      → channel_of shard (log ++ entry ∷ []) ≡ channel_of shard log
      ++ map (λ (addressed : Addressed). addressed.message) (to_shard shard (messages_by entry.deed))
  -- stamps_rise
  pub rise_rise : (home shards : ℕ) (log : List GateEntry) → home < most_gates → IsGateLog home shards log
      → StampsRise (stamps_of log)
  pub rise_under : (home shards : ℕ) (log : List GateEntry) → home < most_gates → IsGateLog home shards log
      → (stamp : Stamp)
      → Contains (stamps_of log) stamp → IsTrue (is_at_most stamp.clock (clock_of home log))
  pub rise_homes : (home shards : ℕ) (log : List GateEntry) → home < most_gates → IsGateLog home shards log
      → (stamp : Stamp)
      → Contains (stamps_of log) stamp → stamp.home ≡ home
  pub rise_coherent : (home shards : ℕ) (log : List GateEntry) → home < most_gates → IsGateLog home shards log
      → AreCoherent (stamps_of log)
  pub rise_ticks : (home shards : ℕ) (log : List GateEntry) → home < most_gates → IsGateLog home shards log
      → CountsItsTicks home log
  pub rise_eight : (home shards : ℕ) (log : List GateEntry) → home < most_gates → IsGateLog home shards log
      → HasEightCounts (clock_of home log)
  pub rise_eight_each : (home shards : ℕ) (log : List GateEntry) → home < most_gates → IsGateLog home shards log
      → (stamp : Stamp) → Contains (stamps_of log) stamp → HasEightCounts stamp.clock
  -- channels_rise
  pub channels_channel : (home shards shard : ℕ) (log : List GateEntry) → home < most_gates → IsGateLog home shards log
      → IsChannel shard log
  -- stamps_are_its_own
  pub own_begun : (log : List GateEntry) (begun : BegunRequest) → Contains (begun_in log) begun
      → Contains (stamps_of log) begun.stamp
  pub own_flight : (log : List GateEntry) (flight : BegunRequest) → flight_of log ≡ Some flight
      → Contains (stamps_of log) flight.stamp
  pub own_running : (log : List GateEntry) (program : BegunRequest) → Contains (running_of log) program
      → Contains (stamps_of log) program.stamp
  pub own_sent : (home shards shard : ℕ) (log : List GateEntry) → IsGateLog home shards log → (message : Message)
      → Contains (channel_of shard log) message → Contains (stamps_of log) message.stamp
  -- requests_end
  pub end_begun : (home shards : ℕ) (log : List GateEntry) → IsGateLog home shards log → EndsWhatItBegan log
  pub end_once : (home shards : ℕ) (log : List GateEntry) → IsGateLog home shards log → BeginsEachOnce log
      → EndsEachOnce log
  -- what_has_not_ended_goes_on
  pub open_flight : (home shards : ℕ) (log : List GateEntry) → IsGateLog home shards log → BeginsEachOnce log
      → (tx : BegunRequest)
      → (flight_of log ≡ Some tx) ↔ (Contains (txs_of log) tx × ¬ Contains (ended_in log) tx.request)
  pub open_running : (home shards : ℕ) (log : List GateEntry) → IsGateLog home shards log → BeginsEachOnce log
      → (program : BegunRequest) → Contains (running_of log) program ↔ (Contains (programs_of log) program
      × ¬ Contains (ended_in log) program.request)
  -- sessions_go_in_turn
  pub sessions_begun : (number : ℕ) (requests : List ℕ) (log : List SessionEntry) → IsSessionLog number requests log
      → map (λ (begun : ℕ × Stamp). begun.0) (begins_in log) ≡ take (session_of requests log).begun requests
  pub sessions_replied : (number : ℕ) (requests : List ℕ) (log : List SessionEntry) → IsSessionLog number requests log
      → replied_in log ≡ take (replied_count (session_of requests log)) requests
  pub sessions_rise : (number : ℕ) (requests : List ℕ) (log : List SessionEntry) → IsSessionLog number requests log
      → StampsRise (map (λ (begun : ℕ × Stamp). begun.1) (begins_in log))
  -- begun_and_replied_are_decided
  pub session_begun : (request : ℕ) (log : List SessionEntry)
      → IsTrue (has_begun_in request log) ↔ Contains (map (λ (begun : ℕ × Stamp). begun.0) (begins_in log)) request
  pub session_replied : (request : ℕ) (log : List SessionEntry)
      → IsTrue (has_reply_in request log) ↔ Contains (replied_in log) request
  -- an_oracle_log_goes_on
  pub oracle_at_first : IsOracleLog []
  pub oracle_right : (log : List OracleEntry) (entry : OracleEntry) → IsOracleLog log
      → IsRightEntry (pairs_of_log log) (settled_entry entry) → IsOracleLog (log ++ entry ∷ [])
  pub oracle_right_before : (log rest : List OracleEntry) → IsOracleLog (log ++ rest) → IsOracleLog log
  pub oracle_pairs : (log : List OracleEntry) (entry : OracleEntry)
      → pairs_of_log (log ++ entry ∷ []) ≡ pairs_of_log log ++ pairs_of_entry (settled_entry entry)
  pub oracle_added : (pairs : List GivenPair) (entry : SettledEntry) → IsRightEntry pairs entry
      → pairs_of_entry entry ≡ pairs_of (additions_from 0 pairs entry.earlier entry.later) entry.later
