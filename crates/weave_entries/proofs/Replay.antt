-- The replay of a log with one more entry.
-- Used by `the_replay_goes_on`, Channels, LowMarks, NonePast, Once, OwnStamps, Rising, Running, Small, Ticks and
-- crates gatekeeper and weaver_core.
use Rattle.std.proofs.Common.{◌≡◌, ℕ, List, [], ◌∷◌, ◌++◌, map}
use Rattle.std.proofs.lemmas.List.{map-append}
use Rattle.std.proofs.lemmas.List.Sums.{fold-append}
use Rattle.weave_entries.specs.declared.message.Addressed.{Addressed}
use Rattle.weave_entries.specs.declared.gate_log.GateEntry.{GateEntry}
use Rattle.weave_entries.specs.GateReplay.{tx_by, program_by, txs_of, programs_of, begun_by, begun_in, ended_by, ended_in, sent_in, clocks_by, clocks_in, clock_after, clock_of, stamps_by, stamps_of, flight_after, flight_of, running_after, running_of, messages_by, to_shard, addressed_to, channel_of}
use Rattle.weave_entries.specs.GateRules.{FitsAs, IsGateLog}
use Rattle.weave_data.proofs.Entries as entries
use Rattle.weave_data.proofs.Ends.{flat_push}

module _ (log : List GateEntry) (entry : GateEntry) where
  -- the clock with one more entry
  pub clock-push : (home : ℕ) → clock_of home (log ++ entry ∷ []) ≡ clock_after home (clock_of home log) entry.deed
  clock-push home = fold-append _ _ log (entry ∷ [])

  -- the transaction in flight with one more entry
  pub flight-push : flight_of (log ++ entry ∷ []) ≡ flight_after (flight_of log) entry.author entry.deed
  flight-push = fold-append _ _ log (entry ∷ [])

  -- the programs that run with one more entry
  pub running-push : running_of (log ++ entry ∷ []) ≡ running_after (running_of log) entry.author entry.deed
  running-push = fold-append _ _ log (entry ∷ [])

  -- the stamps made with one more entry
  pub stamps-push : stamps_of (log ++ entry ∷ []) ≡ stamps_of log ++ stamps_by entry.deed
  stamps-push = flat_push _ log entry

  -- the transactions that were begun
  pub txs-push : txs_of (log ++ entry ∷ []) ≡ txs_of log ++ tx_by entry.author entry.deed
  txs-push = flat_push _ log entry

  -- the programs that were begun
  pub programs-push : programs_of (log ++ entry ∷ []) ≡ programs_of log ++ program_by entry.author entry.deed
  programs-push = flat_push _ log entry

  -- the requests that were begun with one more entry
  pub begun-push : begun_in (log ++ entry ∷ []) ≡ begun_in log ++ begun_by entry.author entry.deed
  begun-push = flat_push _ log entry

  -- the requests that were ended with one more entry
  pub ended-push : ended_in (log ++ entry ∷ []) ≡ ended_in log ++ ended_by entry.deed
  ended-push = flat_push _ log entry

  -- the messages that were sent with one more entry
  pub sent-push : sent_in (log ++ entry ∷ []) ≡ sent_in log ++ messages_by entry.deed
  sent-push = flat_push _ log entry

  -- the clocks of the log with one more entry
  pub clocks-push : clocks_in (log ++ entry ∷ []) ≡ clocks_in log ++ clocks_by entry.deed
  clocks-push = flat_push _ log entry

  -- what was sent to a shard, with its numbers
  pub addressed-push : (shard : ℕ) → addressed_to shard (log ++ entry ∷ []) ≡ addressed_to shard log ++ to_shard shard (messages_by entry.deed)
  addressed-push shard = flat_push _ log entry

  -- the messages that were sent to a shard, without their numbers, with one more entry
  pub channel-push : (shard : ℕ) → channel_of shard (log ++ entry ∷ []) ≡ channel_of shard log ++ map (λ (addressed : Addressed). addressed.message) (to_shard shard (messages_by entry.deed))
  channel-push shard = rw (addressed-push shard) (map-append _ (addressed_to shard log) (to_shard shard (messages_by entry.deed)))

-- what holds at the start, and goes on holding with each entry that is right, holds of each log of the gatekeeper
pub by_entries : (home shards : ℕ) (Q : List GateEntry → Type 0) → Q [] → ((log : List GateEntry) (entry : GateEntry) → IsGateLog home shards log → FitsAs home shards log entry.author entry.deed → Q log → Q (log ++ entry ∷ [])) → (log : List GateEntry) → IsGateLog home shards log → Q log
by_entries home shards Q none more = entries.by_entries (λ before (one : GateEntry). FitsAs home shards before one.author one.deed) Q none more
