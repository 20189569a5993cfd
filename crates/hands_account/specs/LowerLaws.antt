-- The laws of the crates below that the laws of this crate rely on, in one record. No public contract cites this.
use Rattle.std.specs.Prelude.{◌≡◌, ◌≢◌, ◌↔◌, ℕ, ◌<◌, ◌≤◌, List, ◌∷◌, ◌++◌, not, ◌==◌, map, take, length, AllPairs, Contains, IsTrue, Some}
use Rattle.weave_data.specs.Limits.{most_gates}
use Rattle.vector_stamp.specs.declared.clock.Stamp.{Stamp}
use Rattle.program_defs.specs.declared.script.Request.{Request}
use Rattle.program_defs.specs.declared.script.Script.{Script}
use Rattle.program_defs.specs.Limits.{IsWithinLimits}
use Rattle.program_defs.specs.Works.{is_change}
use Rattle.report_rules.specs.Lookups.{is_some_and, request_at}
use Rattle.weave_entries.specs.declared.gate_log.GateEntry.{GateEntry}
use Rattle.weave_entries.specs.declared.session_log.SessionEntry.{SessionEntry}
use Rattle.weave_entries.specs.Logs.{AtEachEntry}
use Rattle.weave_entries.specs.GateReplay.{BegunRequest, begun_in, flight_of, has_ended_in, programs_of}
use Rattle.weave_entries.specs.GateRules.{EndsWhatItBegan, IsGateLog}
use Rattle.weave_entries.specs.SessionReplay.{IsSessionLog, begins_in, has_begun_in, session_of}
use Rattle.weave_entries.specs.StoreReplay.{Judgement, judgements_of}
use Rattle.weave_account.specs.declared.account.Account.{Account}
use Rattle.weave_account.specs.Account.{all_begun, gate_log, is_ended, reads_of, session_log}
use Rattle.weave_account.specs.Gatekeepers.{BeginEachOnce, BeginsAs}
use Rattle.weave_account.specs.GoesOn.{GoesOn}
use Rattle.weave_account.specs.IsAccount.{IsAccount}
use Rattle.weave_account.specs.Programs.{ProgramsClause}
use Rattle.weave_account.specs.Sessions.{requests_of_session}
use Rattle.weave_account.specs.Store.{InTurn}
use Rattle.seen_logs.specs.Closed.{AreOfHands}
use Rattle.seen_logs.specs.FollowsScript.{BegunProgramsReadInTurn, FollowsScript}
use Rattle.seen_logs.specs.Seen.{AreLegal, IsSeenByHand, entries_since, without_sessions}

-- closed logs refer within and make an account, programs read what was seen, and accounts keep their laws
pub record LawsForHands : Type 0 where
  -- Closed logs
  pub refer_within : (gates shards hands : ℕ) (start : Account) (seen_by : ℕ → Account) (closed : Account)
      → length closed.gates ≤ most_gates → AreLegal gates shards closed → AreOfHands shards hands start seen_by closed
      → (number : ℕ) → IsSeenByHand shards number closed closed
  pub make_account : (script : Script) (account : Account) (number : ℕ) → AreLegal script.gates script.shards account
      → IsSeenByHand script.shards number (without_sessions account) (without_sessions account)
      → FollowsScript script account → IsAccount script account
  pub programs_follow : (script : Script) (account : Account) (number : ℕ) → AreLegal script.gates script.shards account
      → IsSeenByHand script.shards number (without_sessions account) (without_sessions account)
      → ((home : ℕ) → AtEachEntry (λ before (entry : GateEntry). BeginsAs script account home before entry.deed)
      (gate_log account home))
      → BegunProgramsReadInTurn script account → ProgramsClause script account
  -- Programs
  pub reads : (gates shards hands : ℕ) (start : Account) (seen_by : ℕ → Account) (closed : Account)
      → length closed.gates ≤ most_gates → AreLegal gates shards closed
      → AreOfHands shards hands start seen_by closed → BeginEachOnce closed
      → (number home r : ℕ) (stamp : Stamp) → number < hands
      → Contains (programs_of (entries_since (gate_log start home) (gate_log (seen_by number) home)))
      (record { author = number; request = r; stamp = stamp }) → reads_of closed r ≡ reads_of (seen_by number) r
  pub ended : (gates shards hands : ℕ) (start : Account) (seen_by : ℕ → Account) (closed : Account)
      → length closed.gates ≤ most_gates → AreLegal gates shards closed
      → AreOfHands shards hands start seen_by closed → BeginEachOnce closed
      → (number home r : ℕ) (stamp : Stamp) → number < hands
      → Contains (programs_of (entries_since (gate_log start home) (gate_log (seen_by number) home)))
      (record { author = number; request = r; stamp = stamp }) → is_ended closed r ≡ is_ended (seen_by number) r
  pub at_start : (gates shards hands : ℕ) (start : Account) (seen_by : ℕ → Account) (closed : Account)
      → length closed.gates ≤ most_gates → AreLegal gates shards closed
      → AreOfHands shards hands start seen_by closed → BeginEachOnce closed
      → (home : ℕ) (begun : BegunRequest) → Contains (begun_in (gate_log start home)) begun
      → reads_of closed begun.request ≡ reads_of start begun.request
  -- Accounts
  pub begins_stay : (script : Script) (account next : Account) → IsWithinLimits script → IsAccount script account
      → GoesOn account next → BeginEachOnce next
      → (home : ℕ) (before after : List GateEntry) (entry : GateEntry)
      → gate_log account home ≡ before ++ entry ∷ after → BeginsAs script next home before entry.deed
  pub begun_judged : (script : Script) (account : Account) → IsWithinLimits script → IsAccount script account
      → (judged : Judgement) → Contains (judgements_of account.store) judged → Contains (all_begun account)
      (record { author = judged.author; request = judged.request; stamp = judged.stamp })
  pub before_flight : (script : Script) (account : Account) → IsWithinLimits script → IsAccount script account
      → (home : ℕ) (flight : BegunRequest) → flight_of (gate_log account home) ≡ Some flight
      → (judged : Judgement) → Contains (judgements_of account.store) judged → judged.request ≢ flight.request
      → InTurn script judged.request flight.request
  pub sent : (script : Script) (account : Account) → IsWithinLimits script → IsAccount script account
      → (r : ℕ) (request : Request) → request_at script r ≡ Some request → IsTrue (is_change request.work)
      → IsTrue (has_begun_in r (session_log account request.session))
      → has_ended_in r (gate_log account request.gate) ≡ not (is_some_and
      (λ (flight : BegunRequest). flight.request == r) (flight_of (gate_log account request.gate)))
  -- Sessions
  pub rise : (script : Script) (session : ℕ) → AllPairs (λ (a b : ℕ). a < b) (requests_of_session script session)
  pub among : (script : Script) (r : ℕ) (request : Request) → request_at script r ≡ Some request
      → Contains (requests_of_session script request.session) r
  pub first_begun : (number : ℕ) (requests : List ℕ) (log : List SessionEntry) → IsSessionLog number requests log
      → map (λ (begun : ℕ × Stamp). begun.0) (begins_in log) ≡ take (session_of requests log).begun requests
  pub has_begun : (request : ℕ) (log : List SessionEntry) → IsTrue (has_begun_in request log)
      ↔ Contains (map (λ (begun : ℕ × Stamp). begun.0) (begins_in log)) request
  -- Gatekeepers' logs
  pub ends : (home shards : ℕ) (log : List GateEntry) → IsGateLog home shards log → EndsWhatItBegan log
