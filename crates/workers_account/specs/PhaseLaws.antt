-- The laws that the account of a phase relies on, in one record. No public contract cites this.
use Rattle.std.specs.Prelude.{◌≡◌, ◌≢◌, ◌↔◌, ℕ, ◌<◌, ◌≤◌, ◌==◌, List, [], map, take, length, AllPairs, Contains, IsTrue, Some}
use Rattle.std.specs.List.{filter}
use Rattle.weave_data.specs.Limits.{most_gates}
use Rattle.vector_stamp.specs.declared.clock.Clock.{Clock}
use Rattle.vector_stamp.specs.declared.clock.Stamp.{Stamp}
use Rattle.vector_stamp.specs.Order.{id_of}
use Rattle.program_defs.specs.declared.script.Request.{Request}
use Rattle.program_defs.specs.declared.script.Script.{Script}
use Rattle.program_defs.specs.Limits.{IsWithinLimits}
use Rattle.report_rules.specs.Lookups.{request_at}
use Rattle.weave_entries.specs.declared.gate_log.GateEntry.{GateEntry}
use Rattle.weave_entries.specs.declared.session_log.SessionEntry.{SessionEntry}
use Rattle.weave_entries.specs.declared.session_log.SessionDeed.{SessionDeed}
use Rattle.weave_entries.specs.GateReplay.{BegunRequest, ended_in, flight_of, programs_of, txs_of}
use Rattle.weave_entries.specs.GateRules.{BeginsEachOnce, EndsWhatItBegan, IsGateLog}
use Rattle.weave_entries.specs.SessionReplay.{IsSessionLog, begins_in, has_reply_in, next_request, replied_count, replied_in, session_of}
use Rattle.weave_entries.specs.ShardReplay.{Visit}
use Rattle.weave_account.specs.declared.account.Account.{Account}
use Rattle.weave_account.specs.Account.{all_begun, gate_log, reads_of, session_log, shard_log}
use Rattle.weave_account.specs.Clocks.{IsKnown}
use Rattle.weave_account.specs.Gatekeepers.{BeginEachOnce, last_stamp}
use Rattle.weave_account.specs.GoesOn.{GoesOn, IsBeginningOf, visits_by}
use Rattle.weave_account.specs.IsAccount.{IsAccount}
use Rattle.weave_account.specs.Sessions.{RepliesAs, SessionsClause, requests_of_session}
use Rattle.seen_logs.specs.Closed.{AreOfHands}
use Rattle.seen_logs.specs.Seen.{AreLegal, VisitsOwnPrograms, entries_since, without_sessions}
use Rattle.hands_account.specs.Runs.{IsRunByHands}
use Rattle.weaver_locks.specs.declared.hand.Hand.{Hand}
use Rattle.weaver_locks.specs.declared.shared.Shared.{Shared}
use Rattle.weaver_locks.specs.Closing.{entries_by, seen_by_number}
use Rattle.weaver_locks.specs.Following.{VisitsItsOwnPrograms}
use Rattle.weaver_locks.specs.Hands.{hand_number, made_by, seen_by, IsHand}
use Rattle.weaver_locks.specs.Locks.{start_of}
use Rattle.weaver_hands.specs.Leaving.{MakesNoVisit}
use Rattle.weaver_hands.specs.Programs.{own_reads}
use Rattle.weaver_workers.specs.ClientWork.{Goes, Stand}
use Rattle.weaver_workers.specs.Keeping.{AreLocksOf, KeepsClient}
use Rattle.workers_account.specs.Followed.{IsFollowed}

pub record PhaseLaws : Type 0 where
  -- Workers
  pub follow : (shared : Shared) (script : Script) (number upto : ℕ) (from at : Stand) (path : List Stand)
      → IsWithinLimits script → AreLocksOf script shared → KeepsClient shared script number from.hand from.client
      → VisitsItsOwnPrograms shared from.hand → Goes shared script number upto from path at
      → IsFollowed shared script number upto from at
  -- Hands
  pub visits_none : (shared : Shared) (hand : Hand) → seen_by hand ≡ start_of shared → VisitsItsOwnPrograms shared hand
  pub visits_carried : (shared : Shared) (old new : Hand) → IsHand shared old → IsHand shared new
      → ((r : ℕ) → MakesNoVisit old new r) → VisitsOwnPrograms (hand_number old) (start_of shared) (seen_by old)
      → VisitsOwnPrograms (hand_number new) (start_of shared) (seen_by new)
  pub own_at_gate : (shared : Shared) (hand : Hand) → IsHand shared hand → (home : ℕ) → gate_log (made_by hand) home
      ≡ filter (λ (entry : GateEntry). entry.author == hand_number hand) (gate_log (seen_by hand) home)
  pub own : (shared : Shared) (hand : Hand) → IsHand shared hand
      → made_by hand ≡ entries_by (hand_number hand) (seen_by hand)
  pub found : (hands : List Hand) (number : ℕ) → Contains (map hand_number hands) number → (hand : Hand)
      × Contains hands hand × (hand_number hand ≡ number) × (seen_by_number hands number ≡ seen_by hand)
  pub reads_all : (hand : Hand) (r : ℕ) → ((shard : ℕ) (visit : Visit)
      → Contains (visits_by r (shard_log (seen_by hand) shard)) visit → visit.author ≡ hand_number hand)
      → own_reads hand r ≡ reads_of (seen_by hand) r
  pub reads_closed : (gates shards hands : ℕ) (start : Account) (seen_by : ℕ → Account) (closed : Account)
      → length closed.gates ≤ most_gates → AreLegal gates shards closed
      → AreOfHands shards hands start seen_by closed → BeginEachOnce closed
      → (number home r : ℕ) (stamp : Stamp) → number < hands
      → Contains (programs_of (entries_since (gate_log start home) (gate_log (seen_by number) home)))
      (record { author = number; request = r; stamp = stamp }) → reads_of closed r ≡ reads_of (seen_by number) r
  -- Logs at gatekeepers
  pub ends : (home shards : ℕ) (log : List GateEntry) → IsGateLog home shards log → EndsWhatItBegan log
  pub flights : (home shards : ℕ) (log : List GateEntry) → IsGateLog home shards log → BeginsEachOnce log
      → (tx : BegunRequest)
      → (flight_of log ≡ Some tx) ↔ (Contains (txs_of log) tx × ¬ Contains (ended_in log) tx.request)
  -- Sessions
  pub begun_first : (number : ℕ) (requests : List ℕ) (log : List SessionEntry) → IsSessionLog number requests log
      → map (λ (begun : ℕ × Stamp). begun.0) (begins_in log) ≡ take (session_of requests log).begun requests
  pub replied_first : (number : ℕ) (requests : List ℕ) (log : List SessionEntry) → IsSessionLog number requests log
      → replied_in log ≡ take (replied_count (session_of requests log)) requests
  pub has_reply : (request : ℕ) (log : List SessionEntry) → IsTrue (has_reply_in request log)
      ↔ Contains (replied_in log) request
  pub rise : (script : Script) (session : ℕ) → AllPairs (λ (a b : ℕ). a < b) (requests_of_session script session)
  pub last_is : (script : Script) (account : Account) → SessionsClause script account
      → (r : ℕ) (request : Request) → request_at script r ≡ Some request
      → (log : List SessionEntry) → IsBeginningOf log (session_log account request.session)
      → next_request (session_of (requests_of_session script request.session) log) ≡ Some r
      → last_stamp script account r ≡ (session_of [] log).last
  -- Accounts
  pub once_at : (script : Script) (account : Account) → IsWithinLimits script → IsAccount script account
      → (home : ℕ) → BeginsEachOnce (gate_log account home)
  pub ids : (script : Script) (account : Account) → IsWithinLimits script → IsAccount script account
      → (a b : BegunRequest) → Contains (all_begun account) a → Contains (all_begun account) b → a.request ≢ b.request
      → id_of a.stamp ≢ id_of b.stamp
  pub replies_stay : (script : Script) (account next : Account) → GoesOn account next
      → (deed : SessionDeed) → RepliesAs account deed → RepliesAs next deed
  pub clocks_stay : (script : Script) (account next : Account) → GoesOn account next
      → (clock : Clock) → IsKnown account clock → IsKnown next clock
  pub account : (script : Script) (hands : ℕ) (start : Account) (seen_by : ℕ → Account) (closed : Account)
      → IsWithinLimits script → AreLegal script.gates script.shards closed
      → AreOfHands script.shards hands (without_sessions start) seen_by (without_sessions closed)
      → IsRunByHands script hands start seen_by closed → IsAccount script closed
  pub goes_on : (shards hands : ℕ) (start : Account) (seen_by : ℕ → Account) (closed : Account)
      → AreOfHands shards hands (without_sessions start) seen_by (without_sessions closed)
      → ((session : ℕ) → IsBeginningOf (session_log start session) (session_log closed session))
      → GoesOn start closed
