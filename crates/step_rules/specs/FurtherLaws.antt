-- What step_rules cites of accounts besides: laws of weave_account on requests, clocks and reads, and a law of
-- program_defs, each in one record. No public contract cites this.
use Rattle.std.specs.Prelude.{◌≡◌, ◌≢◌, ◌↔◌, ℕ, ◌+◌, ◌<◌, List, [], ◌∷◌, ◌++◌, map, length, take, AllPairs, Contains, IsTrue, Some, IsSomeAnd}
use Rattle.std.specs.List.{flat_map}
use Rattle.weave_data.specs.declared.name.Name.{Name}
use Rattle.graph_ops.specs.Operations.{State}
use Rattle.program_defs.specs.declared.program.Program.{Program}
use Rattle.program_defs.specs.Visits.{AreFirstVisits, next_visit}
use Rattle.vector_stamp.specs.declared.clock.Clock.{Clock}
use Rattle.vector_stamp.specs.declared.clock.Stamp.{Stamp}
use Rattle.vector_stamp.specs.Clocks.{clock_after_tick, counts_no_more}
use Rattle.vector_stamp.specs.Order.{id_of}
use Rattle.program_defs.specs.declared.script.Request.{Request}
use Rattle.program_defs.specs.declared.script.Script.{Script}
use Rattle.program_defs.specs.declared.script.Work.TheVariants.{Change}
use Rattle.program_defs.specs.Works.{is_change}
use Rattle.report_rules.specs.Lookups.{request_at}
use Rattle.weave_entries.specs.GateReplay.{BegunRequest, clock_of, flight_of, low_mark, ticks_of}
use Rattle.weave_entries.specs.GateRules.{BeginsEachOnce}
use Rattle.weave_entries.specs.Sending.{IsCountsOf}
use Rattle.weave_entries.specs.SessionReplay.{next_request, session_of}
use Rattle.weave_entries.specs.ShardReplay.{reads_in, visits_of}
use Rattle.weave_entries.specs.StoreReplay.{Judgement, judgements_of}
use Rattle.weave_account.specs.declared.account.Account.{Account}
use Rattle.weave_account.specs.Account.{IsBegunStamp, all_begun, gate_log, reads_of, session_log, shard_log}
use Rattle.weave_account.specs.Clocks.{IsKnown}
use Rattle.weave_account.specs.Gatekeepers.{last_stamp, request_before}
use Rattle.weave_account.specs.GoesOn.{GoesOn}
use Rattle.weave_account.specs.IsAccount.{IsAccount}
use Rattle.program_defs.specs.Limits.{IsWithinLimits}
use Rattle.weave_account.specs.Oracle.{marked_in}
use Rattle.weave_account.specs.Sessions.{requests_of_session}
use Rattle.weave_account.specs.Store.{InTurn}

-- a list of numbers that rise
abbrev pub NumbersRise : List ℕ → Type 0
NumbersRise requests = AllPairs (λ (a b : ℕ). a < b) requests

-- of program_defs
pub record ProgramLaws : Type 0 where
  -- a program that has read the first of its visits and then reads the next one has again read the first ones
  pub visits_go_on : (program : Program) (front back : List (Name × State)) (v : Name) (state : State)
      → AreFirstVisits (front ++ back) program → next_visit (front ++ back) program ≡ Some v
      → AreFirstVisits (front ++ (v, state) ∷ back) program

-- of weave_account
pub record FurtherAccountLaws : Type 0 where
  -- what is known counts no more of a gatekeeper's events than it made
  pub may_be_heard : (script : Script) (account : Account) → IsWithinLimits script → IsAccount script account
      → (home : ℕ) (clock : Clock) → home < script.gates → IsKnown account clock
      → IsTrue (counts_no_more home (clock_of home (gate_log account home)) clock)
  -- a tick keeps what is known, once it was made
  pub ticked : (script : Script) (account next : Account) → IsWithinLimits script → IsAccount script account
      → GoesOn account next
      → (home : ℕ) → home < script.gates → (clock : Clock) → IsKnown account clock
      → ticks_of clock.epoch (gate_log next home) ≡ ticks_of clock.epoch (gate_log account home) + 1
      → IsKnown next (clock_after_tick home clock)
  -- the meet of known stamps is known; it is asked of logs that are still to be shown to be an account
  pub low : (account : Account) (stamp : Stamp) (running : List BegunRequest)
      → IsKnown account stamp.clock
      → ((begun : BegunRequest) → Contains running begun → IsKnown account begun.stamp.clock)
      → IsKnown account (low_mark stamp running)
  -- the stamp that a session began last is that of a begun request
  pub last : (script : Script) (account : Account) → IsWithinLimits script → IsAccount script account
      → (session : ℕ) (stamp : Stamp) → (session_of [] (session_log account session)).last ≡ Some stamp
      → IsBegunStamp account stamp
  -- two begun requests have stamps of different ids
  pub differ : (script : Script) (account : Account) → IsWithinLimits script → IsAccount script account
      → (a b : BegunRequest) → Contains (all_begun account) a → Contains (all_begun account) b → a.request ≢ b.request
      → id_of a.stamp ≢ id_of b.stamp
  -- what was judged is the transaction of a request, and its verdict counts the vertices that this one names
  pub judged_work : (script : Script) (account : Account) → IsWithinLimits script → IsAccount script account
      → (judged : Judgement) → Contains (judgements_of account.store) judged
      → IsSomeAnd (request_at script judged.request) (λ (request : Request). request.work ≡ Change judged.ops)
  pub judged_counts : (script : Script) (account : Account) → IsWithinLimits script → IsAccount script account
      → (judged : Judgement) → Contains (judgements_of account.store) judged → IsCountsOf judged.ops judged.verdict
  pub judged_begun : (script : Script) (account : Account) → IsWithinLimits script → IsAccount script account
      → (judged : Judgement) → Contains (judgements_of account.store) judged
      → Contains (all_begun account) (record { author = judged.author; request = judged.request; stamp = judged.stamp })
  -- what is in flight is a transaction of a request, at its own gatekeeper
  pub flights : (script : Script) (account : Account) → IsWithinLimits script → IsAccount script account
      → (home : ℕ) (flight : BegunRequest) → flight_of (gate_log account home) ≡ Some flight
      → IsSomeAnd (request_at script flight.request) (λ (request : Request). (request.gate ≡ home)
      × IsTrue (is_change request.work))
  -- what was judged of a session comes before what is in flight of it
  pub judged_before : (script : Script) (account : Account) → IsWithinLimits script → IsAccount script account
      → (home : ℕ) (flight : BegunRequest) → flight_of (gate_log account home) ≡ Some flight
      → (judged : Judgement) → Contains (judgements_of account.store) judged → judged.request ≢ flight.request
      → InTurn script judged.request flight.request
  -- a session's next request begins after what the session began last
  pub follows : (script : Script) (account : Account) → IsWithinLimits script → IsAccount script account
      → (r : ℕ) (request : Request) → request_at script r ≡ Some request
      → next_request (session_of (requests_of_session script request.session) (session_log account request.session))
      ≡ Some r
      → last_stamp script account r ≡ (session_of [] (session_log account request.session)).last
  -- the request before it in its session is an earlier one
  pub earlier : (script : Script) (r before : ℕ) → request_before script r ≡ Some before → before < r
  -- the requests of a session rise, and each request is one of its session's
  pub rise : (script : Script) (session : ℕ) → NumbersRise (requests_of_session script session)
  pub among : (script : Script) (r : ℕ) (request : Request) → request_at script r ≡ Some request
      → Contains (requests_of_session script request.session) r
  -- at each gatekeeper a request begins once
  pub each_once : (script : Script) (account : Account) → IsWithinLimits script → IsAccount script account → (home : ℕ)
      → BeginsEachOnce (gate_log account home)
  -- what marked visits saw last stays, if no program visits anything more
  pub same_marked : (script : Script) (account next : Account) → IsWithinLimits script → IsAccount script account
      → GoesOn account next
      → length next.shards ≡ length account.shards
      → ((shard : ℕ) → visits_of (shard_log next shard) ≡ visits_of (shard_log account shard))
      → flat_map marked_in next.shards ≡ flat_map marked_in account.shards
  -- a program that visits nothing more has read the same
  pub same_reads : (script : Script) (account next : Account) → IsWithinLimits script → IsAccount script account
      → GoesOn account next
      → length next.shards ≡ length account.shards → (r : ℕ)
      → ((shard : ℕ) → length (reads_in r (shard_log next shard)) ≡ length (reads_in r (shard_log account shard)))
      → reads_of next r ≡ reads_of account r
