-- How far a phase of workers brings a session, as the logs before and after it say.
use Rattle.std.specs.Prelude.{◌≡◌, ◌≢◌, ◌⊎◌, ℕ, ◌<◌, List, ◌++◌, Contains, IsTrue, Some}
use Rattle.graph_ops.specs.declared.op.Op.{Op}
use Rattle.vector_stamp.specs.declared.clock.Stamp.{Stamp}
use Rattle.weave_data.specs.declared.name.Name.{Name}
use Rattle.weave_data.specs.Names.{shard_of}
use Rattle.program_defs.specs.declared.program.Program.{Program}
use Rattle.program_defs.specs.declared.script.Request.{Request}
use Rattle.program_defs.specs.declared.script.Script.{Script}
use Rattle.program_defs.specs.declared.script.Work.TheVariants.{Change, Look}
use Rattle.program_defs.specs.Visits.{next_visit}
use Rattle.report_rules.specs.Lookups.{request_at}
use Rattle.weave_entries.specs.declared.gate_log.GateEntry.{GateEntry}
use Rattle.weave_entries.specs.declared.gate_log.GateDeed.TheVariants.{Heard}
use Rattle.weave_entries.specs.declared.session_log.SessionEntry.{SessionEntry}
use Rattle.weave_entries.specs.declared.shard_log.ShardEntry.{ShardEntry}
use Rattle.weave_entries.specs.GateReplay.{begun_in, clock_of, flight_of, programs_of, txs_of, BegunRequest}
use Rattle.weave_entries.specs.SessionReplay.{begins_in, next_request, session_of}
use Rattle.weave_entries.specs.ShardReplay.{first_unready}
use Rattle.weave_account.specs.declared.account.Account.{Account}
use Rattle.weave_account.specs.Account.{gate_log, reads_of, session_log, shard_log}
use Rattle.weave_account.specs.GoesOn.{visits_by, IsBeginningOf}
use Rattle.weave_account.specs.Sessions.{requests_of_session}
use Rattle.step_rules.specs.Requests.{has_reply}
use Rattle.seen_logs.specs.Seen.{entries_since}

-- a log as it was at some time between two others: it goes on from the first, and the second goes on from it
pub record IsLogBetween {E : Type 0} (old new log : List E) : Type 0 where
  pub since : IsBeginningOf old log
  pub until : IsBeginningOf log new

-- each request of the session before `upto` has its reply
abbrev pub HasAllReplies : Script → ℕ → ℕ → Account → Type 0
HasAllReplies script upto session account = (r : ℕ) (asked : Request) → request_at script r ≡ Some asked
    → asked.session ≡ session → r < upto → IsTrue (has_reply account r asked)

-- the session has no request from the first number to before the second
abbrev pub HasNoRequest : Script → ℕ → ℕ → ℕ → Type 0
HasNoRequest script from upto session = (r : ℕ) (asked : Request) → request_at script r ≡ Some asked
    → asked.session ≡ session → r < upto → r < from

-- The session's next request, before `upto`, is a transaction. At some time in the phase its gatekeeper had begun all
-- that it began for the session, and a transaction of another session, begun in the phase, was in flight there.
pub record StoppedAtBusyGate (script : Script) (upto session : ℕ) (old new : Account) : Type 0 where
  pub r : ℕ
  pub asked : Request
  pub request_is : request_at script r ≡ Some asked
  pub next : next_request (session_of (requests_of_session script session) (session_log new session)) ≡ Some r
  pub below : r < upto
  pub ops : List Op
  pub work_is : asked.work ≡ Change ops
  pub log : List GateEntry
  pub between : IsLogBetween (gate_log old asked.gate) (gate_log new asked.gate) log
  pub flight : BegunRequest
  pub busy : flight_of log ≡ Some flight
  pub since : Contains (txs_of (entries_since (gate_log old asked.gate) log)) flight
  pub other : Request
  pub other_is : request_at script flight.request ≡ Some other
  pub others : other.session ≢ session
  pub own : (begun : BegunRequest) (its : Request) → Contains (begun_in (gate_log new asked.gate)) begun
      → request_at script begun.request ≡ Some its → its.session ≡ session → Contains (begun_in log) begun

-- A gatekeeper has heard in the phase a clock that the program's home had said in the phase, after this begin.
pub record HeardOfProgram (old new : Account) (begun : BegunRequest) (gate : ℕ) : Type 0 where
  pub said : List GateEntry
  pub between : IsLogBetween (gate_log old begun.stamp.home) (gate_log new begun.stamp.home) said
  pub after : Contains (programs_of said) begun
  pub entry : GateEntry
  pub heard : Contains (entries_since (gate_log old gate) (gate_log new gate)) entry
  pub deed : entry.deed ≡ Heard (clock_of begun.stamp.home said)

-- A program of the session, before `upto`, was begun in the phase and has not its reply. Each gatekeeper but its home
-- has heard of it. At some time in the phase the shard of the vertex that it visits next had all visits that were made
-- there for it, and was not ready for it: this is the least gatekeeper for which it was not.
pub record StoppedAtUnreadyShard (script : Script) (upto session : ℕ) (old new : Account) : Type 0 where
  pub r : ℕ
  pub asked : Request
  pub request_is : request_at script r ≡ Some asked
  pub session_is : asked.session ≡ session
  pub below : r < upto
  pub program : Program
  pub work_is : asked.work ≡ Look program
  pub stamp : Stamp
  pub added : List SessionEntry
  pub log_is : session_log new session ≡ session_log old session ++ added
  pub begun : Contains (begins_in added) (r, stamp)
  pub unanswered : ¬ IsTrue (has_reply new r asked)
  pub author : ℕ
  pub heard : (other : ℕ) → other < script.gates → other ≢ stamp.home
      → HeardOfProgram old new (record { author = author; request = r; stamp = stamp }) other
  pub vertex : Name
  pub next_is : next_visit (reads_of new r) program ≡ Some vertex
  pub gate : ℕ
  pub log : List ShardEntry
  pub between : IsLogBetween (shard_log old (shard_of vertex script.shards))
      (shard_log new (shard_of vertex script.shards)) log
  pub visits : visits_by r log ≡ visits_by r (shard_log new (shard_of vertex script.shards))
  pub unready : first_unready script.gates stamp log ≡ Some gate

-- The phase was run for the session: it has all its replies, or the logs show one of the two reasons to stop.
abbrev pub WasRunForSession : Script → ℕ → ℕ → Account → Account → Type 0
WasRunForSession script upto session old new = HasAllReplies script upto session new
    ⊎ (StoppedAtBusyGate script upto session old new
    ⊎ StoppedAtUnreadyShard script upto session old new)
