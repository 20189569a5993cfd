-- How a request is, as the logs say.
use Rattle.std.specs.Prelude.{ℕ, Bool, not, ◌&&◌, List, [], nat_lt, is_some, Option, None, Some}
use Rattle.std.specs.List.{list_any}
use Rattle.weave_data.specs.declared.name.Name.{Name}
use Rattle.graph_ops.specs.declared.op.Op.{Op}
use Rattle.vector_stamp.specs.declared.clock.Stamp.{Stamp}
use Rattle.program_defs.specs.declared.script.Request.{Request}
use Rattle.program_defs.specs.declared.script.Script.{Script}
use Rattle.program_defs.specs.declared.script.Work.{Work}
use Rattle.program_defs.specs.declared.script.Work.TheVariants.{Change, Look}
use Rattle.program_defs.specs.Visits.{next_visit}
use Rattle.program_defs.specs.Works.{is_change, ops_of}
use Rattle.weave_entries.specs.declared.session_log.SessionEntry.{SessionEntry}
use Rattle.weave_entries.specs.GateReplay.{flight_of, has_ended_in}
use Rattle.weave_entries.specs.SessionReplay.{session_of, has_begun_in, has_reply_in}
use Rattle.weave_entries.specs.StoreReplay.{judgement_of}
use Rattle.weave_account.specs.declared.account.Account.{Account}
use Rattle.weave_account.specs.Account.{gate_log, session_log, reads_of}
use Rattle.weave_account.specs.Sessions.{requests_of_session}

-- In its session

-- the request has begun
abbrev pub has_begun : Account → ℕ → Request → Bool
has_begun account r request = has_begun_in r (session_log account request.session)

-- the request has its reply
abbrev pub has_reply : Account → ℕ → Request → Bool
has_reply account r request = has_reply_in r (session_log account request.session)

-- of these requests of a session an earlier one has no reply
abbrev pub waits_before : ℕ → List ℕ → List SessionEntry → Bool
waits_before r requests log = list_any (λ earlier. nat_lt earlier r && not (has_reply_in earlier log)) requests

-- an earlier request of its session has no reply, whether it has begun or not
abbrev pub waits_for_earlier : Script → Account → ℕ → Request → Bool
waits_for_earlier script account r request =
    waits_before r (requests_of_session script request.session) (session_log account request.session)

-- the stamp of the request that was begun last in a session, if one was: the session's requests play no part in it
abbrev pub last_begun : Account → ℕ → Option Stamp
last_begun account session = (session_of [] (session_log account session)).last

-- At its gatekeeper

-- it is a transaction, and one is in flight at its gatekeeper
abbrev pub finds_flight : Account → Request → Bool
finds_flight account request = is_change request.work && is_some (flight_of (gate_log account request.gate))

-- it was sent, or finished
abbrev pub has_ended : Account → ℕ → Request → Bool
has_ended account r request = has_ended_in r (gate_log account request.gate)

-- At the store

-- the transaction has its verdict
abbrev pub is_judged : Account → ℕ → Bool
is_judged account r = is_some (judgement_of r account.store)

-- the operations of a request; a program has none
abbrev pub ops_in : Option Request → List Op
ops_in None = []
ops_in (Some request) = ops_of request.work

-- At the shards

-- the vertex that the work visits next, after what the request has read; a transaction visits none
abbrev pub next_vertex : Account → ℕ → Work → Option Name
next_vertex account r (Change ops) = None
next_vertex account r (Look program) = next_visit (reads_of account r) program

-- Its end

-- it is a transaction that was sent, or a program that has no next vertex
abbrev pub is_answered : Account → ℕ → Request → Work → Bool
is_answered account r request (Change ops) = has_ended account r request
is_answered account r request (Look program) = not (is_some (next_visit (reads_of account r) program))
