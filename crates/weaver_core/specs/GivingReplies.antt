-- What the machines do at `reply` of a transaction. No public contract cites this.
use Rattle.std.specs.Prelude.{◌≡◌, ◌<◌, ◌==◌, ◌&&◌, ℕ, Bool, true, false, not, length, List, Contains, Option, Some}
use Rattle.vector_stamp.specs.declared.clock.Stamp.{Stamp}
use Rattle.program_defs.specs.declared.script.Request.{Request}
use Rattle.program_defs.specs.declared.script.Script.{Script}
use Rattle.report_rules.specs.Lookups.{is_some_and, request_at}
use Rattle.report_rules.specs.declared.report.Reply.{Reply}
use Rattle.report_rules.specs.declared.report.StepAnswer.{StepAnswer}
use Rattle.report_rules.specs.declared.report.StepAnswer.TheVariants.{Ok, Idle}
use Rattle.weave_entries.specs.declared.session_log.SessionDeed.TheVariants.{Replied}
use Rattle.weave_entries.specs.declared.store_log.StoreEntry.{StoreEntry}
use Rattle.weave_entries.specs.GateReplay.{BegunRequest, flight_of}
use Rattle.weave_entries.specs.StoreReplay.{judgement_of}
use Rattle.weave_account.specs.Report.{state_of_tx}
use Rattle.weaver_core.specs.Sessions as clients
use Rattle.weaver_core.specs.GateTable as gates

-- whether the request is the transaction in flight at this gatekeeper
abbrev pub is_flying : gates.GateTable → ℕ → ℕ → Bool
is_flying table home r =
    is_some_and (λ (flight : BegunRequest). flight.request == r) (flight_of (gates.gate_log_at table home))

-- whether a transaction can have its reply: it has begun, has none, and is not in flight
abbrev pub can_have_reply : gates.GateTable → clients.ClientTable → Request → ℕ → Bool
can_have_reply table was request r = clients.is_open_at was request.session r && not (is_flying table request.gate r)

-- the request's gatekeeper and session are there, and it is one of its session's
pub record HasGateAndSession (table : gates.GateTable) (was : clients.ClientTable) (r : ℕ)
    (request : Request) : Type 0 where
  pub gate : request.gate < length table.logs
  pub session : request.session < length was.logs
  pub among : Contains (clients.requests_at was request.session) r

-- the reply of a transaction with this stamp, by the store's log
abbrev pub reply_of_change : List StoreEntry → Option Stamp → ℕ → Reply
reply_of_change store stamp r = record { request = r; stamp = stamp; state = state_of_tx (judgement_of r store) }

-- the transaction's session has the reply
pub record HasItsReply (table : gates.GateTable) (store : List StoreEntry) (was is : clients.ClientTable) (r : ℕ)
    (request : Request) : Type 0 where
  pub can_be : can_have_reply table was request r ≡ true
  pub adds : clients.AddsToSession was is request.session (Replied r)
  pub values : is.values ≡ clients.with_reply_at was.values request.session
      (reply_of_change store (clients.session_at was request.session).last r)

-- what `reply` answers for a transaction, and what it leaves
abbrev pub RepliesToOne : gates.GateTable → List StoreEntry → clients.ClientTable → clients.ClientTable → ℕ → Request
    → StepAnswer → Type 0
RepliesToOne table store was is r request Ok = HasItsReply table store was is r request
RepliesToOne table store was is r request Idle = (can_have_reply table was request r ≡ false) × (is ≡ was)
RepliesToOne table store was is r request _ = ⊥

-- the same, of the script's request
pub record Replies (script : Script) (table : gates.GateTable) (store : List StoreEntry) (was is : clients.ClientTable)
    (r : ℕ) (answer : StepAnswer) : Type 0 where
  pub request : Request
  pub request_is : request_at script r ≡ Some request
  pub replies : RepliesToOne table store was is r request answer
