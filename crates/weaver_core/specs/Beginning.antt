-- What the machines do at `begin`. No public contract cites this.
use Rattle.std.specs.Prelude.{◌≡◌, ◌<◌, ◌&&◌, ℕ, Bool, true, false, length, is_some, Contains, IsTrue, Some}
use Rattle.std.specs.Option.{ForSome}
use Rattle.vector_stamp.specs.declared.clock.Stamp.{Stamp}
use Rattle.vector_stamp.specs.Clocks.{counts_no_more}
use Rattle.vector_stamp.specs.Order.{has_64_bits}
use Rattle.program_defs.specs.declared.script.Request.{Request}
use Rattle.program_defs.specs.declared.script.Script.{Script}
use Rattle.program_defs.specs.Works.{is_change}
use Rattle.report_rules.specs.Lookups.{request_at}
use Rattle.report_rules.specs.declared.report.StepAnswer.{StepAnswer}
use Rattle.report_rules.specs.declared.report.StepAnswer.TheVariants.{Ok, Busy, Twice, Early}
use Rattle.weave_entries.specs.GateReplay.{begun_stamp, clock_of, flight_of}
use Rattle.weave_entries.specs.declared.session_log.SessionDeed.TheVariants.{Begun}
use Rattle.step_rules.specs.Entries.{begin_deed}
use Rattle.weaver_core.specs.declared.client.Standing.TheVariants as standing
use Rattle.weaver_core.specs.Sessions as clients
use Rattle.weaver_core.specs.GateTable as gates

-- the stamp that the session began last may be heard at the request's gatekeeper
abbrev pub MayBeHeard : gates.GateTable → clients.ClientTable → Request → Type 0
MayBeHeard old was request =
    ForSome (clients.session_at was request.session).last
    (λ last.
    IsTrue (counts_no_more request.gate (clock_of request.gate (gates.gate_log_at old request.gate)) last.clock))

-- the request's gatekeeper and session are there, it is one of its session's, and the stamp before it may be heard
pub record IsReadyToBegin (old : gates.GateTable) (was : clients.ClientTable) (r : ℕ) (request : Request) : Type 0 where
  pub gate : request.gate < length old.logs
  pub session : request.session < length was.logs
  pub among : Contains (clients.requests_at was request.session) r
  pub known : MayBeHeard old was request

-- whether it is a transaction and one is in flight at its gatekeeper
abbrev pub is_held_up : gates.GateTable → Request → Bool
is_held_up old request = is_change request.work && is_some (flight_of (gates.gate_log_at old request.gate))

-- the request is stamped, in the gatekeeper's log and in the session's
pub record IsBegun (old new : gates.GateTable) (was is : clients.ClientTable) (r : ℕ) (request : Request) : Type 0 where
  pub next : clients.standing_at was request.session r ≡ standing.Next
  pub stamp : Stamp
  pub stamp_is : stamp ≡ begun_stamp request.gate (clock_of request.gate (gates.gate_log_at old request.gate))
      (clients.session_at was request.session).last
  pub small : IsTrue (has_64_bits stamp.clock)
  pub gate : gates.AddsToGate old new request.gate 0 (begin_deed r stamp request.work)
  pub session : clients.AddsToSession was is request.session (Begun r stamp)
  pub values : is.values ≡ was.values
  pub free : is_held_up old request ≡ false

-- a transaction is in flight
pub record IsHeldUp (old new : gates.GateTable) (was is : clients.ClientTable) (r : ℕ)
    (request : Request) : Type 0 where
  pub next : clients.standing_at was request.session r ≡ standing.Next
  pub flies : is_held_up old request ≡ true
  pub gates_are : new ≡ old
  pub clients_are : clients.AreSameClients was is

-- what `begin` answers for a request, and what it leaves
abbrev pub BeginsOne : gates.GateTable → gates.GateTable → clients.ClientTable → clients.ClientTable → ℕ → Request
    → StepAnswer → Type 0
BeginsOne old new was is r request Ok = IsBegun old new was is r request
BeginsOne old new was is r request Busy = IsHeldUp old new was is r request
BeginsOne old new was is r request Twice =
    (clients.standing_at was request.session r ≡ standing.Twice) × (new ≡ old) × (is ≡ was)
BeginsOne old new was is r request Early =
    (clients.standing_at was request.session r ≡ standing.Early) × (new ≡ old) × (is ≡ was)
BeginsOne old new was is r request _ = ⊥

-- the same, of the script's request
pub record Begins (script : Script) (old new : gates.GateTable) (was is : clients.ClientTable) (r : ℕ)
    (answer : StepAnswer) : Type 0 where
  pub request : Request
  pub request_is : request_at script r ≡ Some request
  pub begins : BeginsOne old new was is r request answer
