-- What the sessions hand in to a gatekeeper that returns, by their own logs. No public contract cites this.
use Rattle.std.specs.Prelude.{ℕ, Bool, true, false, not, ◌&&◌, ◌==◌, fold, List, slice_get, Option, None, Some, if◌then◌else◌}
use Rattle.std.specs.List.{filter_map}
use Rattle.std.specs.Option.{option_and_then}
use Rattle.vector_stamp.specs.declared.clock.Stamp.{Stamp}
use Rattle.program_defs.specs.Works.{is_change, is_look}
use Rattle.program_defs.specs.declared.script.Request.{Request}
use Rattle.report_rules.specs.Lookups.{is_some_and}
use Rattle.weave_entries.specs.declared.gate_log.GateEntry.{GateEntry}
use Rattle.weave_entries.specs.declared.gate_log.GateDeed.{GateDeed}
use Rattle.weave_entries.specs.declared.gate_log.GateDeed.TheVariants.{Sent, Finished}
use Rattle.weave_entries.specs.declared.session_log.SessionEntry.{SessionEntry}
use Rattle.gatekeeper.specs.declared.stopping.Open.{Open}
use Rattle.weaver_core.specs.Splitting.{waiting_in}

-- The end of a request in a gatekeeper's log

-- whether the deed sends or finishes this request
abbrev pub ends_request : ℕ → GateDeed → Bool
ends_request r (Sent q messages) = q == r
ends_request r (Finished q) = q == r
ends_request r _ = false

-- whether a deed of the log sends or finishes this request
abbrev pub was_ended : ℕ → List GateEntry → Bool
was_ended r log = fold (λ ended (entry : GateEntry). if ends_request r entry.deed then true else ended) false log

-- What one session hands in

-- whether the request is a program of this gatekeeper
abbrev pub is_look_at : ℕ → Request → Bool
is_look_at home request = (request.gate == home) && is_look request.work

-- whether the request is a transaction of this gatekeeper
abbrev pub is_change_at : ℕ → Request → Bool
is_change_at home request = (request.gate == home) && is_change request.work

-- what waits, if it is a program of this gatekeeper
abbrev pub program_handed_in : List Request → ℕ → ℕ × Stamp → Option Open
program_handed_in requests home waiting =
    if is_some_and (is_look_at home) (slice_get requests waiting.0)
    then Some (record { request = waiting.0; stamp = waiting.1 }) else None

-- the program of this gatekeeper for which a session waits
abbrev pub open_program : List Request → ℕ → List SessionEntry → Option Open
open_program requests home session = option_and_then (program_handed_in requests home) (waiting_in session)

-- the request, if it is a transaction of this gatekeeper that its log has not sent
abbrev pub unsent_of : List Request → ℕ → List GateEntry → ℕ → Option ℕ
unsent_of requests home log r =
    if is_some_and (is_change_at home) (slice_get requests r) && not (was_ended r log) then Some r else None

-- the transaction of this gatekeeper for which a session waits, and which was not sent
abbrev pub open_change : List Request → ℕ → List GateEntry → List SessionEntry → Option ℕ
open_change requests home log session =
    option_and_then (λ (waiting : ℕ × Stamp). unsent_of requests home log waiting.0) (waiting_in session)

-- What all sessions hand in

-- the programs of this gatekeeper for which sessions wait, in the order of the sessions
abbrev pub open_programs : List Request → ℕ → List (List SessionEntry) → List Open
open_programs requests home sessions = filter_map (open_program requests home) sessions

-- the transaction of this gatekeeper that its log has not sent, as the first session that waits for one has it
abbrev pub open_flight : List Request → ℕ → List GateEntry → List (List SessionEntry) → Option ℕ
open_flight requests home log sessions = slice_get (filter_map (open_change requests home log) sessions) 0
