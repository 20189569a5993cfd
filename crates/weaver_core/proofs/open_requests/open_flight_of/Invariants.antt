use Rattle.std.proofs.Common.{◌≡◌, drop, map}
use Rattle.weaver_core.specs.GateTable.{gate_log_at}
use Rattle.weaver_core.specs.Restarting.{open_flight}
use Rattle.weaver_core.specs.Sessions.{log_of_client}
use Rattle.weaver_core.proofs.open_requests.open_flight_of.Given as goal

-- the first one of the sessions that are left is that of all
abbrev pub invariant-loop-client : goal.invariant-loop-client
invariant-loop-client l =
    open_flight l.requests l.gate (gate_log_at l.gates l.gate) (map log_of_client (drop l.client-index l.clients))
    ≡ open_flight l.requests l.gate (gate_log_at l.gates l.gate) (map log_of_client l.clients)
