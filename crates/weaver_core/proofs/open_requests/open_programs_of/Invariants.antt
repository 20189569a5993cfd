use Rattle.std.proofs.Common.{◌≡◌, ◌++◌, drop, map}
use Rattle.weaver_core.specs.Restarting.{open_programs}
use Rattle.weaver_core.specs.Sessions.{log_of_client}
use Rattle.weaver_core.proofs.open_requests.open_programs_of.Given as goal

-- the programs so far, and then those of the sessions that are left
abbrev pub invariant-loop-client : goal.invariant-loop-client
invariant-loop-client l =
    l.found.items ++ open_programs l.requests l.gate (map log_of_client (drop l.client-index l.clients))
    ≡ open_programs l.requests l.gate (map log_of_client l.clients)
