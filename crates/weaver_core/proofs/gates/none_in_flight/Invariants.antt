use Rattle.std.proofs.Common.{◌≡◌, drop}
use Rattle.std.specs.List.{list_all}
use Rattle.weaver_core.specs.GateTable.{has_landed}
use Rattle.weaver_core.proofs.gates.none_in_flight.Given as goal

-- the test of those that are left is that of all
abbrev pub invariant-loop-gate : goal.invariant-loop-gate
invariant-loop-gate l = list_all has_landed (drop l.gate-index l.gates) ≡ list_all has_landed l.gates
