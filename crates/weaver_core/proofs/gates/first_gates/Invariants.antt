use Rattle.weaver_core.specs.GateTable.{AreFirstGates}
use Rattle.weaver_core.proofs.gates.first_gates.Given as goal

abbrev pub invariant-loop-home : goal.invariant-loop-home
invariant-loop-home l = AreFirstGates l.home l.gates l.shards l.made.items
