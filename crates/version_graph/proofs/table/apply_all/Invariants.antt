use Rattle.std.proofs.Common.{take}
use Rattle.version_graph.specs.Tables.{WereApplied}
use Rattle.version_graph.proofs.table.apply_all.Given as goal

abbrev pub invariant-loop-done : goal.invariant-loop-done
invariant-loop-done l = WereApplied l.stamp (take l.done l.parts) l.fn.table.entries l.table.entries
