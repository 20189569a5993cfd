use Rattle.graph_ops.specs.Graphs.{plain_of}
use Rattle.program_defs.proofs.RowSteps.{AreRowsSoFar}
use Rattle.program_defs.proofs.listed.rows_between.Given as goal

abbrev pub invariant-loop-v : goal.invariant-loop-v
invariant-loop-v l = AreRowsSoFar (plain_of l.graph) l.fn.key l.vertices l.v-index l.rows.items
