use Rattle.std.proofs.Common.{drop, Some}
use Rattle.graph_ops.specs.Graphs.{plain_of}
use Rattle.program_defs.specs.Prices.{priced_edges}
use Rattle.program_defs.proofs.RowSteps.{IsRowSoFar, passing_in}
use Rattle.program_defs.proofs.listed.row_of.Given as goal

abbrev pub invariant-loop-name : goal.invariant-loop-name
invariant-loop-name l = IsRowSoFar (plain_of l.graph) l.vertices (priced_edges l.fn.key (Some l.found)) (passing_in l.fn.key (drop l._name-index l.found.edges)) l.row
