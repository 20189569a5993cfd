use Rattle.std.proofs.Common.{length, List}
use Rattle.weave_data.specs.declared.name.Name.{Name}
use Rattle.version_chain.specs.Chains.{ChainView}
use Rattle.version_graph.specs.Tables.{WereApplied}
use Rattle.version_graph.proofs.table.take_all_back.Given as goal

abbrev pub invariant-loop-last : goal.invariant-loop-last
invariant-loop-last l = (before : List (Name × ChainView)) → WereApplied l.fn.stamp l.fn.parts before l.fn.table.entries → WereApplied l.fn.stamp l.rest before l.table.entries

abbrev pub decreases-loop-last : goal.decreases-loop-last
decreases-loop-last l = length l.rest
