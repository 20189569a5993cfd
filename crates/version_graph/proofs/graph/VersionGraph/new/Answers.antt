use Rattle.version_graph.proofs.Chains.{seen_none}
use Rattle.version_graph.proofs.graph.VersionGraph.new.Goals as goal

pub returns : goal.returns
returns c = seen_none _ c.new.ensures.empty
