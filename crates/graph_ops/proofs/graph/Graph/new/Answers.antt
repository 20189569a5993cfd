use Rattle.graph_ops.proofs.States.{seen_empty}
use Rattle.graph_ops.proofs.graph.Graph.new.Goals as goal

pub returns : goal.returns
returns c = seen_empty _ c.new.ensures.empty
