use Rattle.graph_ops.proofs.States.{unchanged}
use Rattle.graph_ops.proofs.graph.GraphCopied.copy.Goals as goal

pub returns : goal.returns
returns c = unchanged _ _ _ c.self.view_is c.in_ok-copy_slots.ensures
