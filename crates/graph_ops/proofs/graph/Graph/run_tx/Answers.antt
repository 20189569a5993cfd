use Rattle.std.proofs.Common.{refl}
use Rattle.graph_ops.proofs.States.{seen, unchanged}
use Rattle.graph_ops.proofs.graph.Graph.run_tx.Goals as goal

pub returns-in-Ok-clause-done : goal.returns-in-Ok-clause-done
returns-in-Ok-clause-done c = rw (seen _ _ c.self.view_is, seen c.run_or_rewind.new.slots.entries _ refl) c.in-Ok.ensures.done

pub returns-clause-refused : goal.returns-clause-refused
returns-clause-refused c = rw (seen _ _ c.self.view_is) c.in-Err.ensures.refused

pub returns-clause-unchanged : goal.returns-clause-unchanged
returns-clause-unchanged c = unchanged _ _ _ c.self.view_is c.in-Err.ensures.unchanged
