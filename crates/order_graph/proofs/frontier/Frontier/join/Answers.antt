use Rattle.std.proofs.Common.{rules, arith}
use Rattle.order_graph.proofs.Joining.{joined_all}
use Rattle.order_graph.proofs.frontier.Frontier.join.Goals as goal

pub returns : goal.returns
returns c = joined_all _ _ _ c.loop-gate.gate (search rules) (search rules) (omega arith) c.loop-gate.invariant
