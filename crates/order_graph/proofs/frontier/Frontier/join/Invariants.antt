use Rattle.order_graph.proofs.Joining.{IsJoinedBelow}
use Rattle.order_graph.proofs.frontier.Frontier.join.Given as goal

abbrev pub invariant-loop-gate : goal.invariant-loop-gate
invariant-loop-gate l = IsJoinedBelow l.gate l.initial.self.latest l.other.latest l.self.latest
