use Rattle.std.proofs.Common.{◌≡◌, ◌++◌, map, take, drop}
use Rattle.order_graph.specs.Chains.{raised_chain}
use Rattle.order_graph.proofs.graph.raise_all.Given as goal

abbrev pub invariant-loop-chain : goal.invariant-loop-chain
invariant-loop-chain l = l.chains ≡ map (raised_chain l.earlier l.later l.frontier.latest) (take l.chain-index l.initial.chains) ++ drop l.chain-index l.initial.chains
