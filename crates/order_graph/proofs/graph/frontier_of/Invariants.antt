use Rattle.std.proofs.Common.{◌∷◌, List, take}
use Rattle.vector_stamp.specs.Coherence.{AreCoherent}
use Rattle.vector_stamp.specs.Precedence.{GivenPair}
use Rattle.order_graph.specs.Building.{ends_of}
use Rattle.order_graph.specs.Chains.{AreChains}
use Rattle.order_graph.proofs.Frontiers.{IsFrontierOver}
use Rattle.order_graph.proofs.graph.frontier_of.Given as goal

abbrev pub invariant-loop-chain : goal.invariant-loop-chain
invariant-loop-chain l = (pairs : List GivenPair) → AreChains pairs (ends_of pairs) l.chains → AreCoherent (l.event ∷ ends_of pairs) → IsFrontierOver pairs l.event (take l.chain-index l.chains) l.frontier.latest
