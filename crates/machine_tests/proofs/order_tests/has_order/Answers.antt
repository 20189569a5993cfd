use Rattle.order_graph.proofs.Stamps.{two_and_ends}
use Rattle.machine_tests.proofs.order_tests.has_order.Goals as goal

pub precedes-requires : goal.precedes-requires
precedes-requires g c = two_and_ends c.parts_and_unions_are_coherent.ensures.part c.args.a.now c.args.b.now c.args.graph.now.pairs c.args.events.now c.requires.coherent c.requires.a c.requires.b c.requires.known
