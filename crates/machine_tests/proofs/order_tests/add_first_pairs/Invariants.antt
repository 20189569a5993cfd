use Rattle.std.specs.Prelude.{Contains}
use Rattle.vector_stamp.specs.declared.clock.Stamp.{Stamp}
use Rattle.order_graph.specs.Building.{ends_of}
use Rattle.machine_tests.proofs.order_tests.add_first_pairs.Given as goal

abbrev pub invariant-loop-place : goal.invariant-loop-place
invariant-loop-place g l = (stamp : Stamp) → Contains (ends_of l.graph.pairs) stamp → Contains l.events stamp
