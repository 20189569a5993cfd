use Rattle.std.specs.Prelude.{Contains}
use Rattle.vector_stamp.specs.declared.clock.Stamp.{Stamp}
use Rattle.order_graph.specs.Building.{ends_of}
use Rattle.timeline_oracle.specs.Log.{pairs_of_log}
use Rattle.machine_tests.proofs.oracle_tests.settle_chain.Given as goal

abbrev pub invariant-loop-place : goal.invariant-loop-place
invariant-loop-place g l = (stamp : Stamp) → Contains (ends_of (pairs_of_log l.oracle)) stamp → Contains l.events stamp
