use Rattle.std.proofs.Common.{max}
use Rattle.vector_stamp.proofs.Eight.{picked_more, picked_all}
use Rattle.vector_stamp.proofs.clock.greater_of.Goals as goal

pub loop-gate-preserved : goal.loop-gate-preserved
loop-gate-preserved c = picked_more max _ _ _ _ _ c.loop-gate-test.true c.max.ensures c.loop-gate.invariant

pub returns : goal.returns
returns c = picked_all max _ _ _ _ c.told-counts c.told-others c.loop-gate-test.false c.loop-gate.invariant
