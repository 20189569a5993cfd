use Rattle.std.proofs.Common.{min}
use Rattle.vector_stamp.proofs.Eight.{picked_more, picked_all}
use Rattle.vector_stamp.proofs.clock.lesser_of.Goals as goal

pub loop-gate-preserved : goal.loop-gate-preserved
loop-gate-preserved c = picked_more min _ _ _ _ _ c.loop-gate-test.true c.min.ensures c.loop-gate.invariant

pub returns : goal.returns
returns c = picked_all min _ _ _ _ c.told-counts c.told-others c.loop-gate-test.false c.loop-gate.invariant
