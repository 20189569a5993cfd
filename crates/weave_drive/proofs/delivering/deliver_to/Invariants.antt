use Rattle.weave_drive.specs.Loops.{DeliversBelow}
use Rattle.weave_drive.proofs.delivering.deliver_to.Given as goal

abbrev pub invariant-loop-gate : goal.invariant-loop-gate
invariant-loop-gate l = DeliversBelow l.gate l.fn.shard l.fn.core l.core
