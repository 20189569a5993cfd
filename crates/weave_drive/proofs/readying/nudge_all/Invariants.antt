use Rattle.weave_drive.specs.Loops.{NudgesBelow}
use Rattle.weave_drive.proofs.readying.nudge_all.Given as goal

abbrev pub invariant-loop-gate : goal.invariant-loop-gate
invariant-loop-gate l = NudgesBelow l.gate l.fn.home l.fn.shard l.fn.core l.core
