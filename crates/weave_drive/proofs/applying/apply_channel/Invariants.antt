use Rattle.weave_drive.specs.Loops.{IsApplying}
use Rattle.weave_drive.specs.Progress.{left_of}
use Rattle.weave_drive.proofs.applying.apply_channel.Given as goal

abbrev pub invariant-loop-moved : goal.invariant-loop-moved
invariant-loop-moved l = IsApplying l.fn.core.script.gates l.fn.shard l.fn.core l.core l.moved

-- messages to the shard that are left
abbrev pub decreases-loop-moved : goal.decreases-loop-moved
decreases-loop-moved l = left_of l.fn.core.script.gates l.core.state.account l.fn.shard
