use Rattle.weave_drive.specs.Loops.{IsCatchingUp}
use Rattle.weave_drive.specs.Progress.{left_of}
use Rattle.weave_drive.proofs.applying.apply_all.Given as goal

abbrev pub invariant-loop : goal.invariant-loop
invariant-loop l = IsCatchingUp l.fn.shard l.fn.core l.core

-- messages to the shard that are left
abbrev pub decreases-loop : goal.decreases-loop
decreases-loop l = left_of l.fn.core.script.gates l.core.state.account l.fn.shard
