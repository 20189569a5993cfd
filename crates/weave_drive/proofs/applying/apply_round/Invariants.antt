use Rattle.weave_drive.specs.Loops.{AppliesBelow}
use Rattle.weave_drive.proofs.applying.apply_round.Given as goal

abbrev pub invariant-loop-gate : goal.invariant-loop-gate
invariant-loop-gate l = AppliesBelow l.fn.core.script.gates l.fn.shard l.gate l.fn.core l.core l.moved
