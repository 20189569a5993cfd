use Rattle.version_parts.specs.Updates.{IsUnderWay}
use Rattle.version_parts.proofs.ops.add_ops.Given as goal

abbrev pub invariant-loop-place : goal.invariant-loop-place
invariant-loop-place l = IsUnderWay l.update l.place l.ops l.fn.lists l.lists
