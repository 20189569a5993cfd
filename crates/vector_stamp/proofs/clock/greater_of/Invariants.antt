use Rattle.std.proofs.Common.{max}
use Rattle.vector_stamp.proofs.Eight.{IsPickedBelow}
use Rattle.vector_stamp.proofs.clock.greater_of.Given as goal

abbrev pub invariant-loop-gate : goal.invariant-loop-gate
invariant-loop-gate l = IsPickedBelow max l.gate l.counts l.others l.greater
