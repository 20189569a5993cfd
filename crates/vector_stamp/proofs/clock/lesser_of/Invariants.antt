use Rattle.std.proofs.Common.{min}
use Rattle.vector_stamp.proofs.Eight.{IsPickedBelow}
use Rattle.vector_stamp.proofs.clock.lesser_of.Given as goal

abbrev pub invariant-loop-gate : goal.invariant-loop-gate
invariant-loop-gate l = IsPickedBelow min l.gate l.counts l.others l.lesser
