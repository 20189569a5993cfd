use Rattle.weave_drive.specs.Loops.{EndsBelow}
use Rattle.weave_drive.proofs.flights.end_flights.Given as goal

abbrev pub invariant-loop-gate : goal.invariant-loop-gate
invariant-loop-gate l = EndsBelow l.gate l.fn.core l.core
