use Rattle.std.proofs.Common.{take}
use Rattle.run_judge.specs.Begins.{AreBegins}
use Rattle.run_judge.proofs.phase_numbers.begins_of.Given as goal

abbrev pub invariant-loop-phase : goal.invariant-loop-phase
invariant-loop-phase l = AreBegins (take l.phase l.starts) l.count l.begins.items
