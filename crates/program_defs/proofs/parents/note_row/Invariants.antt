use Rattle.program_defs.specs.Parents.{AreParents, IsSeenTo}
use Rattle.program_defs.proofs.parents.note_row.Given as goal

abbrev pub invariant-loop-target : goal.invariant-loop-target
invariant-loop-target l = AreParents l.rows l.labels (IsSeenTo l.u l.target-index) l.u l.parents
