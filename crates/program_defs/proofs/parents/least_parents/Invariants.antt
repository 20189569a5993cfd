use Rattle.std.proofs.Common.{◌≡◌, length}
use Rattle.program_defs.specs.Parents.{AreParents, IsSeenBefore}
use Rattle.program_defs.proofs.parents.least_parents.Given as goal

abbrev pub invariant-loop-u : goal.invariant-loop-u
invariant-loop-u l = AreParents l.rows l.labels (IsSeenBefore l.u) l.u l.parents.items × (length l.parents.items ≡ length l.rows)
