use Rattle.std.proofs.Common.{◌≡◌, ◌<◌, ℕ, Some, IsSome}
use Rattle.program_defs.specs.Labels.{label_in}
use Rattle.program_defs.proofs.certificate.are_met.Given as goal

abbrev pub invariant-loop-v : goal.invariant-loop-v
invariant-loop-v l = (v d : ℕ) → v < l.v → label_in l.labels v ≡ Some d → (v ≡ l.fn.start → ⊥) → IsSome (label_in l.parents v)
