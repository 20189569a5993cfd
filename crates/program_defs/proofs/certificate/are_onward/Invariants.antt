use Rattle.std.proofs.Common.{◌≡◌, ◌<◌, ◌+◌, ℕ, Some, slice_get}
use Rattle.program_defs.specs.Labels.{label_in, row_in, IsLabelledWithin}
use Rattle.program_defs.proofs.certificate.are_onward.Given as goal

abbrev pub invariant-loop-u : goal.invariant-loop-u
invariant-loop-u l = (u d k w p : ℕ) → u < l.u → label_in l.labels u ≡ Some d → slice_get (row_in l.rows u) k ≡ Some (w, p) → IsLabelledWithin (label_in l.labels) w (d + p)
