use Rattle.std.proofs.Common.{◌≡◌, ◌++◌, drop}
use Rattle.program_defs.specs.Labels.{bounds_of}
use Rattle.program_defs.proofs.priced.listed_bounds.Given as goal

abbrev pub invariant-loop-place : goal.invariant-loop-place
invariant-loop-place l = l.bounds ++ bounds_of (drop l.place l.vertices) (drop l.place l.labels) ≡ bounds_of l.vertices l.labels
