use Rattle.std.proofs.Common.{◌≡◌, take}
use Rattle.program_defs.specs.Labels.{listed_names}
use Rattle.program_defs.proofs.listed.names_of.Given as goal

abbrev pub invariant-loop-bound : goal.invariant-loop-bound
invariant-loop-bound l = l.names.items ≡ listed_names (take l.bound-index l.bounds)
