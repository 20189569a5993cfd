use Rattle.std.proofs.Common.{◌≡◌, take}
use Rattle.program_defs.specs.Labels.{listed_prices}
use Rattle.program_defs.proofs.listed.labels_of.Given as goal

abbrev pub invariant-loop-bound : goal.invariant-loop-bound
invariant-loop-bound l = l.labels.items ≡ listed_prices (take l.bound-index l.bounds)
