use Rattle.std.proofs.Common.{◌≡◌, drop}
use Rattle.backing_store.specs.Keeping.{first_newer}
use Rattle.backing_store.proofs.lasts.first_newer.Given as goal

abbrev pub invariant-loop-name : goal.invariant-loop-name
invariant-loop-name l = first_newer l.lasts.entries l.stamp (drop l.name-index l.names) ≡ first_newer l.lasts.entries l.stamp l.names
