use Rattle.std.proofs.Common.{◌≡◌, ◌++◌, drop}
use Rattle.version_parts.specs.KeptValues.{kept_values}
use Rattle.version_parts.specs.States.{value_at}
use Rattle.version_parts.proofs.maps.pairs_at.Given as goal

abbrev pub invariant-loop-key : goal.invariant-loop-key
invariant-loop-key l = l.values.items ++ kept_values (value_at l.update l.since) (drop l.key-index l.pairs) ≡ kept_values (value_at l.update l.since) l.pairs
