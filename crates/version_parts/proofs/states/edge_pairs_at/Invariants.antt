use Rattle.std.proofs.Common.{◌≡◌, ◌++◌, drop}
use Rattle.version_parts.specs.KeptValues.{kept_values}
use Rattle.version_parts.specs.States.{edge_at}
use Rattle.version_parts.proofs.states.edge_pairs_at.Given as goal

abbrev pub invariant-loop-name : goal.invariant-loop-name
invariant-loop-name l = l.found.items ++ kept_values (edge_at l.update l.since) (drop l.name-index l.pairs) ≡ kept_values (edge_at l.update l.since) l.pairs
