use Rattle.std.proofs.Common.{◌≡◌, drop}
use Rattle.shard_node.specs.Keeping.{first_not_ready}
use Rattle.shard_node.proofs.channels.first_unready.Given as goal

abbrev pub invariant-loop-gate : goal.invariant-loop-gate
invariant-loop-gate l = first_not_ready l.gate l.stamp (drop l.gate l.channels) ≡ first_not_ready 0 l.stamp l.channels
