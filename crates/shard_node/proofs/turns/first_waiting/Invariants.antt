use Rattle.std.proofs.Common.{◌≡◌, drop}
use Rattle.shard_node.specs.Keeping.{first_differing}
use Rattle.shard_node.proofs.turns.first_waiting.Given as goal

abbrev pub invariant-loop-part : goal.invariant-loop-part
invariant-loop-part l = first_differing l.graph (drop l.part-index l.parts) ≡ first_differing l.graph l.parts
