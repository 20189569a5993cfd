use Rattle.weaver_core.specs.ShardTable.{AreFirstShards}
use Rattle.weaver_core.proofs.shards.first_shards.Given as goal

abbrev pub invariant-loop-number : goal.invariant-loop-number
invariant-loop-number l = AreFirstShards l.number l.gates l.made.items
