use Rattle.std.proofs.Common.{◌≡◌, take, drop}
use Rattle.gatekeeper.specs.Parts.{parts_by_shard, AreOfTheirOwn, HasOpsOf}
use Rattle.gatekeeper.proofs.parts.parts_of_all.Given as goal

abbrev pub invariant-loop-counted : goal.invariant-loop-counted
invariant-loop-counted l = record {
  shared : l.shares.items ≡ parts_by_shard l.shards l.ops (take l.counted-index l.counts);
  own : AreOfTheirOwn (drop l.counted-index l.counts);
  left : HasOpsOf l.table.entries l.ops (drop l.counted-index l.counts);
}
