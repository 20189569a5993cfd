use Rattle.std.proofs.Common.{◌≡◌, drop}
use Rattle.std.specs.Prelude.{fold}
use Rattle.weave_entries.specs.ShardReplay.{meet_if, meet_of_all}
use Rattle.shard_node.proofs.low_marks.meet_of_all.Given as goal

abbrev pub invariant-loop-low : goal.invariant-loop-low
invariant-loop-low l = fold meet_if l.meet (drop l.low-index l.others) ≡ meet_of_all l.lows
