use Rattle.std.proofs.Common.{[], drop, map}
use Rattle.weaver_core.specs.Marks.{all_visits}
use Rattle.weaver_core.specs.ShardTable.{log_of_shard}
use Rattle.weaver_core.proofs.VisitTables.{AreLeft}
use Rattle.weaver_core.proofs.marks.visits_in.Given as goal

-- the visits of the shards that are left are still to be added
abbrev pub invariant-loop-shard : goal.invariant-loop-shard
invariant-loop-shard l = AreLeft [] l.visits.entries (all_visits (map log_of_shard l.shards)) (all_visits (map log_of_shard (drop l.shard-index l.shards)))
