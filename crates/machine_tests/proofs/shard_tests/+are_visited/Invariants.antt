use Rattle.std.proofs.Common.{length}
use Rattle.machine_tests.proofs.shard_tests.+are_visited.Given as goal

abbrev pub decreases-are_visited : goal.decreases-are_visited
decreases-are_visited l = length l.visits.now
