use Rattle.std.proofs.Common.{length}
use Rattle.machine_tests.proofs.shard_row.+are_takable.Given as goal

abbrev pub decreases-are_takable : goal.decreases-are_takable
decreases-are_takable l = length l.parts.now
