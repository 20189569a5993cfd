use Rattle.std.proofs.Common.{length}
use Rattle.machine_tests.proofs.shard_row.+are_elsewhere.Given as goal

abbrev pub decreases-are_elsewhere : goal.decreases-are_elsewhere
decreases-are_elsewhere l = length l.parts.now
