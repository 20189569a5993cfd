use Rattle.std.proofs.Common.{length}
use Rattle.machine_tests.proofs.shard_row.+expect_passing.Given as goal

abbrev pub decreases-expect_passing : goal.decreases-expect_passing
decreases-expect_passing g l = length l.parts.now
