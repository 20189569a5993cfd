use Rattle.std.proofs.Common.{length}
use Rattle.machine_tests.proofs.shard_row.+are_before.Given as goal

abbrev pub decreases-are_before : goal.decreases-are_before
decreases-are_before l = length l.stamps.now
