use Rattle.std.proofs.Common.{length}
use Rattle.machine_tests.proofs.shard_log.+arrived.Given as goal

abbrev pub decreases-arrived : goal.decreases-arrived
decreases-arrived l = length l.log.now
