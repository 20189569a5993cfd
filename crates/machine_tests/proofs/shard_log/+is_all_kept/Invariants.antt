use Rattle.std.proofs.Common.{length}
use Rattle.machine_tests.proofs.shard_log.+is_all_kept.Given as goal

abbrev pub decreases-is_all_kept : goal.decreases-is_all_kept
decreases-is_all_kept l = length l.log.now
