use Rattle.std.proofs.Common.{◌≡◌, ◌++◌, drop}
use Rattle.machine_tests.specs.ArrivedStamps.{arrived_stamps}
use Rattle.machine_tests.proofs.shard_log.stamps.Given as goal

abbrev pub invariant-loop-entry : goal.invariant-loop-entry
invariant-loop-entry g l = l.stamps.items ++ arrived_stamps (drop l.entry-index l.log) ≡ arrived_stamps l.log
