use Rattle.std.proofs.Common.{◌≡◌, drop}
use Rattle.weave_entries.specs.ShardReplay.{state_of_updates, updates_of}
use Rattle.machine_tests.specs.LogReading.{state_from, updates_by}
use Rattle.machine_tests.proofs.shard_log.state_of.Given as goal

abbrev pub invariant-loop-entry : goal.invariant-loop-entry
invariant-loop-entry g l = state_from l.state (updates_by l.vertex l.log (drop l.entry-index l.log)) ≡ state_of_updates (updates_of l.vertex l.log)
