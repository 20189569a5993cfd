use Rattle.std.proofs.Common.{◌≡◌, drop}
use Rattle.weave_entries.specs.ShardReplay.{updates_in}
use Rattle.machine_tests.specs.LogReading.{state_from}
use Rattle.machine_tests.proofs.shard_log.after_message.Given as goal

abbrev pub invariant-loop-part : goal.invariant-loop-part
invariant-loop-part g l = state_from l.state (updates_in l.vertex (record l.message { parts = drop l.part-index l.part-items })) ≡ state_from l.fn.state (updates_in l.vertex l.message)
