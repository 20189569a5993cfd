use Rattle.std.proofs.Common.{◌+◌, ◌-◌, length}
use Rattle.weave_entries.specs.GateReplay.{channel_of}
use Rattle.weave_account.specs.Account.{gate_log}
use Rattle.weave_drive.specs.Loops.{IsDelivering}
use Rattle.weave_drive.proofs.delivering.deliver_all.Given as goal

abbrev pub invariant-loop-number : goal.invariant-loop-number
invariant-loop-number l = IsDelivering l.fn.gate l.fn.shard l.number l.fn.core l.core

-- messages of the channel from this number on
abbrev pub decreases-loop-number : goal.decreases-loop-number
decreases-loop-number l = length (channel_of l.fn.shard (gate_log l.core.state.account l.fn.gate)) + 1 - l.number
