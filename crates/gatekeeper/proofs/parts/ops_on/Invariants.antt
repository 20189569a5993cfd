use Rattle.std.proofs.Common.{◌≡◌, take}
use Rattle.weave_entries.specs.Sending.{ops_on}
use Rattle.gatekeeper.proofs.parts.ops_on.Given as goal

abbrev pub invariant-loop-op : goal.invariant-loop-op
invariant-loop-op l = l.chosen.items ≡ ops_on l.vertex (take l.op-index l.ops)
