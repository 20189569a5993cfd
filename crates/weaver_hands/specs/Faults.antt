-- The refusals of hands' calls. No public contract cites this.
use Rattle.std.specs.Prelude.{ℕ}
use Rattle.gatekeeper.specs.declared.fault.GateFault.{GateFault}
use Rattle.gatekeeper.specs.declared.fault.GateFault.TheVariants.{Busy, Idle, Old, Memory}
use Rattle.shard_node.specs.declared.fault.ApplyFault.{ApplyFault}
use Rattle.shard_node.specs.declared.fault.ApplyFault.TheVariants as unapplied
use Rattle.shard_node.specs.declared.fault.VisitFault.{VisitFault}
use Rattle.shard_node.specs.declared.fault.VisitFault.TheVariants as unread
use Rattle.weaver_hands.specs.declared.fault.HandFault.{HandFault}
use Rattle.weaver_hands.specs.declared.fault.HandFault.TheVariants as hand

-- a gatekeeper's refusal of a begin or of an empty message, as the hand's
abbrev pub gate_fault : GateFault → HandFault
gate_fault Busy = hand.Busy
gate_fault Idle = hand.Memory
gate_fault Old = hand.Memory
gate_fault Memory = hand.Memory

-- a shard's refusal to process a head, as the hand's
abbrev pub apply_fault : ApplyFault → HandFault
apply_fault unapplied.Empty = hand.Empty
apply_fault (unapplied.Waits vertex) = hand.Waits vertex
apply_fault unapplied.Memory = hand.Memory

-- a shard's refusal to read a vertex, as the hand's
abbrev pub visit_fault : ℕ → VisitFault → HandFault
visit_fault shard (unread.Again gate) = hand.NotYet shard gate
visit_fault shard unread.Memory = hand.Memory
