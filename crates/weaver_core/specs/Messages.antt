-- What the machines do at `nop`, `deliver` and `apply`. No public contract cites this.
use Rattle.std.specs.Prelude.{◌≡◌, ◌+◌, ℕ, false, true, is_some, List, IsSome, None, Some}
use Rattle.weave_data.specs.declared.name.Name.{Name}
use Rattle.shard_queue.specs.Outbox.{sent_as}
use Rattle.shard_queue.specs.declared.inbox.Arrival.{Arrival}
use Rattle.shard_queue.specs.declared.inbox.Arrival.TheVariants.{Kept, Repeat}
use Rattle.shard_node.specs.Shards.{CanApplyHead}
use Rattle.shard_node.specs.declared.fault.ApplyFault.{ApplyFault}
use Rattle.shard_node.specs.declared.fault.ApplyFault.TheVariants as fault
use Rattle.report_rules.specs.declared.report.StepAnswer.{StepAnswer}
use Rattle.report_rules.specs.declared.report.StepAnswer.TheVariants as answer
use Rattle.weave_entries.specs.declared.gate_log.GateEntry.{GateEntry}
use Rattle.weave_entries.specs.declared.gate_log.GateDeed.{GateDeed}
use Rattle.weave_entries.specs.declared.gate_log.GateDeed.TheVariants.{Nop}
use Rattle.weave_entries.specs.declared.message.Message.{Message}
use Rattle.weave_entries.specs.declared.shard_log.ShardEntry.{ShardEntry}
use Rattle.weave_entries.specs.declared.shard_log.ShardDeed.TheVariants.{Arrived, Applied}
use Rattle.weave_entries.specs.GateReplay.{channel_of, clock_of, flight_of, low_mark, next_number, next_stamp, running_of}
use Rattle.weave_entries.specs.ShardReplay.{arrived_at, head_of, processed_count, waits_at}
use Rattle.weaver_core.specs.GateTable as gates
use Rattle.weaver_core.specs.ShardTable as shards

-- Empty messages

-- a gatekeeper's next empty message to a shard: the next number, the next stamp, and its low mark
abbrev pub nop_deed : ℕ → ℕ → List GateEntry → GateDeed
nop_deed home shard log =
    Nop shard (next_number shard log) (next_stamp home (clock_of home log))
    (low_mark (next_stamp home (clock_of home log)) (running_of log))

-- what `nop` answers, and what it leaves
abbrev pub DoesNop : gates.GateTable → gates.GateTable → ℕ → ℕ → StepAnswer → Type 0
DoesNop old new home shard answer.Ok =
    gates.AddsToGate old new home 0 (nop_deed home shard (gates.gate_log_at old home))
    × (is_some (flight_of (gates.gate_log_at old home)) ≡ false)
DoesNop old new home shard answer.Busy = (new ≡ old) × (is_some (flight_of (gates.gate_log_at old home)) ≡ true)
DoesNop old new home shard _ = ⊥

-- Arrivals

-- what became of a message that arrived at a shard
abbrev pub ArrivesAtShard : shards.ShardTable → shards.ShardTable → ℕ → ℕ → ℕ → Message → Arrival → Type 0
ArrivesAtShard old new shard home number message Kept =
    (arrived_at home number (shards.shard_log_at old shard) ≡ None)
    × shards.AddsToShard old new shard (Arrived home number message)
ArrivesAtShard old new shard home number message Repeat =
    IsSome (arrived_at home number (shards.shard_log_at old shard)) × (new ≡ old)

-- a message that was sent with this number became this
pub record IsDelivered (table : gates.GateTable) (old new : shards.ShardTable) (home shard number : ℕ)
    (arrival : Arrival) : Type 0 where
  pub message : Message
  pub is_sent : sent_as number (channel_of shard (gates.gate_log_at table home)) ≡ Some message
  pub arrives : ArrivesAtShard old new shard home number message arrival

-- what `deliver` answers, and what it leaves
abbrev pub DeliversToShard : gates.GateTable → shards.ShardTable → shards.ShardTable → ℕ → ℕ → ℕ → StepAnswer → Type 0
DeliversToShard table old new home shard number answer.Ok = IsDelivered table old new home shard number Kept
DeliversToShard table old new home shard number answer.Repeat = IsDelivered table old new home shard number Repeat
DeliversToShard table old new home shard number answer.Unknown =
    (new ≡ old) × (sent_as number (channel_of shard (gates.gate_log_at table home)) ≡ None)
DeliversToShard table old new home shard number _ = ⊥

-- Heads

-- the head of a channel is applied, and each of its counts was the number of updates applied there
pub record AppliesHead (old new : shards.ShardTable) (shard home : ℕ) : Type 0 where
  pub next : CanApplyHead home (shards.shard_log_at old shard)
  pub adds : shards.AddsToShard old new shard (Applied home (processed_count home (shards.shard_log_at old shard) + 1))

-- a head waits for a vertex
pub record HeadWaits (log : List ShardEntry) (home : ℕ) (vertex : Name) : Type 0 where
  pub head : Message
  pub is : head_of home log ≡ Some head
  pub waits : waits_at head log ≡ Some vertex

-- what `apply` answers if a shard refuses so; nothing if it was out of memory
abbrev pub IsAnswerToFault : ApplyFault → StepAnswer → Type 0
IsAnswerToFault fault.Empty given = given ≡ answer.Empty
IsAnswerToFault (fault.Waits vertex) given = given ≡ answer.Waits vertex
IsAnswerToFault fault.Memory given = ⊥

-- what `apply` answers, and what it leaves
abbrev pub AppliesAtShard : shards.ShardTable → shards.ShardTable → ℕ → ℕ → StepAnswer → Type 0
AppliesAtShard old new shard home answer.Ok = AppliesHead old new shard home
AppliesAtShard old new shard home answer.Empty = (new ≡ old) × (head_of home (shards.shard_log_at old shard) ≡ None)
AppliesAtShard old new shard home (answer.Waits vertex) =
    (new ≡ old) × HeadWaits (shards.shard_log_at old shard) home vertex
AppliesAtShard old new shard home _ = ⊥
