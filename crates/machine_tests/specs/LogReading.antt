-- What a shard's log says, entry by entry, for tests: no public contract cites this.
use Rattle.std.specs.Prelude.{List, fold, Option, None}
use Rattle.std.specs.List.{filter_map, flat_map}
use Rattle.weave_data.specs.declared.name.Name.{Name}
use Rattle.graph_ops.specs.Operations.{State}
use Rattle.graph_ops.specs.VertexOps.{state_after_ops}
use Rattle.weave_entries.specs.declared.message.Message.{Message}
use Rattle.weave_entries.specs.declared.shard_log.ShardEntry.{ShardEntry}
use Rattle.weave_entries.specs.declared.shard_log.ShardDeed.{ShardDeed}
use Rattle.weave_entries.specs.declared.shard_log.ShardDeed.TheVariants.{Arrived, Applied, Visited, Collected}
use Rattle.weave_entries.specs.ShardReplay.{Update, arrived_at, processed_of, updates_in}

-- the message that a deed processed, of those that arrived by a log
abbrev pub message_applied : List ShardEntry → ShardDeed → Option Message
message_applied log (Applied gate number) = arrived_at gate number log
message_applied log (Arrived gate number message) = None
message_applied log (Visited request stamp vertex updates settled) = None
message_applied log (Collected bound) = None

-- the updates of a vertex that these entries applied, of messages that arrived by a log
abbrev pub updates_by : Name → List ShardEntry → List ShardEntry → List Update
updates_by v log entries = flat_map (updates_in v) (filter_map (λ of. arrived_at of.0 of.1 log) (processed_of entries))

-- a vertex's state after more updates
abbrev pub state_from : State → List Update → State
state_from state updates = fold (λ before (update : Update). state_after_ops update.ops before) state updates
