-- The stamps of what arrived, for tests: no public contract cites this.
use Rattle.std.specs.Prelude.{List, [], ◌∷◌}
use Rattle.std.specs.List.{flat_map}
use Rattle.graph_ops.specs.declared.part.Part.{Part}
use Rattle.vector_stamp.specs.declared.clock.Stamp.{Stamp}
use Rattle.weave_entries.specs.declared.shard_log.ShardEntry.{ShardEntry}
use Rattle.weave_entries.specs.declared.shard_log.ShardDeed.{ShardDeed}
use Rattle.weave_entries.specs.declared.shard_log.ShardDeed.TheVariants.{Arrived, Applied, Visited, Collected}

-- the stamp of a message that has parts
abbrev pub stamp_if : Stamp → List Part → List Stamp
stamp_if stamp [] = []
stamp_if stamp (part ∷ parts) = stamp ∷ []

-- the stamp that a deed brought
abbrev pub stamps_brought_by : ShardDeed → List Stamp
stamps_brought_by (Arrived gate number message) = stamp_if message.stamp message.parts
stamps_brought_by (Applied gate number) = []
stamps_brought_by (Visited request stamp vertex updates settled) = []
stamps_brought_by (Collected bound) = []

-- the stamps of all messages with parts that arrived, in order
abbrev pub arrived_stamps : List ShardEntry → List Stamp
arrived_stamps log = flat_map (λ (entry : ShardEntry). stamps_brought_by entry.deed) log
