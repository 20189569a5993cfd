-- What the log of a shard says of its state: the messages that arrived, those that were processed, the updates of each
-- vertex, what programs read, and what collections dropped.
use Rattle.std.specs.Prelude.{ℕ, ◌+◌, ◌-◌, pred, max, Bool, false, ◌==◌, ◌&&◌, ◌||◌, not, List, [], ◌∷◌, ◌++◌, map, filter, fold, length, count_by, take, Contains, Option, None, Some, IsSome}
use Rattle.std.specs.List.{find, filter_map, flat_map, range_with_len}
use Rattle.std.specs.Option.{option_map}
use Rattle.weave_data.specs.declared.name.Name.{Name}
use Rattle.weave_data.specs.Names.{same_name}
use Rattle.graph_ops.specs.declared.op.Op.{Op}
use Rattle.graph_ops.specs.declared.part.Part.{Part}
use Rattle.graph_ops.specs.Operations.{State}
use Rattle.graph_ops.specs.VertexOps.{state_after_ops}
use Rattle.vector_stamp.specs.declared.clock.Clock.{Clock}
use Rattle.vector_stamp.specs.declared.clock.Stamp.{Stamp}
use Rattle.vector_stamp.specs.Clocks.{meet_of}
use Rattle.vector_stamp.specs.Order.{is_before, stamp_before}
use Rattle.vector_stamp.specs.Seeing.{last_place}
use Rattle.weave_entries.specs.declared.message.Message.{Message}
use Rattle.weave_entries.specs.declared.shard_log.ShardEntry.{ShardEntry}
use Rattle.weave_entries.specs.declared.shard_log.ShardDeed.{ShardDeed}
use Rattle.weave_entries.specs.declared.shard_log.ShardDeed.TheVariants.{Arrived, Applied, Visited, Collected}

-- The channels

-- a message that arrived, with its gatekeeper and its number on the channel
pub record Arrival : Type 0 where
  pub gate : ℕ
  pub number : ℕ
  pub message : Message

-- what a deed brought
abbrev pub arrival_by : ShardDeed → List Arrival
arrival_by (Arrived gate number message) = record { gate = gate; number = number; message = message } ∷ []
arrival_by _ = []

-- all that arrived, in order
abbrev pub arrivals_of : List ShardEntry → List Arrival
arrivals_of log = flat_map (λ (entry : ShardEntry). arrival_by entry.deed) log

-- the message of this number from a gatekeeper, if it has arrived
abbrev pub arrived_at : ℕ → ℕ → List ShardEntry → Option Message
arrived_at gate number log =
    option_map (λ (arrival : Arrival). arrival.message)
    (find (λ (arrival : Arrival). (arrival.gate == gate) && (arrival.number == number)) (arrivals_of log))

-- a message that was processed, by gatekeeper and number
abbrev pub processed_by : ShardDeed → List (ℕ × ℕ)
processed_by (Applied gate number) = (gate, number) ∷ []
processed_by _ = []

-- the processed ones, in order
abbrev pub processed_of : List ShardEntry → List (ℕ × ℕ)
processed_of log = flat_map (λ (entry : ShardEntry). processed_by entry.deed) log

-- each message that was processed had arrived. Only proofs use this
abbrev pub ProcessedArrived : List ShardEntry → Type 0
ProcessedArrived log = (of : ℕ × ℕ) → Contains (processed_of log) of → IsSome (arrived_at of.0 of.1 log)

-- the processed number of a channel: how many of its messages were processed
abbrev pub processed_count : ℕ → List ShardEntry → ℕ
processed_count gate log = count_by (λ (of : ℕ × ℕ). of.0 == gate) (processed_of log)

-- the head of a channel: its next message, if it has arrived
abbrev pub head_of : ℕ → List ShardEntry → Option Message
head_of gate log = arrived_at gate (processed_count gate log + 1) log

-- the last processed message of a channel, if there is one
abbrev pub last_of : ℕ → List ShardEntry → Option Message
last_of gate log = arrived_at gate (processed_count gate log) log

-- The updates

-- an update of a vertex: a part of a processed message, with the stamp of its transaction
pub record Update : Type 0 where
  pub stamp : Stamp
  pub ops : List Op

-- the messages that were processed, in order
abbrev pub applied_messages : List ShardEntry → List Message
applied_messages log = filter_map (λ (of : ℕ × ℕ). arrived_at of.0 of.1 log) (processed_of log)

-- the updates of a vertex that a message has
abbrev pub updates_in : Name → Message → List Update
updates_in v message =
    map (λ (part : Part). record { stamp = message.stamp; ops = part.ops })
    (filter (λ (part : Part). same_name part.vertex v) message.parts)

-- the updates applied to a vertex, in order
abbrev pub updates_of : Name → List ShardEntry → List Update
updates_of v log = flat_map (updates_in v) (applied_messages log)

-- the first vertex of a message, in order of naming, whose count is not the number of updates applied to it
abbrev pub waits_at : Message → List ShardEntry → Option Name
waits_at message log =
    option_map (λ (part : Part). part.vertex) (find
    (λ (part : Part). not (part.before == length (updates_of part.vertex log))) message.parts)

-- a vertex's state after these updates, from absence
abbrev pub state_of_updates : List Update → State
state_of_updates updates = fold (λ state (update : Update). state_after_ops update.ops state) None updates

-- The visits

-- what a program read: a vertex, after how many of its updates, and whether the oracle put the last of these before the
-- program
pub record Visit : Type 0 where
  pub author : ℕ
  pub request : ℕ
  pub stamp : Stamp
  pub vertex : Name
  pub updates : ℕ
  pub settled : Bool

-- the visit of a deed, if it is one
abbrev pub visit_by : ℕ → ShardDeed → List Visit
visit_by author (Visited request stamp vertex updates settled) =
    record {
      author = author;
      request = request;
      stamp = stamp;
      vertex = vertex;
      updates = updates;
      settled =
          settled;
    } ∷ []
visit_by author _ = []

-- the visits of a log, in order
abbrev pub visits_of : List ShardEntry → List Visit
visits_of log = flat_map (λ (entry : ShardEntry). visit_by entry.author entry.deed) log

-- what a request read in this shard: each vertex with the state after that many of its updates
abbrev pub reads_in : ℕ → List ShardEntry → List (Name × State)
reads_in request log =
    map (λ (visit : Visit). (visit.vertex, state_of_updates (take visit.updates (updates_of visit.vertex log))))
    (filter (λ (visit : Visit). visit.request == request) (visits_of log))

-- there is a message, and its stamp is after this one
abbrev pub is_past : Stamp → Option Message → Bool
is_past stamp None = false
is_past stamp (Some message) = stamp_before stamp message.stamp

-- a shard is ready for a stamp on a channel if the channel's last processed message, or its head, is after it
abbrev pub is_ready_for : Stamp → List ShardEntry → ℕ → Bool
is_ready_for stamp log gate = is_past stamp (last_of gate log) || is_past stamp (head_of gate log)

-- the least gatekeeper for which it is not ready
abbrev pub first_unready : ℕ → Stamp → List ShardEntry → Option ℕ
first_unready gates stamp log = find (λ gate. not (is_ready_for stamp log gate)) (range_with_len 0 gates)

-- Collection

-- the meet of two clocks, if both are there
abbrev pub meet_if : Option Clock → Option Clock → Option Clock
meet_if (Some a) (Some b) = Some (meet_of a b)
meet_if _ _ = None

-- the meet of these clocks, if all are there and there is at least one
abbrev pub meet_of_all : List (Option Clock) → Option Clock
meet_of_all [] = None
meet_of_all (low ∷ lows) = fold meet_if low lows

-- the bound of a shard: the meet of the low marks of the last processed messages of all gatekeepers; None if one of
-- them has none
abbrev pub bound_of : ℕ → List ShardEntry → Option Clock
bound_of gates log =
    meet_of_all (map (λ gate. option_map (λ (message : Message). message.low) (last_of gate log))
    (range_with_len 0 gates))

-- how many of these updates are older than the newest one whose clock is before the bound
abbrev pub older_than : Clock → List Update → ℕ
older_than bound updates = pred (last_place (λ (update : Update). is_before update.stamp.clock bound) updates)

-- how many of a vertex's versions are gone after a deed: a collection drops those older ones; without a bound, nothing
abbrev pub dropped_after : Name → List ShardEntry → ShardDeed → ℕ → ℕ
dropped_after v before (Collected (Some bound)) dropped = max dropped (older_than bound (updates_of v before))
dropped_after v before deed dropped = dropped

-- how many are gone after more entries
abbrev pub dropped_from : Name → List ShardEntry → List ShardEntry → ℕ → ℕ
dropped_from v before [] dropped = dropped
dropped_from v before (entry ∷ log) dropped = dropped_from v (before
    ++ entry ∷ []) log (dropped_after v before entry.deed dropped)

-- how many versions of a vertex the shard keeps at the end of its log
abbrev pub kept_of : Name → List ShardEntry → ℕ
kept_of v log = length (updates_of v log) - dropped_from v [] log 0
