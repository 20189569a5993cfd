-- What a shard keeps besides its log. No public contract cites this.
use Rattle.std.specs.Prelude.{◌≡◌, ℕ, ◌+◌, ◌-◌, ◌<◌, ◌≤◌, ◌==◌, ◌||◌, Bool, false, not, if◌then◌else◌, List, [], ◌∷◌, drop, length, slice_get, Option, None, Some, IsSome, ⊤}
use Rattle.std.specs.Option.{option_map, option_and_then}
use Rattle.std.specs.List.{find}
use Rattle.graph_ops.specs.declared.part.Part.{Part}
use Rattle.graph_ops.specs.Operations.{State}
use Rattle.graph_ops.specs.VertexOps.{state_after_ops}
use Rattle.vector_stamp.specs.declared.clock.Clock.{Clock}
use Rattle.vector_stamp.specs.declared.clock.Stamp.{Stamp}
use Rattle.vector_stamp.specs.Order.{stamp_before}
use Rattle.version_chain.specs.declared.version.Version.{Version}
use Rattle.version_chain.specs.Chains.{ChainView, update_count}
use Rattle.version_chain.specs.Collection.{collected_chain}
use Rattle.weave_data.specs.declared.name.Name.{Name}
use Rattle.weave_data.specs.Limits.{most_gates}
use Rattle.shard_queue.specs.Inbox.{Incoming, waiting_head, waiting_at}
use Rattle.version_graph.specs.Graphs.{Chains, chain_of, chain_or_new}
use Rattle.weave_entries.specs.declared.message.Message.{Message}
use Rattle.weave_entries.specs.declared.shard_log.ShardEntry.{ShardEntry}
use Rattle.weave_entries.specs.declared.shard_log.ShardDeed.{ShardDeed}
use Rattle.weave_entries.specs.declared.shard_log.ShardDeed.TheVariants.{Arrived, Applied, Visited, Collected}
use Rattle.weave_entries.specs.ShardReplay.{Update, arrived_at, processed_count, last_of, updates_of, ProcessedArrived}
use Rattle.weave_entries.specs.ShardRules.{dropped_of, IsTakable, IsShardLog}
use Rattle.shard_node.specs.declared.waiting.Waiting.{Waiting}

-- the versions that updates make, one after another
abbrev pub versions_from : State → List Update → List Version
versions_from state [] = []
versions_from state (update ∷ updates) =
    record { stamp = update.stamp; state = state_after_ops update.ops state }
    ∷ versions_from (state_after_ops update.ops state)
    updates

-- the chain of a vertex at the end of a log
abbrev pub chain_in : Name → List ShardEntry → ChainView
chain_in v log = record {
  dropped = dropped_of v log;
  kept = drop (dropped_of v log) (versions_from None (updates_of v log));
}

-- and if it has updates
abbrev pub chain_in_if : Name → List ShardEntry → Option ChainView
chain_in_if v log = if length (updates_of v log) == 0 then None else Some (chain_in v log)

-- a chain, if there is one, after a collection by a bound, if there is one
abbrev pub collected_if : Option Clock → Option ChainView → Option ChainView
collected_if None chain = chain
collected_if (Some bound) chain = option_map (collected_chain bound) chain

-- the low mark of the last message that was processed on a channel
abbrev pub low_of : List ShardEntry → ℕ → Option Clock
low_of log gate = option_map (λ (message : Message). message.low) (last_of gate log)

-- the first vertex of these parts whose count is not the number of updates that its chain has
abbrev pub first_differing : Chains → List Part → Option Name
first_differing chains parts =
    option_map (λ (part : Part). part.vertex) (find
    (λ (part : Part). not (part.before == update_count (chain_or_new (chain_of chains part.vertex)))) parts)

-- the message that a deed brought
abbrev pub message_by : ShardDeed → Option Message
message_by (Arrived gate number message) = Some message
message_by (Applied gate number) = None
message_by (Visited request stamp vertex updates settled) = None
message_by (Collected bound) = None

-- the message that the entry at a place of a log brought
abbrev pub message_in : List ShardEntry → ℕ → Option Message
message_in log place = option_and_then (λ (entry : ShardEntry). message_by entry.deed) (slice_get log place)

-- the head of an inbox, in the log
abbrev pub head_in : List ShardEntry → Incoming Waiting → Option Message
head_in log inbox = option_and_then (λ (waiting : Waiting). message_in log waiting.place) (waiting_head inbox)

-- what waits leads to this message: the log has it at that place, with that stamp
abbrev pub LeadsTo : List ShardEntry → Option Waiting → Option Message → Type 0
LeadsTo log None None = ⊤
LeadsTo log None (Some message) = ⊥
LeadsTo log (Some waiting) None = ⊥
LeadsTo log (Some waiting) (Some message) = (message_in log waiting.place ≡ Some message)
    × (waiting.stamp ≡ message.stamp)

-- there is a stamp, and it is after this one
abbrev pub is_after : Stamp → Option Stamp → Bool
is_after stamp None = false
is_after stamp (Some other) = stamp_before stamp other

-- the stamp of the last processed message of a channel, or of its head, is after this one
abbrev pub is_channel_ready : Stamp → Incoming Waiting → Bool
is_channel_ready stamp inbox =
    is_after stamp inbox.last || is_after stamp (option_map (λ (waiting : Waiting). waiting.stamp) (waiting_head inbox))

-- the place, counted on from this one, of the first channel that is not ready
abbrev pub first_not_ready : ℕ → Stamp → List (Incoming Waiting) → Option ℕ
first_not_ready place stamp [] = None
first_not_ready place stamp (inbox ∷ inboxes) =
    if is_channel_ready stamp inbox then first_not_ready (place + 1) stamp inboxes else Some place

-- an inbox is that of a gatekeeper's channel at the end of a log: what waits leads to the messages that arrived and are
-- not yet processed
pub record IsInboxOf (gate : ℕ) (log : List ShardEntry) (inbox : Incoming Waiting) : Type 0 where
  pub processed : inbox.processed ≡ processed_count gate log
  pub last : inbox.last ≡ option_map (λ (message : Message). message.stamp) (last_of gate log)
  pub waits : (number : ℕ) → processed_count gate log < number
      → LeadsTo log (waiting_at number inbox) (arrived_at gate number log)
  pub arrived : (number : ℕ) → 1 ≤ number → number ≤ processed_count gate log → IsSome (arrived_at gate number log)
  pub from_one : arrived_at gate 0 log ≡ None

-- all that it keeps is what the replay of the log gives; of a vertex with updates it keeps at least the newest version
pub record IsShardReplay (gates : ℕ) (inboxes : List (Incoming Waiting)) (chains : Chains) (log : List ShardEntry)
    : Type 0 where
  pub some_gate : 1 ≤ gates
  pub few_gates : gates ≤ most_gates
  pub count : length inboxes ≡ gates
  pub channels : (gate : ℕ) (inbox : Incoming Waiting) → slice_get inboxes gate ≡ Some inbox
      → IsInboxOf gate log inbox
  pub chains_are : (v : Name) → chain_of chains v ≡ chain_in_if v log
  pub takable : (gate number : ℕ) (message : Message) → arrived_at gate number log ≡ Some message → IsTakable message
  pub all_arrived : ProcessedArrived log
  pub some_kept : (v : Name) → dropped_of v log ≤ length (updates_of v log) - 1
  pub rules : IsShardLog gates log

-- the low marks that it keeps are those of the last processed messages, by gatekeeper
pub record AreLowMarks (gates : ℕ) (lows : List (Option Clock)) (log : List ShardEntry) : Type 0 where
  pub count : length lows ≡ gates
  pub each : (gate : ℕ) (low : Option Clock) → slice_get lows gate ≡ Some low → low ≡ low_of log gate
