-- The chains of the graph: of each gatekeeper the later events of pairs. No public contract cites it.
use Rattle.std.specs.Prelude.{◌≡◌, ℕ, ◌<◌, ◌≤◌, Bool, ◌||◌, ◌&&◌, not, List, [], map, length, slice_index_or, Option, Some, None, IsTrue, Contains, ◌⊎◌, if◌then◌else◌}
use Rattle.weave_data.specs.Limits.{most_gates}
use Rattle.vector_stamp.specs.declared.clock.Stamp.{Stamp}
use Rattle.vector_stamp.specs.Order.{stamp_before}
use Rattle.vector_stamp.specs.Precedence.{GivenPair}
use Rattle.order_graph.specs.declared.chain.Event.{Event}
use Rattle.order_graph.specs.Frontiers.{at_or_before, is_up_to_frontier, joined_frontiers, IsFrontier}

-- the events of one gatekeeper, and for how many more there is memory
pub record EventChainView : Type 0 where
  pub events : List Event
  pub room : ℕ

-- a chain without events
abbrev pub no_chain : EventChainView
no_chain = record { events = []; room = 0 }

-- the events of a gatekeeper
abbrev pub events_of : List EventChainView → ℕ → List Event
events_of chains gate = (slice_index_or chains gate no_chain).events

-- the stamps of a chain rise
abbrev pub IsRisingChain : List Event → Type 0
IsRisingChain events = (i j : ℕ) (d : Event) → i < j → j < length events
    → IsTrue (stamp_before (slice_index_or events i d).stamp (slice_index_or events j d).stamp)

-- the latest event of a chain that is at or before a stamp, if there is one
abbrev pub IsLatestAt : List Event → Stamp → Option Event → Type 0
IsLatestAt events stamp None = (event : Event) → Contains events event → ¬ IsTrue (at_or_before event.stamp stamp)
IsLatestAt events stamp (Some latest) =
    Contains events latest × IsTrue (at_or_before latest.stamp stamp)
    × ((event : Event) → Contains events event → IsTrue (at_or_before event.stamp stamp)
    → IsTrue (at_or_before event.stamp latest.stamp))

-- how much memory there is
abbrev pub room_of : List EventChainView → ℕ → ℕ
room_of chains gate = (slice_index_or chains gate no_chain).room

-- a chain after an event is put in: it is one more, if there was none with its stamp
pub record IsPut (old : List Event) (event : Event) (new : List Event) : Type 0 where
  pub stay : (other : Event) → Contains old other → Contains new other
  pub no_others : (other : Event) → Contains new other → Contains old other ⊎ (other ≡ event)
  pub there : (other : Event) × Contains new other × (other.stamp ≡ event.stamp)
  pub rising : IsRisingChain new

-- the stamp is the event's or precedes the event, as its frontier shows
abbrev pub leads_to : Stamp → Event → Bool
leads_to stamp event = at_or_before stamp event.stamp || is_up_to_frontier event.frontier.latest stamp

-- the event with the events of one more frontier before it
abbrev pub joined_event : List (Option Stamp) → Event → Event
joined_event latest event =
    record event { frontier = record { latest = joined_frontiers event.frontier.latest latest } }

-- the same, if a later stamp leads to it and an earlier one does not yet
abbrev pub raised_event : Stamp → Stamp → List (Option Stamp) → Event → Event
raised_event earlier later latest event =
    if leads_to later event && not (leads_to earlier event)
    then joined_event latest event
    else event

-- along a chain, what leads to an event leads to those after it
abbrev pub IsLedOn : Stamp → List Event → Type 0
IsLedOn stamp events = (i j : ℕ) (d : Event) → i ≤ j → j < length events
    → IsTrue (leads_to stamp (slice_index_or events i d)) → IsTrue (leads_to stamp (slice_index_or events j d))

-- Chains of eight gatekeepers hold the later events of the pairs: each in its gatekeeper's chain, whose stamps rise,
-- with a frontier of it. Their stamps are among these.
pub record AreChains (pairs : List GivenPair) (stamps : List Stamp) (chains : List EventChainView) : Type 0 where
  pub eight : length chains ≡ most_gates
  pub rising : (gate : ℕ) → IsRisingChain (events_of chains gate)
  pub homes : (gate : ℕ) (event : Event) → Contains (events_of chains gate) event → event.stamp.home ≡ gate
  pub known : (gate : ℕ) (event : Event) → Contains (events_of chains gate) event → Contains stamps event.stamp
  pub exact : (gate : ℕ) (event : Event) → Contains (events_of chains gate) event
      → IsFrontier pairs event.stamp event.frontier.latest
  pub found : (earlier later : Stamp) → Contains pairs (earlier, later) → (gate : ℕ) × (event : Event)
      × Contains (events_of chains gate) event × (event.stamp ≡ later)

-- each event of a chain raised
abbrev pub raised_chain : Stamp → Stamp → List (Option Stamp) → EventChainView → EventChainView
raised_chain earlier later latest chain = record chain { events = map (raised_event earlier later latest) chain.events }

-- each of the eight chains has memory for that many more events
abbrev pub HasRoom : ℕ → List EventChainView → Type 0
HasRoom spare chains = (gate : ℕ) → gate < most_gates → spare ≤ room_of chains gate
