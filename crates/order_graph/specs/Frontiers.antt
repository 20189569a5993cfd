-- What the graph keeps of the later events of its pairs. No public contract cites it.
use Rattle.std.specs.Prelude.{◌≡◌, ℕ, Bool, false, ◌||◌, List, [], ◌∷◌, map, length, slice_index_or, Option, Some, None, IsTrue, Contains, if◌then◌else◌}
use Rattle.std.specs.List.{list_any, zip}
use Rattle.weave_data.specs.Limits.{most_gates}
use Rattle.vector_stamp.specs.declared.clock.Stamp.{Stamp}
use Rattle.vector_stamp.specs.Order.{stamp_before, same_stamp}
use Rattle.vector_stamp.specs.Precedence.{GivenPair, precedes}
use Rattle.order_graph.specs.Building.{ends_of}

-- Stamps

-- the stamps are equal, or the first is before the second
abbrev pub at_or_before : Stamp → Stamp → Bool
at_or_before a b = same_stamp a b || stamp_before a b

-- of two events of one gatekeeper the later one, if there is any
abbrev pub later_of : Option Stamp → Option Stamp → Option Stamp
later_of a None = a
later_of None (Some b) = Some b
later_of (Some a) (Some b) = if stamp_before a b then Some b else Some a

-- the laws of the order of stamps as one fact, for proofs that take them as a premise
pub record StampOrderLaws : Type 0 where
  pub before-trans : (a b c : Stamp) → IsTrue (stamp_before a b) → IsTrue (stamp_before b c) → IsTrue (stamp_before a c)
  pub before-strict : (a : Stamp) → ¬ IsTrue (stamp_before a a)
  pub same_is : (a b : Stamp) → IsTrue (same_stamp a b) → a ≡ b
  pub same_itself : (a : Stamp) → IsTrue (same_stamp a a)

-- Frontiers: for each gatekeeper an event, or none

-- the event of a gatekeeper
abbrev pub latest_of : List (Option Stamp) → ℕ → Option Stamp
latest_of frontier gate = slice_index_or frontier gate None

-- no event of any gatekeeper
abbrev pub empty_frontier : List (Option Stamp)
empty_frontier = None ∷ None ∷ None ∷ None ∷ None ∷ None ∷ None ∷ None ∷ []

-- the later of the two events of each gatekeeper
abbrev pub joined_frontiers : List (Option Stamp) → List (Option Stamp) → List (Option Stamp)
joined_frontiers xs ys = map (λ (pair : Option Stamp × Option Stamp). later_of pair.0 pair.1) (zip xs ys)

-- the stamp is at or before that event
abbrev pub is_up_to_event : Stamp → Option Stamp → Bool
is_up_to_event stamp None = false
is_up_to_event stamp (Some latest) = at_or_before stamp latest

-- the stamp is at or before an event of the frontier
abbrev pub is_up_to_frontier : List (Option Stamp) → Stamp → Bool
is_up_to_frontier frontier stamp = list_any (is_up_to_event stamp) frontier

-- A frontier of an event: of each gatekeeper an earlier event of a pair, which precedes it. Each stamp that precedes
-- the event is before it, or at or before one of these.
pub record IsFrontier (pairs : List GivenPair) (event : Stamp) (frontier : List (Option Stamp)) : Type 0 where
  pub eight : length frontier ≡ most_gates
  pub precede : (gate : ℕ) (latest : Stamp) → latest_of frontier gate ≡ Some latest → (latest.home ≡ gate)
      × Contains (ends_of pairs) latest × IsTrue (precedes pairs latest event)
  pub all : (stamp : Stamp) → IsTrue (precedes pairs stamp event)
      → IsTrue (stamp_before stamp event || is_up_to_frontier frontier stamp)
