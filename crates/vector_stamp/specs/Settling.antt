-- What a judge does when it is asked to put earlier events before a later one (timeline oracle of Kronos, EuroSys
-- 2014).
use Rattle.std.specs.Prelude.{◌≡◌, ℕ, suc, Bool, List, [], ◌∷◌, ◌++◌, map, position, Option, Some, ⊤, if◌then◌else◌}
use Rattle.vector_stamp.specs.declared.clock.Stamp.{Stamp}
use Rattle.vector_stamp.specs.declared.judge.Refusal.{Refusal}
use Rattle.vector_stamp.specs.declared.judge.Refusal.TheVariants as refusal
use Rattle.vector_stamp.specs.Precedence.{GivenPair, precedes}

-- the place, from 0, of the first earlier event that the later one precedes
abbrev pub refused_place : List GivenPair → List Stamp → Stamp → Option ℕ
refused_place pairs earlier later = position (precedes pairs later) earlier

-- a refusal for a place names that one
abbrev pub IsRightRefusal : List GivenPair → List Stamp → Stamp → Refusal → Type 0
IsRightRefusal pairs earlier later (refusal.Precedes place) = refused_place pairs earlier later ≡ Some place
IsRightRefusal pairs earlier later refusal.Memory = ⊤

-- The earlier events for which a pair is added, each with its place, counted on from this one: those that do not yet
-- precede the later one, by the pairs and those added for places before.
abbrev pub additions_from : ℕ → List GivenPair → List Stamp → Stamp → List (ℕ × Stamp)
additions_from place pairs [] later = []
additions_from place pairs (event ∷ events) later =
    if precedes pairs event later then additions_from (suc place) pairs events later
    else (place, event) ∷ additions_from (suc place) (pairs ++ (event, later) ∷ []) events later

-- the same from place 0, and none if no pairs are to be kept
abbrev pub additions : Bool → List GivenPair → List Stamp → Stamp → List (ℕ × Stamp)
additions keep pairs earlier later = if keep then additions_from 0 pairs earlier later else []

-- their places
abbrev pub places_of : List (ℕ × Stamp) → List ℕ
places_of events = map (λ (event : ℕ × Stamp). event.0) events

-- their pairs
abbrev pub pairs_of : List (ℕ × Stamp) → Stamp → List GivenPair
pairs_of events later = map (λ (event : ℕ × Stamp). (event.1, later)) events

-- an entry of a judge's log: who asked, the earlier events, the later one, and the places for which a pair was added
pub record SettledEntry : Type 0 where
  pub author : ℕ
  pub earlier : List Stamp
  pub later : Stamp
  pub places : List ℕ

-- what a call adds to the log: an entry if it added at least one pair
abbrev pub entries_of_call : ℕ → List Stamp → Stamp → List ℕ → List SettledEntry
entries_of_call author earlier later [] = []
entries_of_call author earlier later (place ∷ places) =
    record { author = author; earlier = earlier; later = later; places = place ∷ places } ∷ []
