-- What a single oracle answers to a list of asks, and the pairs that it then has (timeline oracle of Kronos, EuroSys
-- 2014).
use Rattle.std.specs.Prelude.{◌≡◌, ℕ, List, [], ◌∷◌, ◌++◌, Option, Some, None, Contains, IsTrue, slice_get}
use Rattle.vector_stamp.specs.declared.clock.Stamp.{Stamp}
use Rattle.vector_stamp.specs.Precedence.{GivenPair}
use Rattle.vector_stamp.specs.Settling.{refused_place, additions, places_of, pairs_of}
use Rattle.oracle_chain.specs.declared.ask.Ask.{Ask}
use Rattle.oracle_chain.specs.declared.ask.Outcome.{Outcome}
use Rattle.oracle_chain.specs.declared.ask.Outcome.TheVariants.{Settled, Precedes}

-- the first place refused, if there is one; else the places of what is added
abbrev pub outcome_for : Option ℕ → List (ℕ × Stamp) → Outcome
outcome_for (Some place) added = Precedes place
outcome_for None added = Settled (places_of added)

-- the pairs of what is added, and none if a place is refused
abbrev pub pairs_for : Option ℕ → List (ℕ × Stamp) → Stamp → List GivenPair
pairs_for (Some place) added later = []
pairs_for None added later = pairs_of added later

-- what an oracle with these pairs answers to an ask
abbrev pub outcome_by : List GivenPair → Ask → Outcome
outcome_by pairs ask =
    outcome_for (refused_place pairs ask.earlier ask.later) (additions ask.keep pairs ask.earlier ask.later)

-- the pairs that it adds then
abbrev pub pairs_put : List GivenPair → Ask → List GivenPair
pairs_put pairs ask =
    pairs_for (refused_place pairs ask.earlier ask.later) (additions ask.keep pairs ask.earlier ask.later) ask.later

-- its pairs after a list of asks
abbrev pub pairs_from : List GivenPair → List Ask → List GivenPair
pairs_from pairs [] = pairs
pairs_from pairs (ask ∷ asks) = pairs_from (pairs ++ pairs_put pairs ask) asks

-- and all its outcomes, in order
abbrev pub outcomes_from : List GivenPair → List Ask → List Outcome
outcomes_from pairs [] = []
outcomes_from pairs (ask ∷ asks) = outcome_by pairs ask ∷ outcomes_from (pairs ++ pairs_put pairs ask) asks

-- the pairs of a new oracle after a list of asks
abbrev pub pairs_after : List Ask → List GivenPair
pairs_after asks = pairs_from [] asks

-- the outcomes of a new oracle
abbrev pub outcomes_of : List Ask → List Outcome
outcomes_of asks = outcomes_from [] asks

-- the outcome of an ask says that the first event precedes the second: it is put before the later one, or the later one
-- is said to precede it; an ask that keeps no pairs and is not refused says nothing
abbrev pub SaysBefore : Ask → Outcome → Stamp → Stamp → Type 0
SaysBefore ask (Settled places) a b = IsTrue ask.keep × Contains ask.earlier a × (b ≡ ask.later)
SaysBefore ask (Precedes place) a b = (a ≡ ask.later) × (slice_get ask.earlier place ≡ Some b)

-- the stamps of an ask
abbrev pub ask_stamps : Ask → List Stamp
ask_stamps ask = ask.later ∷ ask.earlier
