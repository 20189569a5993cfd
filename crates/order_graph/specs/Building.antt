-- How a list of pairs is built: one pair after another, each only if it makes no cycle.
use Rattle.std.specs.Prelude.{◌≡◌, ◌≢◌, ◌⊎◌, List, [], ◌∷◌, ◌++◌, Contains, IsTrue}
use Rattle.vector_stamp.specs.declared.clock.Stamp.{Stamp}
use Rattle.vector_stamp.specs.Order.{id_of, unordered}
use Rattle.vector_stamp.specs.Coherence.{AreCoherent}
use Rattle.vector_stamp.specs.Precedence.{GivenPair, precedes}

-- the stamps of the pairs, of each the earlier one and then the later one
abbrev pub ends_of : List GivenPair → List Stamp
ends_of [] = []
ends_of (pair ∷ pairs) = pair.0 ∷ pair.1 ∷ ends_of pairs

-- each of them is an end of a pair: a premise of proofs above, where the law that says so isn't at hand (no public
-- contract cites it)
abbrev pub EndsRead : Type 0
EndsRead = (pairs : List GivenPair) (stamp : Stamp) → Contains (ends_of pairs) stamp
    → (pair : GivenPair) × Contains pairs pair × ((pair.0 ≡ stamp) ⊎ (pair.1 ≡ stamp))

-- when a pair may be added: it is of two events that the stamps leave unordered, all stamps are coherent, and the later
-- event does not precede the earlier one
pub record MayAdd (pairs : List GivenPair) (earlier later : Stamp) : Type 0 where
  pub of_two : id_of earlier ≢ id_of later
  pub left_open : IsTrue (unordered earlier later)
  pub coherent : AreCoherent (earlier ∷ later ∷ ends_of pairs)
  pub permitted : ¬ IsTrue (precedes pairs later earlier)

-- the lists that adding builds from none
pub data IsBuilt : List GivenPair → Type 0 where
  Empty : IsBuilt []
  Added : (pairs : List GivenPair) (earlier later : Stamp) → IsBuilt pairs → MayAdd pairs earlier later
      → IsBuilt (pairs ++ (earlier, later) ∷ [])
