-- Precedence: what the order of stamps and the oracle's pairs imply together (timeline oracle of Kronos, EuroSys 2014;
-- Weaver, PVLDB 9(11) 2016).
use Rattle.std.specs.Prelude.{Bool, ◌||◌, ◌&&◌, List, [], ◌∷◌, IsTrue, Contains}
use Rattle.vector_stamp.specs.declared.clock.Stamp.{Stamp}
use Rattle.vector_stamp.specs.Order.{stamp_before, same_stamp}

-- an earlier stamp and a later one
abbrev pub GivenPair : Type 0
GivenPair = Stamp × Stamp

-- The least transitive relation that has the order of stamps and the pairs.
-- It is over all stamps. Between events that the pairs join it is the same as over these alone: any other stamp on the
-- way is between two steps by the order of stamps, which are one step. (`PrecedesAmong` and the law
-- `other_stamps_change_nothing`.)
pub data Precedes (pairs : List GivenPair) : Stamp → Stamp → Type 0 where
  ByStamps : (a b : Stamp) → IsTrue (stamp_before a b) → Precedes pairs a b
  ByPair : (a b : Stamp) → Contains pairs (a, b) → Precedes pairs a b
  Through : (a b c : Stamp) → Precedes pairs a b → Precedes pairs b c → Precedes pairs a c

-- The same, as a test. With one more pair, a precedes b if it did, or if a is or precedes the pair's earlier stamp and
-- its later stamp is or precedes b.
abbrev pub precedes : List GivenPair → Stamp → Stamp → Bool
precedes [] a b = stamp_before a b
precedes (pair ∷ pairs) a b =
    precedes pairs a b
    || ((same_stamp a pair.0 || precedes pairs a pair.0) && (same_stamp pair.1 b || precedes pairs pair.1 b))

-- each pair of the first list is one of the second
abbrev pub AreAmong : List GivenPair → List GivenPair → Type 0
AreAmong pairs others = (a b : Stamp) → Contains pairs (a, b) → Contains others (a, b)

-- no stamp precedes itself
abbrev pub IsAcyclic : List GivenPair → Type 0
IsAcyclic pairs = (s : Stamp) → ¬ IsTrue (precedes pairs s s)

-- a relation, given as a test, that has the order of stamps and the pairs and is transitive
pub record IsClosed (pairs : List GivenPair) (leads : Stamp → Stamp → Bool) : Type 0 where
  pub has_stamps : (a b : Stamp) → IsTrue (stamp_before a b) → IsTrue (leads a b)
  pub has_pairs : (a b : Stamp) → Contains pairs (a, b) → IsTrue (leads a b)
  pub transitive : (a b c : Stamp) → IsTrue (leads a b) → IsTrue (leads b c) → IsTrue (leads a c)

-- each pair joins two of the events
abbrev pub JoinsEvents : List Stamp → List GivenPair → Type 0
JoinsEvents events pairs = (a b : Stamp) → Contains pairs (a, b) → Contains events a × Contains events b

-- the least transitive relation over these events alone that has the order of their stamps and the pairs
pub data PrecedesAmong (events : List Stamp) (pairs : List GivenPair) : Stamp → Stamp → Type 0 where
  AmongByStamps : (a b : Stamp) → Contains events a → Contains events b → IsTrue (stamp_before a b)
      → PrecedesAmong events pairs a b
  AmongByPair : (a b : Stamp) → Contains events a → Contains events b → Contains pairs (a, b)
      → PrecedesAmong events pairs a b
  AmongThrough : (a b c : Stamp) → PrecedesAmong events pairs a b → PrecedesAmong events pairs b c
      → PrecedesAmong events pairs a c
