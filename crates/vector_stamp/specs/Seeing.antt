-- Which of a vertex's updates a program sees (refinable timestamps of Weaver, PVLDB 9(11) 2016).
use Rattle.std.specs.Prelude.{ℕ, zero, suc, Bool, true, false, ◌||◌, ◌&&◌, not, List, [], ◌∷◌}
use Rattle.vector_stamp.specs.declared.clock.Stamp.{Stamp}
use Rattle.vector_stamp.specs.Order.{stamp_before, unordered}
use Rattle.vector_stamp.specs.Precedence.{GivenPair, precedes}

-- the place of the last element that passes, with one more element in front: all later places are one more, and the new
-- element has place 1 if it passes and no later one does
abbrev pub with_front : Bool → ℕ → ℕ
with_front true zero = 1
with_front false zero = 0
with_front front (suc place) = suc (suc place)

module _ {A : Type 0} where
  -- the place, from 1, of the last element that passes the test; 0 if none does
  abbrev pub last_place : (A → Bool) → List A → ℕ
  last_place test [] = 0
  last_place test (x ∷ xs) = with_front (test x) (last_place test xs)

-- a program sees an update that is before it, and an unordered one that it doesn't precede
abbrev pub is_seen : List GivenPair → Stamp → Stamp → Bool
is_seen pairs program update =
    stamp_before update program || (unordered update program && not (precedes pairs program update))

-- after how many of a vertex's updates, given by their stamps, a program reads its state: all up to the last one that
-- it sees
abbrev pub seen_of : List GivenPair → Stamp → List Stamp → ℕ
seen_of pairs program updates = last_place (is_seen pairs program) updates

-- the last of the first n updates, as a list of one; none if n is 0 or there are fewer
abbrev pub last_seen : ℕ → List Stamp → List Stamp
last_seen zero updates = []
last_seen (suc n) [] = []
last_seen (suc zero) (update ∷ updates) = update ∷ []
last_seen (suc (suc n)) (update ∷ updates) = last_seen (suc n) updates
