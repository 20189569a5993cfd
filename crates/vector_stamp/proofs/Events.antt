-- Between events that the pairs join, no other stamp is needed on the way.
-- Used by `other_stamps_change_nothing`.
use Rattle.std.proofs.Common.{List, [], ◌∷◌, Contains, IsTrue, ◌⊎◌, inl, inr, sym, subst}
use Rattle.std.proofs.lemmas.Bool.{or_cases}
use Rattle.vector_stamp.specs.declared.clock.Stamp.{Stamp}
use Rattle.vector_stamp.specs.Order.{same_stamp}
use Rattle.vector_stamp.specs.Precedence.{GivenPair, Precedes, ByStamps, ByPair, Through, precedes, JoinsEvents, PrecedesAmong, AmongByStamps, AmongByPair, AmongThrough}
use Rattle.vector_stamp.proofs.Orders.{same_stamp-is}
use Rattle.weave_data.proofs.Members.{has_head, has_tail}
use Rattle.vector_stamp.proofs.Closure.{leads, precedes_read, passes_test}

-- with one more pair
pub among_more : (es : List Stamp) (p : GivenPair) (ps : List GivenPair) (a b : Stamp) → PrecedesAmong es ps a b → PrecedesAmong es (p ∷ ps) a b
among_more es p ps _ _ (AmongByStamps a b g h e) = AmongByStamps a b g h e
among_more es p ps _ _ (AmongByPair a b g h e) = AmongByPair a b g h (has_tail p ps (a, b) e)
among_more es p ps _ _ (AmongThrough a b c g h) = AmongThrough a b c (among_more es p ps a b g) (among_more es p ps b c h)

-- all of it precedes
pub among_precedes : (es : List Stamp) (ps : List GivenPair) (a b : Stamp) → PrecedesAmong es ps a b → Precedes ps a b
among_precedes es ps _ _ (AmongByStamps a b g h e) = ByStamps a b e
among_precedes es ps _ _ (AmongByPair a b g h e) = ByPair a b e
among_precedes es ps _ _ (AmongThrough a b c g h) = Through a b c (among_precedes es ps a b g) (among_precedes es ps b c h)

-- a way by the test, which goes from event to event
abbrev Among : List Stamp → List GivenPair → Type 0
Among es ps = (a b : Stamp) → Contains es a → Contains es b → IsTrue (precedes ps a b) → PrecedesAmong es ps a b

-- by the pair, after a way to its earlier event and before one from its later event
by_pair : (es : List Stamp) (p : GivenPair) (ps : List GivenPair) → Among es ps → Contains es p.0 → Contains es p.1 → (a b : Stamp) → Contains es a → Contains es b → IsTrue (leads ps a p.0) → IsTrue (leads ps p.1 b) → PrecedesAmong es (p ∷ ps) a b
by_pair es p ps known from to a b in_a in_b first last = to_end (to_pair (or_cases (same_stamp a p.0) _ first)) (or_cases (same_stamp p.1 b) _ last)
  where
    pair : PrecedesAmong es (p ∷ ps) p.0 p.1
    pair = AmongByPair p.0 p.1 from to (has_head p ps)

    to_pair : IsTrue (same_stamp a p.0) ⊎ IsTrue (precedes ps a p.0) → PrecedesAmong es (p ∷ ps) a p.1
    to_pair (inl same) = subst (λ x. PrecedesAmong es (p ∷ ps) x p.1) (sym (same_stamp-is a p.0 same)) pair
    to_pair (inr before) = AmongThrough a p.0 p.1 (among_more es p ps a p.0 (known a p.0 in_a from before)) pair

    to_end : PrecedesAmong es (p ∷ ps) a p.1 → IsTrue (same_stamp p.1 b) ⊎ IsTrue (precedes ps p.1 b) → PrecedesAmong es (p ∷ ps) a b
    to_end so_far (inl same) = subst (λ x. PrecedesAmong es (p ∷ ps) a x) (same_stamp-is p.1 b same) so_far
    to_end so_far (inr after) = AmongThrough a p.1 b so_far (among_more es p ps p.1 b (known p.1 b to in_b after))

-- if the pairs join events, an event that precedes another by the test does so over events alone
pub test_among : (es : List Stamp) (ps : List GivenPair) → JoinsEvents es ps → Among es ps
test_among es [] joins a b in_a in_b h = AmongByStamps a b in_a in_b h
test_among es (p ∷ ps) joins a b in_a in_b h =
    let known : Among es ps = test_among es ps (λ x y there. joins x y (has_tail p ps (x, y) there)) in
    let ends = joins p.0 p.1 (has_head p ps) in
    elim (precedes_read p ps a b h) [
      | inl before ↦ among_more es p ps a b (known a b in_a in_b before)
      | inr via ↦ by_pair es p ps known ends.0 ends.1 a b in_a in_b via.0 via.1
    ]

-- if the pairs join events, an event that precedes another does so over events alone
pub precedes_among : (es : List Stamp) (ps : List GivenPair) → JoinsEvents es ps → (a b : Stamp) → Contains es a → Contains es b → Precedes ps a b → PrecedesAmong es ps a b
precedes_among es ps joins a b in_a in_b h = test_among es ps joins a b in_a in_b (passes_test ps a b h)
