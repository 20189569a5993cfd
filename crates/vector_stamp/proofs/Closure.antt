-- The test of precedence is the least transitive relation that has the order of stamps and the pairs.
-- Used by `one_pair_joins_its_ends`, `precedence_is_decided`, Events, Pairs and Settle.
use Rattle.std.proofs.Common.{Bool, ◌||◌, List, [], ◌∷◌, Contains, IsTrue, ◌⊎◌, inl, inr, sym, subst, arith}
use Rattle.std.proofs.lemmas.Bool.{and_from, or_cases, or_left, or_right}
use Rattle.weave_data.proofs.Members.{has_head, has_read, has_tail}
use Rattle.vector_stamp.specs.declared.clock.Stamp.{Stamp}
use Rattle.vector_stamp.specs.Order.{stamp_before, same_stamp}
use Rattle.vector_stamp.specs.Precedence.{GivenPair, Precedes, ByStamps, ByPair, Through, precedes, IsClosed}
use Rattle.vector_stamp.proofs.Reading.{both_left, both_right}
use Rattle.vector_stamp.proofs.Orders.{before-trans, same_stamp-is, same_stamp-refl}

-- a is b, or precedes it
abbrev pub leads : List GivenPair → Stamp → Stamp → Bool
leads pairs a b = same_stamp a b || precedes pairs a b

-- what the test says with one more pair
pub precedes_read : (p : GivenPair) (ps : List GivenPair) (a b : Stamp) → IsTrue (precedes (p ∷ ps) a b) → IsTrue (precedes ps a b) ⊎ (IsTrue (leads ps a p.0) × IsTrue (leads ps p.1 b))
precedes_read p ps a b h =
    elim (or_cases (precedes ps a b) _ h) [
      | inl l ↦ inl l
      | inr r ↦ inr (both_left (leads ps a p.0) _ r, both_right (leads ps a p.0) _ r)
    ]

-- what precedes by the test still does with one more pair
pub precedes_more : (p : GivenPair) (ps : List GivenPair) (a b : Stamp) → IsTrue (precedes ps a b) → IsTrue (precedes (p ∷ ps) a b)
precedes_more p ps a b h = or_left _ _ h

-- with one more pair, what is or precedes its earlier stamp precedes what its later one is or precedes
pub precedes_by : (p : GivenPair) (ps : List GivenPair) (a b : Stamp) → IsTrue (leads ps a p.0) → IsTrue (leads ps p.1 b) → IsTrue (precedes (p ∷ ps) a b)
precedes_by p ps a b g h = or_right (precedes ps a b) _ (and_from _ _ g h)

-- the relation of stamps is transitive
abbrev pub IsTransitive : (Stamp → Stamp → Bool) → Type 0
IsTransitive r = (a b c : Stamp) → IsTrue (r a b) → IsTrue (r b c) → IsTrue (r a c)

-- a stamp that is or precedes another precedes what this one precedes, if the test is transitive
pub leads_after : (ps : List GivenPair) → IsTransitive (precedes ps) → (a b c : Stamp) → IsTrue (leads ps a b) → IsTrue (precedes ps b c) → IsTrue (precedes ps a c)
leads_after ps trans a b c g h =
    elim (or_cases (same_stamp a b) _ g) [
      | inl same ↦ subst (λ x. IsTrue (precedes ps x c)) (sym (same_stamp-is a b same)) h
      | inr before ↦ trans a b c before h
    ]

-- a stamp that precedes another precedes what this one is or precedes, if the test is transitive
pub leads_before : (ps : List GivenPair) → IsTransitive (precedes ps) → (a b c : Stamp) → IsTrue (precedes ps a b) → IsTrue (leads ps b c) → IsTrue (precedes ps a c)
leads_before ps trans a b c g h =
    elim (or_cases (same_stamp b c) _ h) [
      | inl same ↦ subst (λ x. IsTrue (precedes ps a x)) (same_stamp-is b c same) g
      | inr before ↦ trans a b c g before
    ]

-- a stamp that precedes another leads to it: it is that one, or precedes it
pub leads_from : (ps : List GivenPair) (a b : Stamp) → IsTrue (precedes ps a b) → IsTrue (leads ps a b)
leads_from ps a b h = or_right (same_stamp a b) _ h

-- precedence by the test is transitive
pub precedes-trans : (ps : List GivenPair) → IsTransitive (precedes ps)
precedes-trans [] a b c g h = before-trans a b c g h
precedes-trans (p ∷ ps) a b c g h =
    let trans = precedes-trans ps in
    elim (precedes_read p ps a b g) [
      | inl ab ↦ elim (precedes_read p ps b c h) [
        | inl bc ↦ precedes_more p ps a c (trans a b c ab bc)
        | inr via ↦ precedes_by p ps a c (leads_from ps a p.0 (leads_before ps trans a b p.0 ab via.0)) via.1
      ]
      | inr via ↦ elim (precedes_read p ps b c h) [
        | inl bc ↦ precedes_by p ps a c via.0 (leads_from ps p.1 c (leads_after ps trans p.1 b c via.1 bc))
        | inr again ↦ precedes_by p ps a c via.0 again.1
      ]
    ]

-- a stamp that is before another by its clock precedes it, whatever the pairs
pub precedes_stamps : (ps : List GivenPair) (a b : Stamp) → IsTrue (stamp_before a b) → IsTrue (precedes ps a b)
precedes_stamps [] a b h = h
precedes_stamps (p ∷ ps) a b h = precedes_more p ps a b (precedes_stamps ps a b h)

-- each stamp leads to itself
pub leads-refl : (ps : List GivenPair) (a : Stamp) → IsTrue (leads ps a a)
leads-refl ps a = or_left _ _ (same_stamp-refl a)

-- the earlier stamp of each pair precedes its later one
pub precedes_pairs : (ps : List GivenPair) (a b : Stamp) → Contains ps (a, b) → IsTrue (precedes ps a b)
precedes_pairs [] a b h = absurd (omega (arith, h.1))
precedes_pairs (p ∷ ps) a b h =
    elim (has_read p ps (a, b) h) [
      | inl e ↦ precedes_by p ps a b (subst (λ (q : GivenPair). IsTrue (leads ps a q.0)) (sym e) (leads-refl ps a)) (subst (λ (q : GivenPair). IsTrue (leads ps q.1 b)) (sym e) (leads-refl ps b))
      | inr later ↦ precedes_more p ps a b (precedes_pairs ps a b later)
    ]

-- what precedes passes the test
pub passes_test : (ps : List GivenPair) (a b : Stamp) → Precedes ps a b → IsTrue (precedes ps a b)
passes_test ps _ _ (ByStamps a b h) = precedes_stamps ps a b h
passes_test ps _ _ (ByPair a b h) = precedes_pairs ps a b h
passes_test ps _ _ (Through a b c g h) = precedes-trans ps a b c (passes_test ps a b g) (passes_test ps b c h)

-- with one more pair what preceded precedes
pub more_pairs : (p : GivenPair) (ps : List GivenPair) (a b : Stamp) → Precedes ps a b → Precedes (p ∷ ps) a b
more_pairs p ps _ _ (ByStamps a b h) = ByStamps a b h
more_pairs p ps _ _ (ByPair a b h) = ByPair a b (has_tail p ps (a, b) h)
more_pairs p ps _ _ (Through a b c g h) = Through a b c (more_pairs p ps a b g) (more_pairs p ps b c h)

module _ (p : GivenPair) (ps : List GivenPair) (known : (x y : Stamp) → IsTrue (precedes ps x y) → Precedes ps x y) where
  -- from a start that leads to the pair, to the end
  to_end : (c b : Stamp) → Precedes (p ∷ ps) c p.1 → IsTrue (same_stamp p.1 b) ⊎ IsTrue (precedes ps p.1 b) → Precedes (p ∷ ps) c b
  to_end c b so_far (inl same) = subst (λ x. Precedes (p ∷ ps) c x) (same_stamp-is p.1 b same) so_far
  to_end c b so_far (inr after) = Through c p.1 b so_far (more_pairs p ps p.1 b (known p.1 b after))

  through_pair : (a b : Stamp) → IsTrue (same_stamp a p.0) ⊎ IsTrue (precedes ps a p.0) → IsTrue (same_stamp p.1 b) ⊎ IsTrue (precedes ps p.1 b) → Precedes (p ∷ ps) a b
  through_pair a b (inl same) rest =
      to_end a b (subst (λ x. Precedes (p ∷ ps) x p.1) (sym (same_stamp-is a p.0 same)) (ByPair p.0 p.1 (has_head p ps))) rest
  through_pair a b (inr before) rest =
      to_end a b (Through a p.0 p.1 (more_pairs p ps a p.0 (known a p.0 before)) (ByPair p.0 p.1 (has_head p ps))) rest

-- what passes the test precedes
pub test_precedes : (ps : List GivenPair) (a b : Stamp) → IsTrue (precedes ps a b) → Precedes ps a b
test_precedes [] a b h = ByStamps a b h
test_precedes (p ∷ ps) a b h =
    elim (precedes_read p ps a b h) [
      | inl before ↦ more_pairs p ps a b (test_precedes ps a b before)
      | inr via ↦ through_pair p ps (λ x y k. test_precedes ps x y k) a b (or_cases (same_stamp a p.0) _ via.0) (or_cases (same_stamp p.1 b) _ via.1)
    ]

-- the test is closed
pub precedes-closed : (ps : List GivenPair) → IsClosed ps (precedes ps)
precedes-closed ps = record { has_stamps = precedes_stamps ps; has_pairs = precedes_pairs ps; transitive = precedes-trans ps }

-- each closed relation has what precedes
pub closed_has : (ps : List GivenPair) (r : Stamp → Stamp → Bool) → IsClosed ps r → (a b : Stamp) → Precedes ps a b → IsTrue (r a b)
closed_has ps r closed _ _ (ByStamps a b h) = closed.has_stamps a b h
closed_has ps r closed _ _ (ByPair a b h) = closed.has_pairs a b h
closed_has ps r closed _ _ (Through a b c g h) = closed.transitive a b c (closed_has ps r closed a b g) (closed_has ps r closed b c h)

-- each transitive relation that has the order of stamps and the pairs has what passes the test
pub least : (ps : List GivenPair) (r : Stamp → Stamp → Bool) → IsClosed ps r → (a b : Stamp) → IsTrue (precedes ps a b) → IsTrue (r a b)
least ps r closed a b h = closed_has ps r closed a b (test_precedes ps a b h)
