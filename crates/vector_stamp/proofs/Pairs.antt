-- Precedence with more pairs, and cycles.
-- Used by `more_pairs_more_precedence`, `no_cycle_arises` and Settle.
use Rattle.std.proofs.Common.{◌≡◌, List, [], ◌∷◌, ◌++◌, Contains, IsTrue, ◌⊎◌, inl, inr, sym, subst, ◌∙◌}
use Rattle.std.proofs.lemmas.Bool.{or_cases}
use Rattle.std.proofs.lemmas.Bool.Decides.{same_from_decides}
use Rattle.std.proofs.lemmas.List.Elements.{Contains-append_left, Contains-push, Contains-push_cases}
use Rattle.vector_stamp.specs.declared.clock.Stamp.{Stamp}
use Rattle.vector_stamp.specs.Order.{same_stamp}
use Rattle.vector_stamp.specs.Precedence.{GivenPair, Precedes, ByStamps, ByPair, Through, precedes, AreAmong, IsAcyclic}
use Rattle.vector_stamp.proofs.Orders.{before-strict, same_stamp-is}
use Rattle.weave_data.proofs.Members.{has_head, has_read, has_tail}
use Rattle.vector_stamp.proofs.Closure.{leads, leads_before, leads_from, precedes_read, precedes-trans, passes_test, test_precedes}

grows : (ps qs : List GivenPair) → AreAmong ps qs → (a b : Stamp) → Precedes ps a b → Precedes qs a b
grows ps qs sub _ _ (ByStamps a b h) = ByStamps a b h
grows ps qs sub _ _ (ByPair a b h) = ByPair a b (sub a b h)
grows ps qs sub _ _ (Through a b c g h) = Through a b c (grows ps qs sub a b g) (grows ps qs sub b c h)

-- what precedes by pairs, as the test says, precedes by each list that has them all
pub precedes_grows : (ps qs : List GivenPair) → AreAmong ps qs → (a b : Stamp) → IsTrue (precedes ps a b) → IsTrue (precedes qs a b)
precedes_grows ps qs sub a b h = passes_test qs a b (grows ps qs sub a b (test_precedes ps a b h))

-- what precedes by pairs, as the test says, still does with more pairs after them
pub precedes_append : (ps qs : List GivenPair) (a b : Stamp) → IsTrue (precedes ps a b) → IsTrue (precedes (ps ++ qs) a b)
precedes_append ps qs = precedes_grows ps (ps ++ qs) (λ a b h. Contains-append_left ps qs (a, b) h)

-- one more pair at the end is one more at the head
pub precedes-push : (ps : List GivenPair) (p : GivenPair) (a b : Stamp) → precedes (ps ++ p ∷ []) a b ≡ precedes (p ∷ ps) a b
precedes-push ps p a b =
    same_from_decides {P = IsTrue (precedes (p ∷ ps) a b)} (precedes (ps ++ p ∷ []) a b) (precedes (p ∷ ps) a b) (precedes_grows (ps ++ p ∷ []) (p ∷ ps) to_head a b, precedes_grows (p ∷ ps) (ps ++ p ∷ []) to_end a b) (λ h. h, λ h. h)
  where
    to_head : AreAmong (ps ++ p ∷ []) (p ∷ ps)
    to_head x y h =
        elim (Contains-push_cases ps p (x, y) h) [
          | inl there ↦ has_tail p ps (x, y) there
          | inr here ↦ subst (λ (q : GivenPair). Contains (p ∷ ps) q) here (has_head p ps)
        ]

    to_end : AreAmong (p ∷ ps) (ps ++ p ∷ [])
    to_end x y h =
        elim (has_read p ps (x, y) h) [
          | inl here ↦ subst (λ (q : GivenPair). Contains (ps ++ p ∷ []) q) here (Contains-push ps p)
          | inr there ↦ Contains-append_left ps (p ∷ []) (x, y) there
        ]

-- what precedes with one more pair at the end did so without it, or does by way of that pair
pub push_read : (ps : List GivenPair) (p : GivenPair) (a b : Stamp) → IsTrue (precedes (ps ++ p ∷ []) a b) → IsTrue (precedes ps a b) ⊎ (IsTrue (leads ps a p.0) × IsTrue (leads ps p.1 b))
push_read ps p a b h = precedes_read p ps a b (sym (precedes-push ps p a b) ∙ h)

-- the earlier stamp of a pair that is put at the end precedes its later one
pub pushed_precedes : (ps : List GivenPair) (a b : Stamp) → IsTrue (precedes (ps ++ (a, b) ∷ []) a b)
pushed_precedes ps a b = passes_test (ps ++ (a, b) ∷ []) a b (ByPair a b (Contains-push ps (a, b)))

-- from the later end of a permitted pair no way leads back to its earlier one
pub no_way_back : (ps : List GivenPair) (a b : Stamp) → (a ≡ b → ⊥) → ¬ IsTrue (precedes ps b a) → IsTrue (leads ps b a) → ⊥
no_way_back ps a b other permitted h =
    elim (or_cases (same_stamp b a) _ h) [ inl same ↦ other (sym (same_stamp-is b a same)) | inr before ↦ permitted before ]

-- without pairs no stamp precedes itself
pub acyclic_nil : IsAcyclic []
acyclic_nil s h = before-strict s h

-- one more pair brings no cycle if its stamps differ and the later one doesn't precede the earlier one
pub acyclic_push : (ps : List GivenPair) (a b : Stamp) → IsAcyclic ps → (a ≡ b → ⊥) → ¬ IsTrue (precedes ps b a) → IsAcyclic (ps ++ (a, b) ∷ [])
acyclic_push ps a b none other permitted s h =
    elim (push_read ps (a, b) s s h) [
      | inl before ↦ none s before
      | inr via ↦ no_way_back ps a b other permitted (through via.1 via.0)
    ]
  where
    through : IsTrue (leads ps b s) → IsTrue (leads ps s a) → IsTrue (leads ps b a)
    through g k =
        elim (or_cases (same_stamp b s) _ g) [
          | inl same ↦ subst (λ x. IsTrue (leads ps x a)) (sym (same_stamp-is b s same)) k
          | inr before ↦ leads_from ps b a (leads_before ps (precedes-trans ps) b s a before k)
        ]
