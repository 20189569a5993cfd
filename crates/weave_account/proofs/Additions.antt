-- If a judge adds a pair for an event, no earlier place has that event.
-- Used by Growing and PlacedPairs.
use Rattle.std.proofs.Common.{◌≡◌, ℕ, zero, suc, ◌+◌, ◌<◌, Bool, true, false, cond, List, [], ◌∷◌, ◌++◌, Contains, IsTrue, Some, inl, inr, refl, sym, ap, subst, arith}
use Rattle.std.specs.Prelude.{slice_get}
use Rattle.std.proofs.lemmas.Bool.{both_ways}
use Rattle.std.proofs.lemmas.List.Elements.{Contains-append_left}
use Rattle.std.proofs.lemmas.Option.{none-some, same_Some}
use Rattle.weave_data.proofs.Members.{has_none, has_read, has_last}
use Rattle.vector_stamp.specs.declared.clock.Stamp.{Stamp}
use Rattle.vector_stamp.specs.Precedence.{GivenPair, Precedes, ByStamps, ByPair, Through, precedes}
use Rattle.vector_stamp.specs.Settling.{additions_from}
use Rattle.weave_account.specs.LowerLaws.{LawsForAccounts}

-- with more pairs at the end as much precedes
pub more-precedes : (pairs more : List GivenPair) (a b : Stamp) → Precedes pairs a b → Precedes (pairs ++ more) a b
more-precedes pairs more _ _ (ByStamps a b h) = ByStamps a b h
more-precedes pairs more _ _ (ByPair a b h) = ByPair a b (Contains-append_left pairs more (a, b) h)
more-precedes pairs more _ _ (Through a b c g h) = Through a b c (more-precedes pairs more a b g) (more-precedes pairs more b c h)

module _ (laws : LawsForAccounts) where
  grows : (pairs more : List GivenPair) (a b : Stamp) → IsTrue (precedes pairs a b) → IsTrue (precedes (pairs ++ more) a b)
  grows pairs more a b h = (laws.decided (pairs ++ more) a b).0 (more-precedes pairs more a b ((laws.decided pairs a b).1 h))

  -- for an event that already precedes nothing is added
  never-added : (n : ℕ) (pairs : List GivenPair) (events : List Stamp) (later event : Stamp) (place : ℕ)
      → IsTrue (precedes pairs event later) → ¬ Contains (additions_from n pairs events later) (place, event)
  never-added n pairs [] later event place before h = has_none (place, event) h
  never-added n pairs (first ∷ events) later event place before h =
      at (precedes pairs first later) refl h (λ more then. never-added (suc n) more events later event place then)
    where
      at : (b : Bool) → precedes pairs first later ≡ b
          → Contains (cond b (additions_from (suc n) pairs events later) ((n, first) ∷ additions_from (suc n) (pairs ++ (first, later) ∷ []) events later)) (place, event)
          → ((more : List GivenPair) → IsTrue (precedes more event later) → ¬ Contains (additions_from (suc n) more events later) (place, event))
          → ⊥
      at true e h rest = rest pairs before h
      at false e h rest = elim (has_read (n, first) (additions_from (suc n) (pairs ++ (first, later) ∷ []) events later) (place, event) h) [
        | inl same ↦ (let is : first ≡ event = ap (λ (k : ℕ × Stamp). k.1) same in both_ways _ e (subst (λ s. IsTrue (precedes pairs s later)) (sym is) before))
        | inr more ↦ rest (pairs ++ (first, later) ∷ []) (grows pairs ((first, later) ∷ []) event later before) more
      ]

  -- an event is added for at its first place, never at a later one
  pub first-place : (n : ℕ) (pairs : List GivenPair) (events : List Stamp) (later event : Stamp) (place q : ℕ)
      → Contains (additions_from n pairs events later) (place, event) → slice_get events q ≡ Some event → n + q < place → ⊥
  first-place n pairs [] later event place q h e less = none-some event e
  first-place n pairs (first ∷ events) later event place zero h e less = at (precedes pairs first later) refl h
    where
      is : first ≡ event
      is = same_Some first event e

      at : (b : Bool) → precedes pairs first later ≡ b
          → Contains (cond b (additions_from (suc n) pairs events later) ((n, first) ∷ additions_from (suc n) (pairs ++ (first, later) ∷ []) events later)) (place, event)
          → ⊥
      at true f h = never-added (suc n) pairs events later event place (subst (λ s. IsTrue (precedes pairs s later)) is f) h
      at false f h = elim (has_read (n, first) (additions_from (suc n) (pairs ++ (first, later) ∷ []) events later) (place, event) h) [
        | inl same ↦ (let here : n ≡ place = ap (λ (k : ℕ × Stamp). k.0) same in absurd (omega (arith, here, less)))
        | inr more ↦ never-added (suc n) (pairs ++ (first, later) ∷ []) events later event place
            (subst (λ s. IsTrue (precedes (pairs ++ (first, later) ∷ []) s later)) is ((laws.decided (pairs ++ (first, later) ∷ []) first later).0 (ByPair first later (has_last pairs (first, later))))) more
      ]
  first-place n pairs (first ∷ events) later event place (suc q) h e less =
      at (precedes pairs first later) h (λ more g. first-place (suc n) more events later event place q g e (omega (arith, less)))
    where
      at : (b : Bool)
          → Contains (cond b (additions_from (suc n) pairs events later) ((n, first) ∷ additions_from (suc n) (pairs ++ (first, later) ∷ []) events later)) (place, event)
          → ((more : List GivenPair) → Contains (additions_from (suc n) more events later) (place, event) → ⊥) → ⊥
      at true h rest = rest pairs h
      at false h rest = elim (has_read (n, first) (additions_from (suc n) (pairs ++ (first, later) ∷ []) events later) (place, event) h) [
        | inl same ↦ (let here : n ≡ place = ap (λ (k : ℕ × Stamp). k.0) same in absurd (omega (arith, here, less)))
        | inr more ↦ rest (pairs ++ (first, later) ∷ []) more
      ]
