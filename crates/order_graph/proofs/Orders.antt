-- A stamp is at or before another if it equals it or is before it, and steps of these kinds may be chained.
-- Used by Adding, Chains, Frontiers and Joining.
use Rattle.std.proofs.Common.{◌≡◌, Bool, true, false, not, ◌&&◌, ◌||◌, ◌==◌, List, Contains, IsTrue, ◌⊎◌, inl, inr, sym, subst}
use Rattle.std.proofs.lemmas.Bool.{or_cases, or_left, or_right, both_ways, eq-eqb}
use Rattle.vector_stamp.specs.declared.clock.Stamp.{Stamp}
use Rattle.vector_stamp.specs.Order.{stamp_before, same_stamp, id_before, are_apart}
use Rattle.vector_stamp.specs.Coherence.{AreCoherent}
use Rattle.order_graph.specs.Frontiers.{at_or_before, StampOrderLaws}

-- two different stamps of coherent ones are apart
abbrev pub AreApart : Type 0
AreApart = (stamps : List Stamp) (a b : Stamp) → AreCoherent stamps → Contains stamps a → Contains stamps b → (a ≡ b → ⊥) → IsTrue (are_apart a b)

module _ (laws : StampOrderLaws) where
  -- each stamp is at or before itself
  pub at_itself : (a : Stamp) → IsTrue (at_or_before a a)
  at_itself a = or_left _ _ (laws.same_itself a)

  -- a stamp that is before another is at or before it
  pub at_from : (a b : Stamp) → IsTrue (stamp_before a b) → IsTrue (at_or_before a b)
  at_from a b h = or_right (same_stamp a b) _ h

  -- a stamp that is at or before another equals it or is before it
  pub at_cases : (a b : Stamp) → IsTrue (at_or_before a b) → (a ≡ b) ⊎ IsTrue (stamp_before a b)
  at_cases a b h = elim (or_cases (same_stamp a b) _ h) [ inl same ↦ inl (laws.same_is a b same) | inr before ↦ inr before ]

  -- a stamp at or before one that is before a third is before the third
  pub at_then : (a b c : Stamp) → IsTrue (at_or_before a b) → IsTrue (stamp_before b c) → IsTrue (stamp_before a c)
  at_then a b c g h =
      elim (at_cases a b g) [
        | inl same ↦ subst (λ x. IsTrue (stamp_before x c)) (sym same) h
        | inr before ↦ laws.before-trans a b c before h
      ]

  -- a stamp before one that is at or before a third is before the third
  pub then_at : (a b c : Stamp) → IsTrue (stamp_before a b) → IsTrue (at_or_before b c) → IsTrue (stamp_before a c)
  then_at a b c g h =
      elim (at_cases b c h) [
        | inl same ↦ subst (λ x. IsTrue (stamp_before a x)) same g
        | inr before ↦ laws.before-trans a b c g before
      ]

  -- a stamp at or before one that is at or before a third is at or before the third
  pub at-trans : (a b c : Stamp) → IsTrue (at_or_before a b) → IsTrue (at_or_before b c) → IsTrue (at_or_before a c)
  at-trans a b c g h =
      elim (at_cases b c h) [
        | inl same ↦ subst (λ x. IsTrue (at_or_before a x)) same g
        | inr before ↦ at_from a c (at_then a b c g before)
      ]

  -- of two coherent stamps of one gatekeeper, if the first is not at or before the second, the second is before it
  pub not_at : AreApart → (stamps : List Stamp) → AreCoherent stamps → (a b : Stamp) → Contains stamps a → Contains stamps b → a.home ≡ b.home → at_or_before a b ≡ false → IsTrue (stamp_before b a)
  not_at apart stamps all a b in_a in_b home fails =
      let two : IsTrue (are_apart a b) = apart stamps a b all in_a in_b (λ same. both_ways _ fails (subst (λ x. IsTrue (at_or_before a x)) same (at_itself a))) in
      elim (or_cases (not (a.home == b.home) || (id_before a b && stamp_before a b)) _ two) [
        | inl first ↦ elim (or_cases (not (a.home == b.home)) _ first) [
          | inl others ↦ absurd (let e = eq-eqb a.home b.home home in cc)
          | inr before ↦ absurd (both_ways _ fails (at_from a b (and_second (id_before a b) _ before)))
        ]
        | inr after ↦ and_second (id_before b a) _ after
      ]
    where
      and_second : (x y : Bool) → IsTrue (x && y) → IsTrue y
      and_second true y h = h
      and_second false y h = absurd (cc)
