-- The choice of the next request, and the printed order.
-- Used by `best_of`.
use Rattle.std.proofs.Common.{◌≡◌, ℕ, ◌+◌, ◌<◌, ◌≤◌, Bool, true, false, ◌&&◌, IsTrue, List, [], ◌∷◌, ◌++◌, length, take, get_or, Option, Some, None, inl, inr, refl, sym, ap, ◌∙◌, subst, arith}
use Rattle.std.specs.Prelude.{nat_eq}
use Rattle.std.proofs.lemmas.Bool.{and_parts, and_from, both_ways, or_cases, or_left, or_right, eq-eqb, ltb-true, ltb-false}
use Rattle.std.proofs.lemmas.List.{take_more}
use Rattle.report_rules.specs.declared.report.Report.{Report}
use Rattle.report_rules.specs.Lookups.{is_in}
use Rattle.weave_data.proofs.Lists.{all-append, all-map}
use Rattle.order_witness.specs.Preceding.{Test}
use Rattle.order_witness.specs.Choices.{IsBest, is_better, is_free, home_at}

is_in-append : (r : ℕ) (xs ys : List ℕ) → IsTrue (is_in r xs) → IsTrue (is_in r (xs ++ ys))
is_in-append r [] ys h = cc
is_in-append r (x ∷ xs) ys h = elim (or_cases (nat_eq r x) _ h) [ inl here ↦ or_left _ _ here | inr later ↦ or_right (nat_eq r x) _ (is_in-append r xs ys later) ]

is_in-last : (r : ℕ) (xs : List ℕ) → IsTrue (is_in r (xs ++ r ∷ []))
is_in-last r [] = or_left _ _ (eq-eqb r r refl)
is_in-last r (x ∷ xs) = or_right (nat_eq r x) _ (is_in-last r xs)

module _ (report : Report) (precedence : Test) (remaining : List ℕ) where
  abbrev free : ℕ → Bool
  free = is_free precedence remaining

  -- one request more, which is chosen
  chosen_one : (best : Option ℕ) (xs : List ℕ) (r : ℕ) → IsBest report precedence remaining xs best → IsTrue (is_better report best r) → IsTrue (free r) → IsBest report precedence remaining (xs ++ r ∷ []) (Some r)
  chosen_one None xs r h better is = (
    is_in-last r xs,
    is,
    all-append _ xs (r ∷ []) (all-map _ _ (λ x none it_is. absurd (both_ways _ none it_is)) xs h) (λ _. omega arith, tt),
  )
  chosen_one (Some best) xs r h better is =
      let less : home_at report r < home_at report best = ltb-true _ _ better in (
        is_in-last r xs,
        is,
        all-append _ xs (r ∷ []) (all-map _ _ (λ x at_least it_is. omega (arith, less, at_least it_is)) xs h.2) (λ _. omega arith, tt),
      )

  -- one request more, which isn't
  kept_one : (best : Option ℕ) (xs : List ℕ) (r : ℕ) → IsBest report precedence remaining xs best → (is_better report best r && free r) ≡ false → IsBest report precedence remaining (xs ++ r ∷ []) best
  kept_one None xs r h none = all-append _ xs (r ∷ []) h (none, tt)
  kept_one (Some best) xs r h none = (
    is_in-append best xs (r ∷ []) h.0,
    h.1,
    all-append _ xs (r ∷ []) h.2 (λ it_is. at_least (is_better report (Some best) r) refl it_is, tt),
  )
    where
      at_least : (b : Bool) → is_better report (Some best) r ≡ b → IsTrue (free r) → home_at report best ≤ home_at report r
      at_least true e it_is = absurd (both_ways _ none (and_from _ _ e it_is))
      at_least false e it_is = ltb-false _ _ e

  module _ (asked : List ℕ) (i r : ℕ) (lt : i < length asked) (is : get_or asked i 0 ≡ r) where
    more : take (i + 1) asked ≡ take i asked ++ r ∷ []
    more = take_more asked i 0 lt ∙ ap (λ x. take i asked ++ x ∷ []) is

    -- if the request at the place is free, and better than the best of those before it, it is the best of all so far
    pub chosen : (best : Option ℕ) → IsBest report precedence remaining (take i asked) best → (is_better report best r && free r) ≡ true → IsBest report precedence remaining (take (i + 1) asked) (Some r)
    chosen best h it_is =
        let parts = and_parts (is_better report best r) (free r) it_is in
        subst (λ (xs : List ℕ). IsBest report precedence remaining xs (Some r)) (sym more) (chosen_one best (take i asked) r h parts.0 parts.1)

    -- if it isn't both, the best of those before it stays the best
    pub kept : (best : Option ℕ) → IsBest report precedence remaining (take i asked) best → (is_better report best r && free r) ≡ false → IsBest report precedence remaining (take (i + 1) asked) best
    kept best h not_so = subst (λ (xs : List ℕ). IsBest report precedence remaining xs best) (sym more) (kept_one best (take i asked) r h not_so)
