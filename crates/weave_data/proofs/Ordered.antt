-- Lists in which each element has a relation to each later one.
-- Used by 16 crates above.
use Rattle.std.proofs.Common.{◌≡◌, ◌≢◌, ℕ, zero, suc, ◌<◌, nat_eq, ◌==◌, cond, List, [], ◌∷◌, ◌++◌, get_or, Contains, AllPairs, Some, ◌⊎◌, inl, inr, refl, sym, ap, subst, ◌∙◌, arith, map}
use Rattle.std.specs.List.{find}
use Rattle.std.proofs.lemmas.Bool.{cases_order, eq-eqb, ne_eqb}
use Rattle.std.proofs.lemmas.List.{length-append, get_or_append_left, get_or_default}
use Rattle.std.proofs.lemmas.List.Elements.{Contains-get_or, Contains-append_right}
use Rattle.std.proofs.lemmas.List.Quantifiers.{all_pairs_push}
use Rattle.weave_data.proofs.Members.{has_none, has_read, has_head, has_map}

module _ {A : Type 0} (R : A → A → Type 0) where
  -- the empty list is so
  pub pairs_none : AllPairs R []
  pairs_none i j d below within = absurd (omega arith)

  -- one more element at the end is after all
  pub pairs_push : (xs : List A) (y : A) → AllPairs R xs → ((x : A) → Contains xs x → R x y) → AllPairs R (xs ++ y ∷ [])
  pairs_push xs y pairs each = all_pairs_push R xs y pairs (λ k d below. each (get_or xs k d) (Contains-get_or xs k d below))

  -- one more element in front is before all
  pub pairs_cons : (y : A) (xs : List A) → ((x : A) → Contains xs x → R y x) → AllPairs R xs → AllPairs R (y ∷ xs)
  pairs_cons y xs each pairs zero zero d below within = absurd (omega (arith, below))
  pairs_cons y xs each pairs zero (suc j) d below within = each (get_or xs j d) (Contains-get_or xs j d (omega (arith, within)))
  pairs_cons y xs each pairs (suc i) zero d below within = absurd (omega (arith, below))
  pairs_cons y xs each pairs (suc i) (suc j) d below within = pairs i j d (omega (arith, below)) (omega (arith, within))

  -- the first part of the list is so
  pub pairs_front : (xs ys : List A) → AllPairs R (xs ++ ys) → AllPairs R xs
  pairs_front xs ys pairs i j d below within =
      let first = get_or_append_left xs ys d i (omega arith) in
      let second = get_or_append_left xs ys d j within in
      let both : R (get_or (xs ++ ys) i d) (get_or (xs ++ ys) j d) = pairs i j d below (omega (arith, length-append xs ys)) in
      subst (λ b. R (get_or xs i d) b) second (subst (λ a. R a (get_or (xs ++ ys) j d)) first both)

  -- and the rest after the first element
  pub pairs_tail : (x : A) (xs : List A) → AllPairs R (x ∷ xs) → AllPairs R xs
  pairs_tail x xs pairs i j d below within = pairs (suc i) (suc j) d (omega (arith, below)) (omega (arith, within))

  -- the first element has the relation to each later one
  pub pairs_head : (x : A) (xs : List A) (y : A) → AllPairs R (x ∷ xs) → Contains xs y → R x y
  pairs_head x xs y pairs (k, below, here) = subst (R x) here (pairs 0 (suc k) y (omega arith) (omega (arith, below)))

  -- each of a first part has it to each of the second
  pub pairs_across : (xs ys : List A) (x y : A) → AllPairs R (xs ++ ys) → Contains xs x → Contains ys y → R x y
  pairs_across [] ys x y pairs h g = absurd (has_none x h)
  pairs_across (z ∷ xs) ys x y pairs h g =
      elim (has_read z xs x h) [
        | inl same ↦ subst (λ k. R k y) same (pairs_head z (xs ++ ys) y pairs (Contains-append_right xs ys y g))
        | inr more ↦ pairs_across xs ys x y (pairs_tail z (xs ++ ys) pairs) more g
      ]

  -- each earlier one has it to the last one
  pub pairs_last : (xs : List A) (y : A) → AllPairs R (xs ++ y ∷ []) → (x : A) → Contains xs x → R x y
  pairs_last xs y pairs x has = pairs_across xs (y ∷ []) x y pairs has (has_head y [])

  -- of two members, at two places, the earlier one has it to the later one
  pub pairs_placed : (xs : List A) → AllPairs R xs → (x y : A) (at_x : Contains xs x) (at_y : Contains xs y) → at_x.0 < at_y.0 → R x y
  pairs_placed xs pairs x y at_x at_y first =
      let both : R (get_or xs at_x.0 x) (get_or xs at_y.0 x) = pairs at_x.0 at_y.0 x first at_y.1 in
      let second : get_or xs at_y.0 x ≡ y = get_or_default xs at_y.0 x y at_y.1 ∙ at_y.2 in
      subst (λ z. R x z) second (subst (λ z. R z (get_or xs at_y.0 x)) at_x.2 both)

  -- two members are the same, or one has the relation to the other
  pub pairs_cases : (xs : List A) → AllPairs R xs → (x y : A) → Contains xs x → Contains xs y → (x ≡ y) ⊎ (R x y ⊎ R y x)
  pairs_cases xs pairs x y at_x at_y =
      elim (cases_order at_x.0 at_y.0) [
        | inl here ↦ inl (sym at_x.2 ∙ get_or_default xs at_x.0 x y at_x.1 ∙ ap (λ k. get_or xs k y) here ∙ at_y.2)
        | inr (inl first) ↦ inr (inl (pairs_placed xs pairs x y at_x at_y first))
        | inr (inr second) ↦ inr (inr (pairs_placed xs pairs y x at_y at_x second))
      ]

-- if no two have the same key, the one with a key is found by it
pub find_by_key : {A : Type 0} (key : A → ℕ) (xs : List A) (x : A) → AllPairs (λ a b. key a ≢ key b) xs → Contains xs x → find (λ y. key y == key x) xs ≡ Some x
find_by_key key [] x pairs h = absurd (has_none x h)
find_by_key key (z ∷ xs) x pairs h =
    elim (has_read z xs x h) [
      | inl same ↦ subst (λ k. cond (nat_eq (key z) (key k)) (Some z) (find (λ y. key y == key k) xs) ≡ Some k) same (ap (λ b. cond b (Some z) (find (λ y. key y == key z) xs)) (eq-eqb (key z) (key z) refl))
      | inr more ↦
          ap (λ b. cond b (Some z) (find (λ y. key y == key x) xs)) (ne_eqb (key z) (key x) (pairs_head (λ a b. key a ≢ key b) z xs x pairs more))
          ∙ find_by_key key xs x (pairs_tail (λ a b. key a ≢ key b) z xs pairs) more
    ]

-- if each two images are related, in order, so are the elements by their images
pub pairs-of-images : {A B : Type 0} (f : A → B) (R : B → B → Type 0) (xs : List A) → AllPairs R (map f xs)
    → AllPairs (λ a b. R (f a) (f b)) xs
pairs-of-images f R [] pairs = pairs_none (λ a b. R (f a) (f b))
pairs-of-images f R (x ∷ xs) pairs =
    pairs_cons (λ a b. R (f a) (f b)) x xs (λ y h. pairs_head R (f x) (map f xs) (f y) pairs (has_map f xs y h))
    (pairs-of-images f R xs (pairs_tail R (f x) (map f xs) pairs))
