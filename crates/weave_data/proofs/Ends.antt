-- Lists from their ends.
-- Used by Counting, Entries and 13 crates above.
use Rattle.std.proofs.Common.{◌≡◌, ◌+◌, Bool, false, cond, List, [], ◌∷◌, ◌++◌, length, map, filter, count_by, Contains, ◌⊎◌, inl, inr, refl, sym, ap, subst, ◌∙◌, arith}
use Rattle.std.specs.List.{flat_map}
use Rattle.std.proofs.lemmas.Bool.{cases_Bool}
use Rattle.std.proofs.lemmas.List.{append_assoc, append-nil, flat_map_more, length-append}
use Rattle.std.proofs.lemmas.List.Sums.{fold-append}
use Rattle.std.proofs.lemmas.List.Elements.{Contains-append_left}
use Rattle.weave_data.proofs.Members.{has_last}

module _ {A : Type 0} where
  -- what holds of the empty list, and with one more element at the end, holds of each list
  pub by_last : (Q : List A → Type 0) → Q [] → ((xs : List A) (x : A) → Q xs → Q (xs ++ x ∷ [])) → (xs : List A) → Q xs
  by_last Q none more xs = from [] xs none
    where
      from : (front back : List A) → Q front → Q (front ++ back)
      from front [] here = rw append-nil here
      from front (x ∷ back) here = subst Q (append_assoc front (x ∷ []) back) (from (front ++ x ∷ []) back (more front x here))

  -- an element of a list with one more at the end is that one, or is before it
  pub split_last : (xs before after : List A) (x e : A) → xs ++ x ∷ [] ≡ before ++ e ∷ after → ((xs ≡ before) × (x ≡ e)) ⊎ ((rest : List A) × (xs ≡ before ++ e ∷ rest))
  split_last [] [] after x e is = inl (refl, cc)
  split_last [] (b ∷ before) after x e is = absurd (omega (arith, ap length is, length-append before (e ∷ after)))
  split_last (y ∷ xs) [] after x e is = inr (xs, cc)
  split_last (y ∷ xs) (b ∷ before) after x e is =
      let heads : y ≡ b = cc in
      let tails : xs ++ x ∷ [] ≡ before ++ e ∷ after = cc in
      elim (split_last xs before after x e tails) [
        | inl here ↦ let a : xs ≡ before = here.0 in let h : x ≡ e = here.1 in inl (cc, h)
        | inr there ↦ let a : xs ≡ before ++ e ∷ there.0 = there.1 in inr (there.0, cc)
      ]

module _ {A : Type 0} (p : A → Bool) where
  -- how many pass, with one more element at the end
  pub count_push : (xs : List A) (x : A) → count_by p (xs ++ x ∷ []) ≡ count_by p xs + cond (p x) 1 0
  count_push xs x = fold-append _ 0 xs (x ∷ [])

  -- if no member passes the count is 0
  pub count_none : (xs : List A) → ((x : A) → Contains xs x → p x ≡ false) → count_by p xs ≡ 0
  count_none = by_last (λ xs. ((x : A) → Contains xs x → p x ≡ false) → count_by p xs ≡ 0) (λ none. refl) (λ xs x so_far none.
      let last : p x ≡ false = none x (has_last xs x) in
      let before = so_far (λ y has. none y (Contains-append_left xs (x ∷ []) y has)) in
      count_push xs x ∙ rw (before, last) refl)

module _ {A B : Type 0} (f : A → List B) where
  -- what one more element at the end gives comes last
  pub flat_push : (xs : List A) (x : A) → flat_map f (xs ++ x ∷ []) ≡ flat_map f xs ++ f x
  flat_push xs x = sym (flat_map_more f [] xs x)

module _ {A B : Type 0} (f : A → B) (p : B → Bool) where
  -- the images that pass are those of what passes by its image
  pub filter_map_is : (xs : List A) → filter p (map f xs) ≡ map f (filter (λ x. p (f x)) xs)
  filter_map_is [] = refl
  filter_map_is (x ∷ xs) =
      elim (cases_Bool (p (f x))) [
        | inl keeps ↦ rw keeps (ap (λ ys. f x ∷ ys) (filter_map_is xs))
        | inr drops ↦ rw drops (filter_map_is xs)
      ]
