-- Members of mapped lists, the last element that passes a test, the element at a place, and lists of lists.
-- Used by 9 crates above.
use Rattle.std.proofs.Common.{◌≡◌, ℕ, zero, suc, ◌<◌, Bool, length, get_or, arith, List, [], ◌∷◌, map, Contains, None, Some, inl, inr, sym, subst, refl, ap, ◌∙◌}
use Rattle.std.specs.Prelude.{reverse, slice_get}
use Rattle.std.specs.List.{filter, find, flat_map}
use Rattle.std.proofs.lemmas.List.{reverse-append}
use Rattle.std.proofs.lemmas.List.Elements.{Contains-append_left, Contains-append_right}
use Rattle.weave_data.proofs.Members.{has_none, has_read, has_head, has_tail, filter_has, find_lacks, map_has, flat_has}

module _ {A : Type 0} where
  -- if no last element passes, none is left of a filter
  pub last-none : (p : A → Bool) (xs : List A) (x : A) → find p (reverse xs) ≡ None → Contains (filter p xs) x → ⊥
  last-none p xs x e h = let parts = filter_has p xs x h in find_lacks p (reverse xs) x e (in-reverse xs x parts.0) parts.1
    where
      in-reverse : (xs : List A) (x : A) → Contains xs x → Contains (reverse xs) x
      in-reverse [] x h = h
      in-reverse (z ∷ xs) x h =
          subst (λ ys. Contains ys x) (sym (reverse-append (z ∷ []) xs))
          (elim (has_read z xs x h) [
            | inl same ↦ Contains-append_right (reverse xs) (z ∷ []) x (subst (λ k. Contains (z ∷ []) k) same (has_head z []))
            | inr more ↦ Contains-append_left (reverse xs) (z ∷ []) x (in-reverse xs x more)
          ])

-- the element at a place is a member
pub get-has : {A : Type 0} (xs : List A) (i : ℕ) (x : A) → slice_get xs i ≡ Some x → Contains xs x
get-has [] i x e = cc
get-has (y ∷ xs) zero x e = let same : y ≡ x = cc in subst (λ z. Contains (z ∷ xs) x) (sym same) (has_head x xs)
get-has (y ∷ xs) (suc i) x e = has_tail y xs x (get-has xs i x e)

module _ {A B : Type 0} (f : A → B) where
  -- what a member of a mapped list is the image of
  pub record IsImage (xs : List A) (y : B) : Type 0 where
    pub of : A
    pub has : Contains xs of
    pub is : f of ≡ y

  -- a member of a mapped list is the image of a member
  pub map-has : (xs : List A) (y : B) → Contains (map f xs) y → IsImage xs y
  map-has xs y h = let image = map_has f xs y h in record { of = image.0; has = image.1; is = image.2 }

module _ {A B : Type 0} (g : A → List B) where
  -- a member of the lists put together is one of some member's list
  pub flat-has : (xs : List A) (y : B) → Contains (flat_map g xs) y → (x : A) × (Contains xs x × Contains (g x) y)
  flat-has xs y h = let from = flat_has g xs y h in (from.0, (from.1, from.2))

-- a list that has something is one of the lists
pub within-list : {A : Type 0} (xss : List (List A)) (i : ℕ) (y : A) → Contains (get_or xss i []) y → i < length xss
within-list [] i y h = absurd (has_none y h)
within-list (xs ∷ xss) zero y h = omega arith
within-list (xs ∷ xss) (suc i) y h = let lt = within-list xss i y h in omega (arith, lt)

-- images that come back are what they were made of
pub made-back : {A B : Type 0} (f : A → B) (g : B → A) → ((x : B) → f (g x) ≡ x) → (xs : List B) → map f (map g xs) ≡ xs
made-back f g same [] = refl
made-back f g same (x ∷ xs) = ap (λ y. y ∷ map f (map g xs)) (same x) ∙ ap (λ ys. x ∷ ys) (made-back f g same xs)
