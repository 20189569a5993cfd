-- Lists of which one element is set, or to which one is added, and their images.
-- Used by `apply`, `arrive`, `author`, `begin`, `begun`, `collect`, `fetch`, `finish`, `first_unanswered_of`,
-- `flight`, `hear`, `is_open`, `kept`, `last`, `next_number`, `nop`, `outcome`, `put`, `raise`, `replied`,
-- `replies_of`, `reply`, `reserve`, `restart`, `say`, `send`, `standing`, `take`, `visit`, `was_ended`, AtClients,
-- AtGates, AtShards, Parts, RepliesMore and Unanswered.
use Rattle.std.proofs.Common.{◌≡◌, ◌⊎◌, ℕ, zero, suc, ◌+◌, ◌<◌, List, [], ◌∷◌, ◌++◌, length, map, replicate, get_or, Some, inl, inr, refl, sym, ap, subst, ◌∙◌, arith}
use Rattle.std.specs.Prelude.{slice_get, slice_set}
use Rattle.std.proofs.lemmas.Bool.{cases_eq}
use Rattle.std.proofs.lemmas.List.{get_or-map, length-map, map-append, map-set, replicate-append-replicate, set-get_or}
use Rattle.std.proofs.lemmas.Option.{get_or_from_slice_get, slice_get_read, slice_get_within}
use Rattle.weave_data.proofs.Lists.{get_set_here, get_set_other}

-- One element

-- the element that was read at a place
pub read-at : {A : Type 0} (xs : List A) (i : ℕ) (x : A) → i < length xs → x ≡ get_or xs i x → slice_get xs i ≡ Some x
read-at xs i x within is = slice_get_read xs _ i x refl within is

-- a place of the image is one of the list
pub within-image : {A B : Type 0} (f : A → B) (xs : List A) (i : ℕ) → i < length (map f xs) → i < length xs
within-image f xs i within = let same = length-map xs f in omega (arith, within, same)

-- what holds at each place holds at each when one is set to what it holds of
pub each-set : {A : Type 0} (P : ℕ → A → Type 0) (xs : List A) (i : ℕ) (y : A) → i < length xs → ((j : ℕ) (z : A) → slice_get xs j ≡ Some z → P j z) → P i y
    → (j : ℕ) (z : A) → slice_get (slice_set xs i y) j ≡ Some z → P j z
each-set P xs i y within each here j z at = elim (cases_eq j i) [
  | inl same ↦
      let there : slice_get (slice_set xs i y) j ≡ Some y = ap (slice_get (slice_set xs i y)) same ∙ get_set_here xs i y within in
      let e : Some y ≡ Some z = sym there ∙ at in
      let is : y ≡ z = cc in
      subst (λ n. P n z) (sym same) (subst (P i) is here)
  | inr differ ↦ each j z (sym (get_set_other xs i j y differ) ∙ at)
]

-- an element of a list with one more is of the list, or that one
at-or-last : {A : Type 0} (xs : List A) (y : A) (i : ℕ) (x : A) → slice_get (xs ++ y ∷ []) i ≡ Some x → (slice_get xs i ≡ Some x) ⊎ ((i ≡ length xs) × (y ≡ x))
at-or-last [] y zero x at = inr (refl, cc)
at-or-last [] y (suc i) x at = inl at
at-or-last (z ∷ xs) y zero x at = inl at
at-or-last (z ∷ xs) y (suc i) x at = elim (at-or-last xs y i x at) [ inl there ↦ inl there | inr last ↦ inr (ap suc last.0, last.1) ]

-- what holds of each element with its place, and of one more with its place, holds of all
pub each-push : {A : Type 0} (P : ℕ → A → Type 0) (xs : List A) (y : A) → ((j : ℕ) (z : A) → slice_get xs j ≡ Some z → P j z) → P (length xs) y
    → (j : ℕ) (z : A) → slice_get (xs ++ y ∷ []) j ≡ Some z → P j z
each-push P xs y each here j z at = elim (at-or-last xs y j z at) [
  | inl there ↦ each j z there
  | inr last ↦ subst (λ n. P n z) (sym last.0) (subst (P (length xs)) last.1 here)
]

-- Images

module _ {A B : Type 0} (f : A → B) (xs : List A) (i : ℕ) (x : A) (at : slice_get xs i ≡ Some x) where
  -- the image of a list has an element's image at the element's place
  pub image-at : (d : B) → get_or (map f xs) i d ≡ f x
  image-at d = get_or-map f xs i x d (slice_get_within xs i x at) ∙ ap f (get_or_from_slice_get xs i x x at)

  -- the image stays if that of the new element is that of the old one
  pub image-rests : (y : A) → f y ≡ f x → map f (slice_set xs i y) ≡ map f xs
  image-rests y same = map-set f xs i y ∙ ap (slice_set (map f xs) i) (same ∙ sym (image-at (f x))) ∙ set-get_or (map f xs) i (f x)

  -- if a new element's image is a change of the old one's, the list's image changes by it at that place
  pub image-changes : (change : B → B) (d : B) (y : A) → f y ≡ change (f x) → map f (slice_set xs i y) ≡ slice_set (map f xs) i (change (get_or (map f xs) i d))
  image-changes change d y is = map-set f xs i y ∙ ap (slice_set (map f xs) i) (is ∙ ap change (sym (image-at d)))

-- one more element that is like the others
pub image-push : {A B : Type 0} (f : A → B) (xs : List A) (y : A) (b : B) (n : ℕ) → map f xs ≡ replicate n b → f y ≡ b → map f (xs ++ y ∷ []) ≡ replicate (n + 1) b
image-push f xs y b n so_far is = map-append f xs (y ∷ []) ∙ (λ i. so_far i ++ is i ∷ []) ∙ replicate-append-replicate n 1 b
