-- Lists of numbers: which numbers are in them, and lists in which each number has a relation to each later one. Two of
-- these with the same members are one list.
-- Used by Counting and 7 crates above.
use Rattle.std.proofs.Common.{◌≡◌, ℕ, Bool, true, false, cond, nat_eq, List, [], ◌∷◌, ◌++◌, Contains, IsTrue, ◌⊎◌, inl, inr, refl, sym, subst}
use Rattle.std.specs.Prelude.{⊤}
use Rattle.std.specs.List.{AllByRecursion, filter, list_any}
use Rattle.weave_data.proofs.Members.{has_none, has_read, has_head, has_tail}
use Rattle.std.proofs.lemmas.Bool.{or_cases, or_left, or_right, eq-eqb, eqb-true, both_ways}

-- each element has the relation to each later one
abbrev pub IsSorted : (ℕ → ℕ → Type 0) → List ℕ → Type 0
IsSorted R [] = ⊤
IsSorted R (x ∷ xs) = ((y : ℕ) → IsTrue (list_any (nat_eq y) xs) → R x y) × IsSorted R xs

-- two lists have the same members
abbrev pub HaveSame : List ℕ → List ℕ → Type 0
HaveSame xs ys = (n : ℕ) → (IsTrue (list_any (nat_eq n) xs) → IsTrue (list_any (nat_eq n) ys)) × (IsTrue (list_any (nat_eq n) ys) → IsTrue (list_any (nat_eq n) xs))

-- Members

-- the first number is in the list
pub in-head : (x : ℕ) (xs : List ℕ) → IsTrue (list_any (nat_eq x) (x ∷ xs))
in-head x xs = or_left _ _ (eq-eqb x x refl)

-- a number of the rest is in the list
pub in-tail : (n x : ℕ) (xs : List ℕ) → IsTrue (list_any (nat_eq n) xs) → IsTrue (list_any (nat_eq n) (x ∷ xs))
in-tail n x xs h = or_right (nat_eq n x) _ h

-- a number of a list is its first one, or in the rest
pub in-cases : (n x : ℕ) (xs : List ℕ) → IsTrue (list_any (nat_eq n) (x ∷ xs)) → (n ≡ x) ⊎ IsTrue (list_any (nat_eq n) xs)
in-cases n x xs h = elim (or_cases (nat_eq n x) _ h) [ inl same ↦ inl (eqb-true n x same) | inr more ↦ inr more ]

-- a number of the first list is in both together
pub in-append_left : (n : ℕ) (xs ys : List ℕ) → IsTrue (list_any (nat_eq n) xs) → IsTrue (list_any (nat_eq n) (xs ++ ys))
in-append_left n [] ys h = cc
in-append_left n (x ∷ xs) ys h =
    elim (in-cases n x xs h) [ inl same ↦ or_left _ _ (eq-eqb n x same) | inr more ↦ in-tail n x _ (in-append_left n xs ys more) ]

-- a number of the second list is in both together
pub in-append_right : (n : ℕ) (xs ys : List ℕ) → IsTrue (list_any (nat_eq n) ys) → IsTrue (list_any (nat_eq n) (xs ++ ys))
in-append_right n [] ys h = h
in-append_right n (x ∷ xs) ys h = in-tail n x _ (in-append_right n xs ys h)

-- and each one is of the first or the second
pub in-append_cases : (n : ℕ) (xs ys : List ℕ) → IsTrue (list_any (nat_eq n) (xs ++ ys)) → IsTrue (list_any (nat_eq n) xs) ⊎ IsTrue (list_any (nat_eq n) ys)
in-append_cases n [] ys h = inr h
in-append_cases n (x ∷ xs) ys h =
    elim (in-cases n x (xs ++ ys) h) [
      | inl same ↦ inl (or_left _ _ (eq-eqb n x same))
      | inr more ↦ elim (in-append_cases n xs ys more) [ inl l ↦ inl (in-tail n x xs l) | inr r ↦ inr r ]
    ]

-- a number that passes is left of a filter
pub in-filter : (p : ℕ → Bool) (n : ℕ) (xs : List ℕ) → IsTrue (list_any (nat_eq n) xs) → IsTrue (p n) → IsTrue (list_any (nat_eq n) (filter p xs))
in-filter p n [] h t = cc
in-filter p n (x ∷ xs) h t = at (p x) refl (in-cases n x xs h) (λ more. in-filter p n xs more t)
  where
    at : (b : Bool) → p x ≡ b → (n ≡ x) ⊎ IsTrue (list_any (nat_eq n) xs) → (IsTrue (list_any (nat_eq n) xs) → IsTrue (list_any (nat_eq n) (filter p xs)))
        → IsTrue (list_any (nat_eq n) (cond b (x ∷ filter p xs) (filter p xs)))
    at true e (inl same) rest = or_left _ _ (eq-eqb n x same)
    at true e (inr more) rest = in-tail n x _ (rest more)
    at false e (inl same) rest = absurd (both_ways _ e (subst (λ k. IsTrue (p k)) same t))
    at false e (inr more) rest = rest more

-- what is left of a filter was there, and passes
pub filter-in : (p : ℕ → Bool) (n : ℕ) (xs : List ℕ) → IsTrue (list_any (nat_eq n) (filter p xs)) → IsTrue (list_any (nat_eq n) xs) × IsTrue (p n)
filter-in p n [] h = cc
filter-in p n (x ∷ xs) h = at (p x) refl (filter-in p n xs) h
  where
    at : (b : Bool) → p x ≡ b → (IsTrue (list_any (nat_eq n) (filter p xs)) → IsTrue (list_any (nat_eq n) xs) × IsTrue (p n))
        → IsTrue (list_any (nat_eq n) (cond b (x ∷ filter p xs) (filter p xs))) → IsTrue (list_any (nat_eq n) (x ∷ xs)) × IsTrue (p n)
    at false e rest g = let r = rest g in (in-tail n x xs r.0, r.1)
    at true e rest g = elim (in-cases n x (filter p xs) g) [
      | inl same ↦ (or_left _ _ (eq-eqb n x same), subst (λ k. IsTrue (p k)) (sym same) e)
      | inr more ↦ (let r = rest more in (in-tail n x xs r.0, r.1))
    ]

-- a member is in the list
pub in-has : (xs : List ℕ) (n : ℕ) → Contains xs n → IsTrue (list_any (nat_eq n) xs)
in-has [] n h = absurd (has_none n h)
in-has (x ∷ xs) n h =
    elim (has_read x xs n h) [
      | inl same ↦ subst (λ k. IsTrue (list_any (nat_eq n) (k ∷ xs))) (sym same) (in-head n xs)
      | inr more ↦ in-tail n x xs (in-has xs n more)
    ]

-- what is in the list is a member
pub has-in : (xs : List ℕ) (n : ℕ) → IsTrue (list_any (nat_eq n) xs) → Contains xs n
has-in [] n h = cc
has-in (x ∷ xs) n h =
    elim (in-cases n x xs h) [
      | inl same ↦ subst (λ k. Contains (x ∷ xs) k) (sym same) (has_head x xs)
      | inr more ↦ has_tail x xs n (has-in xs n more)
    ]

-- what holds of each number of a list holds of each
pub of-numbers : (P : ℕ → Type 0) (xs : List ℕ) → ((n : ℕ) → IsTrue (list_any (nat_eq n) xs) → P n) → AllByRecursion P xs
of-numbers P [] f = tt
of-numbers P (x ∷ xs) f = (f x (in-head x xs), of-numbers P xs (λ n h. f n (in-tail n x xs h)))

-- Sorted lists

-- what is left of a sorted list is sorted
pub sorted-filter : (R : ℕ → ℕ → Type 0) (p : ℕ → Bool) (xs : List ℕ) → IsSorted R xs → IsSorted R (filter p xs)
sorted-filter R p [] s = tt
sorted-filter R p (x ∷ xs) s = at (p x) (sorted-filter R p xs s.1)
  where
    at : (b : Bool) → IsSorted R (filter p xs) → IsSorted R (cond b (x ∷ filter p xs) (filter p xs))
    at true rest = (λ y h. s.0 y (filter-in p y xs h).0, rest)
    at false rest = rest

-- the first part of a sorted list is sorted
pub sorted-left : (R : ℕ → ℕ → Type 0) (xs ys : List ℕ) → IsSorted R (xs ++ ys) → IsSorted R xs
sorted-left R [] ys s = tt
sorted-left R (x ∷ xs) ys s = (λ y h. s.0 y (in-append_left y xs ys h), sorted-left R xs ys s.1)

-- what is before an element relates to it
pub sorted-at : (R : ℕ → ℕ → Type 0) (xs ys : List ℕ) (x y : ℕ) → IsSorted R (xs ++ ys) → IsTrue (list_any (nat_eq x) xs)
    → IsTrue (list_any (nat_eq y) ys) → R x y
sorted-at R [] ys x y s h g = cc
sorted-at R (z ∷ xs) ys x y s h g =
    elim (in-cases x z xs h) [
      | inl same ↦ subst (λ k. R k y) (sym same) (s.0 y (in-append_right y xs ys g))
      | inr more ↦ sorted-at R xs ys x y s.1 more g
    ]

-- One list

module _ (R : ℕ → ℕ → Type 0) (not-both : (a b : ℕ) → R a b → R b a → ⊥) where
  -- nothing in a sorted list equals its head
  head-once : (x : ℕ) (xs : List ℕ) → IsSorted R (x ∷ xs) → ¬ IsTrue (list_any (nat_eq x) xs)
  head-once x xs s h = not-both x x (s.0 x h) (s.0 x h)

  heads-same : (x y : ℕ) (xs ys : List ℕ) → IsSorted R (x ∷ xs) → IsSorted R (y ∷ ys) → HaveSame (x ∷ xs) (y ∷ ys) → x ≡ y
  heads-same x y xs ys s t same =
      elim (in-cases x y ys ((same x).0 (in-head x xs))) [
        | inl is ↦ is
        | inr later ↦ elim (in-cases y x xs ((same y).1 (in-head y ys))) [
          | inl is ↦ sym is
          | inr other ↦ absurd (not-both x y (s.0 y other) (t.0 x later))
        ]
      ]

  tails-same : (x : ℕ) (xs ys : List ℕ) → IsSorted R (x ∷ xs) → IsSorted R (x ∷ ys) → HaveSame (x ∷ xs) (x ∷ ys) → HaveSame xs ys
  tails-same x xs ys s t same n = (
    (λ h. elim (in-cases n x ys ((same n).0 (in-tail n x xs h))) [ inl is ↦ absurd (head-once x xs s (subst (λ k. IsTrue (list_any (nat_eq k) xs)) is h)) | inr more ↦ more ]),
    (λ h. elim (in-cases n x xs ((same n).1 (in-tail n x ys h))) [ inl is ↦ absurd (head-once x ys t (subst (λ k. IsTrue (list_any (nat_eq k) ys)) is h)) | inr more ↦ more ]),
  )

  -- two sorted lists with the same members are equal
  pub one-list : (xs ys : List ℕ) → IsSorted R xs → IsSorted R ys → HaveSame xs ys → xs ≡ ys
  one-list [] [] s t same = refl
  one-list [] (y ∷ ys) s t same = let none = (same y).1 (in-head y ys) in cc
  one-list (x ∷ xs) [] s t same = let none = (same x).0 (in-head x xs) in cc
  one-list (x ∷ xs) (y ∷ ys) s t same =
      let e = heads-same x y xs ys s t same in
      let s' : IsSorted R (y ∷ xs) = subst (λ k. IsSorted R (k ∷ xs)) e s in
      let same' : HaveSame (y ∷ xs) (y ∷ ys) = subst (λ k. HaveSame (k ∷ xs) (y ∷ ys)) e same in
      let rest = one-list xs ys s.1 t.1 (tails-same y xs ys s' t same') in
      λ i. e i ∷ rest i
