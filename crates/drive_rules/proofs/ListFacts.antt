-- Lists: what is in the first elements of one, numbers in a row, and what some members give.
-- Used by ReadyFor and SomeHead.
use Rattle.std.proofs.Common.{◌≡◌, ℕ, zero, suc, ◌+◌, ◌<◌, ◌≤◌, List, [], ◌∷◌, ◌++◌, take, length, Contains, Option, None, Some, inl, inr, refl, ap, ◌∙◌, arith}
use Rattle.std.specs.List.{filter_map, cons_option, range_with_len}
use Rattle.weave_data.proofs.Members.{has_head, has_none, has_read, has_tail}

-- an element is among the first n, if fewer are before it
pub take-has : {A : Type 0} (n : ℕ) (front : List A) (x : A) (back : List A) → length front < n → Contains (take n (front ++ x ∷ back)) x
take-has zero front x back less = absurd (omega (arith, less))
take-has (suc n) [] x back less = has_head x (take n back)
take-has (suc n) (y ∷ front) x back less = has_tail y (take n (front ++ x ∷ back)) x (take-has n front x back (omega (arith, less)))

-- the first elements of a list are its front
pub take-front : {A : Type 0} (n : ℕ) (front back : List A) → length front ≡ n → take n (front ++ back) ≡ front
take-front zero [] back long = refl
take-front zero (x ∷ front) back long = absurd (omega (arith, long))
take-front (suc n) [] back long = absurd (omega (arith, long))
take-front (suc n) (x ∷ front) back long = ap (λ xs. x ∷ xs) (take-front n front back (omega (arith, long)))

-- what a filter gives was given by a member
pub filter_map-from : {A B : Type 0} (f : A → Option B) (xs : List A) (y : B) → Contains (filter_map f xs) y → (x : A) × Contains xs x × (f x ≡ Some y)
filter_map-from f [] y h = absurd (has_none y h)
filter_map-from {A = A} {B = B} f (z ∷ xs) y h = at (f z) refl (filter_map-from f xs y) h
  where
    later : (x : A) × Contains xs x × (f x ≡ Some y) → (x : A) × Contains (z ∷ xs) x × (f x ≡ Some y)
    later r = (r.0, has_tail z xs r.0 r.1, r.2)

    at : (o : Option B) → f z ≡ o → (Contains (filter_map f xs) y → (x : A) × Contains xs x × (f x ≡ Some y)) → Contains (cons_option o (filter_map f xs)) y → (x : A) × Contains (z ∷ xs) x × (f x ≡ Some y)
    at None e rest h = later (rest h)
    at (Some w) e rest h = elim (has_read w (filter_map f xs) y h) [
      | inl same ↦ (z, has_head z xs, e ∙ ap Some same)
      | inr more ↦ later (rest more)
    ]

-- a number of a row is at least the first, and below the end
pub range-within : (a n y : ℕ) → Contains (range_with_len a n) y → (a ≤ y) × (y < a + n)
range-within a zero y h = absurd (has_none y h)
range-within a (suc n) y h = elim (has_read a (range_with_len (a + 1) n) y h) [
  | inl same ↦ (omega (arith, same), omega (arith, same))
  | inr more ↦ (let r = range-within (a + 1) n y more in let low = r.0 in let high = r.1 in (omega (arith, low), omega (arith, high)))
]
