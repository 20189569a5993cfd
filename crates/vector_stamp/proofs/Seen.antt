-- How many of a vertex's updates a program sees.
-- Used by `the_last_update_read_is_seen` and 5 crates above.
use Rattle.std.proofs.Common.{◌≡◌, ℕ, zero, suc, ◌+◌, ◌≤◌, Bool, true, false, List, [], ◌∷◌, length, slice_get, IsTrue, Some, ◌⊎◌, inl, inr, refl, sym, ap, subst, ◌∙◌, add-one, arith}
use Rattle.std.specs.Option.{IsSomeAnd}
use Rattle.vector_stamp.specs.declared.clock.Stamp.{Stamp}
use Rattle.vector_stamp.specs.Seeing.{with_front, last_place, last_seen}

module _ {A : Type 0} (test : A → Bool) where
  front-within : (b : Bool) (place many : ℕ) → place ≤ many → with_front b place ≤ many + 1
  front-within true zero many h = omega arith
  front-within false zero many h = omega arith
  front-within b (suc place) many h = omega arith

  -- the place is in the list
  pub place-within : (xs : List A) → last_place test xs ≤ length xs
  place-within [] = omega arith
  place-within (x ∷ xs) = let h = front-within (test x) (last_place test xs) (length xs) (place-within xs) in omega arith

  -- the element at the place passes
  pub place-passes : (xs : List A) (before : ℕ) (x : A) → last_place test xs ≡ suc before → slice_get xs before ≡ Some x → IsTrue (test x)
  place-passes [] before x is at = absurd (cc)
  place-passes (y ∷ ys) before x is at = from (last_place test ys) (test y) refl (λ earlier e. place-passes ys earlier x e) before is at refl
    where
      from : (place : ℕ) (b : Bool) → last_place test ys ≡ place → ((earlier : ℕ) → last_place test ys ≡ suc earlier → slice_get ys earlier ≡ Some x → IsTrue (test x))
          → (before : ℕ) → with_front b place ≡ suc before → slice_get (y ∷ ys) before ≡ Some x → test y ≡ b → IsTrue (test x)
      from zero true e rest zero is at b_is = let same : y ≡ x = cc in subst (λ z. test z ≡ true) same b_is
      from zero true e rest (suc before) is at b_is = absurd (omega (arith, is))
      from zero false e rest before is at b_is = absurd (omega (arith, is))
      from (suc place) b e rest zero is at b_is = absurd (omega (arith, is))
      from (suc place) b e rest (suc before) is at b_is = rest before (e ∙ omega (arith, is)) at

  -- there is an element at the place, and it passes
  pub place-some : (xs : List A) (n : ℕ) → last_place test xs ≡ suc n → IsSomeAnd (slice_get xs n) (λ x. IsTrue (test x))
  place-some [] n e = absurd (omega (arith, e))
  place-some (x ∷ xs) n e = at (last_place test xs) (test x) refl (λ k is. place-some xs k is) n e
    where
      at : (place : ℕ) (front : Bool) → test x ≡ front
          → ((k : ℕ) → place ≡ suc k → IsSomeAnd (slice_get xs k) (λ y. IsTrue (test y)))
          → (n : ℕ) → with_front front place ≡ suc n → IsSomeAnd (slice_get (x ∷ xs) n) (λ y. IsTrue (test y))
      at zero true passes rest zero e = passes
      at zero true passes rest (suc n) e = absurd (omega (arith, e))
      at zero false passes rest n e = absurd (omega (arith, e))
      at (suc k) front passes rest zero e = absurd (omega (arith, e))
      at (suc k) front passes rest (suc n) e = rest n (omega (arith, e))

  -- and none after it does
  pub none-after : (xs : List A) (place : ℕ) (x : A) → last_place test xs ≤ place → slice_get xs place ≡ Some x → test x ≡ false
  none-after [] place x past at = absurd (cc)
  none-after (y ∷ ys) place x past at = from (last_place test ys) (test y) refl (λ earlier. none-after ys earlier x) place past at refl
    where
      from : (seen : ℕ) (b : Bool) → last_place test ys ≡ seen → ((earlier : ℕ) → last_place test ys ≤ earlier → slice_get ys earlier ≡ Some x → test x ≡ false)
          → (place : ℕ) → with_front b seen ≤ place → slice_get (y ∷ ys) place ≡ Some x → test y ≡ b → test x ≡ false
      from zero true e rest zero past at b_is = absurd (omega (arith, past))
      from zero false e rest zero past at b_is = let same : y ≡ x = cc in subst (λ z. test z ≡ false) same b_is
      from zero b e rest (suc place) past at b_is = rest place (omega (arith, e)) at
      from (suc seen) b e rest zero past at b_is = absurd (omega (arith, past))
      from (suc seen) b e rest (suc place) past at b_is = rest place (omega (arith, e, past)) at

-- the last of the first n + 1 updates
pub last-is : (n : ℕ) (updates : List Stamp) (update : Stamp) → slice_get updates n ≡ Some update → last_seen (suc n) updates ≡ update ∷ []
last-is n [] update at = absurd (cc)
last-is zero (first ∷ updates) update at = let same : first ≡ update = cc in ap (λ (s : Stamp). s ∷ []) same
last-is (suc n) (first ∷ updates) update at = last-is n updates update at

-- what was seen last is one update, or none
pub last-cases : (n : ℕ) (updates : List Stamp) → (last_seen n updates ≡ []) ⊎ ((update : Stamp) × (last_seen n updates ≡ update ∷ []))
last-cases zero updates = inl refl
last-cases (suc n) [] = inl refl
last-cases (suc zero) (update ∷ updates) = inr (update, refl)
last-cases (suc (suc n)) (update ∷ updates) = last-cases (suc n) updates
