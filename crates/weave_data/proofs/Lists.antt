-- Lists, by recursion.
-- Used by FactsLaws, ListPlaces and 16 crates above.
use Rattle.std.proofs.Common.{◌≡◌, ◌≢◌, ℕ, zero, suc, ◌<◌, Bool, true, false, cond, List, [], ◌∷◌, ◌++◌, IsTrue, length, refl, sym, ap, subst, Option, Some, None, inl, inr, arith}
use Rattle.std.specs.Prelude.{slice_get, slice_set, find}
use Rattle.std.specs.List.{filter, list_all, list_any, filter_map, cons_option, AllByRecursion}
use Rattle.std.proofs.lemmas.Bool.{and_from, or_cases, both_ways, and_parts}
use Rattle.std.proofs.lemmas.List.{length-set, get_or-set_same}
use Rattle.std.proofs.lemmas.Option.{slice_get_read}

module _ {A : Type 0} where
  -- what is true of each element of two lists is true of each of both together
  pub all-append : (P : A → Type 0) (xs ys : List A) → AllByRecursion P xs → AllByRecursion P ys → AllByRecursion P (xs ++ ys)
  all-append P [] ys g h = h
  all-append P (x ∷ xs) ys g h = (g.0, all-append P xs ys g.1 h)

  -- and so it is with one element more
  pub all-push : (P : A → Type 0) (xs : List A) (x : A) → AllByRecursion P xs → P x → AllByRecursion P (xs ++ x ∷ [])
  all-push P xs x h k = all-append P xs (x ∷ []) h (k, tt)

  -- what follows from a fact of each element is true of each
  pub all-map : (P Q : A → Type 0) → ((x : A) → P x → Q x) → (xs : List A) → AllByRecursion P xs → AllByRecursion Q xs
  all-map P Q f [] h = h
  all-map P Q f (x ∷ xs) h = (f x h.0, all-map P Q f xs h.1)

  -- a test that each element passes is passed by the list
  pub list_all-from : (p : A → Bool) (xs : List A) → AllByRecursion (λ x. IsTrue (p x)) xs → IsTrue (list_all p xs)
  list_all-from p [] h = refl
  list_all-from p (x ∷ xs) h = and_from _ _ h.0 (list_all-from p xs h.1)

  -- and each element passes a test that the list passes
  pub each_from : (test : A → Bool) (P : A → Type 0) → ((x : A) → IsTrue (test x) → P x) → (xs : List A) → IsTrue (list_all test xs) → AllByRecursion P xs
  each_from test P f [] h = tt
  each_from test P f (x ∷ xs) h = let parts = and_parts (test x) (list_all test xs) h in (f x parts.0, each_from test P f xs parts.1)

  -- what is true of each element is true of the first that passes
  pub all-find : (P : A → Type 0) (p : A → Bool) (xs : List A) (x : A) → AllByRecursion P xs → find p xs ≡ Some x → P x × IsTrue (p x)
  all-find P p [] x h e = cc
  all-find P p (z ∷ xs) x h e = at (p z) refl (all-find P p xs x h.1) e
    where
      at : (b : Bool) → p z ≡ b → (find p xs ≡ Some x → P x × IsTrue (p x)) → cond b (Some z) (find p xs) ≡ Some x → P x × IsTrue (p x)
      at true t rest g = let same : z ≡ x = cc in (subst P same h.0, subst (λ k. IsTrue (p k)) same t)
      at false t rest g = rest g

  -- if no element passes, the list has none that does
  pub none_passes : (p : A → Bool) (xs : List A) → AllByRecursion (λ x. p x ≡ false) xs → ¬ IsTrue (list_any p xs)
  none_passes p [] h g = cc
  none_passes p (x ∷ xs) h g =
      elim (or_cases (p x) _ g) [ inl here ↦ both_ways _ h.0 here | inr more ↦ none_passes p xs h.1 more ]

  -- at each place below the length of a list there is an element
  pub get-some : (xs : List A) (j : ℕ) → j < length xs → (x : A) × (slice_get xs j ≡ Some x)
  get-some [] j within = absurd (omega (arith, within))
  get-some (x ∷ xs) zero within = (x, refl)
  get-some (x ∷ xs) (suc j) within = get-some xs j (omega (arith, within))

  -- the element after a list of this length
  pub get-here : (xs : List A) (x : A) (ys : List A) → slice_get (xs ++ x ∷ ys) (length xs) ≡ Some x
  get-here [] x ys = refl
  get-here (z ∷ xs) x ys = get-here xs x ys

  -- an element stays in its place when more follow
  pub get_kept : (xs ys : List A) (place : ℕ) (x : A) → slice_get xs place ≡ Some x
      → slice_get (xs ++ ys) place ≡ Some x
  get_kept [] ys place x is = absurd cc
  get_kept (first ∷ xs) ys zero x is = is
  get_kept (first ∷ xs) ys (suc place) x is = get_kept xs ys place x is

  -- what was written at a place is there
  pub get_set_here : (xs : List A) (place : ℕ) (x : A) → place < length xs
      → slice_get (slice_set xs place x) place ≡ Some x
  get_set_here xs place x within = slice_get_read (slice_set xs place x) _ place x refl
      (omega (arith, length-set xs place x)) (sym (get_or-set_same xs place x x within))

  -- and at the other places there is what was there
  pub get_set_other : (xs : List A) (place other : ℕ) (x : A) → other ≢ place
      → slice_get (slice_set xs place x) other ≡ slice_get xs other
  get_set_other [] place other x differ = refl
  get_set_other (y ∷ xs) zero zero x differ = absurd (differ refl)
  get_set_other (y ∷ xs) zero (suc other) x differ = refl
  get_set_other (y ∷ xs) (suc place) zero x differ = refl
  get_set_other (y ∷ xs) (suc place) (suc other) x differ = get_set_other xs place other x (λ e. differ (ap suc e))

  -- the first element of the second list goes to the end of the first
  pub append-step : (xs : List A) (x : A) (ys : List A) → xs ++ x ∷ ys ≡ (xs ++ x ∷ []) ++ ys
  append-step [] x ys = refl
  append-step (z ∷ xs) x ys = ap (λ zs. z ∷ zs) (append-step xs x ys)

  -- one element more is one more in length
  pub length-step : (xs : List A) (x : A) → length (xs ++ x ∷ []) ≡ suc (length xs)
  length-step [] x = refl
  length-step (z ∷ xs) x = ap suc (length-step xs x)

  -- if no element gives anything, nothing is left
  pub filter_map-none : {B : Type 0} (f : A → Option B) (xs : List A) → AllByRecursion (λ x. f x ≡ None) xs → filter_map f xs ≡ []
  filter_map-none f [] h = refl
  filter_map-none f (x ∷ xs) h = subst (λ o. cons_option o (filter_map f xs) ≡ []) (sym h.0) (filter_map-none f xs h.1)

  -- if no element passes, none is left
  pub filter-none : (p : A → Bool) (xs : List A) → AllByRecursion (λ x. p x ≡ false) xs → filter p xs ≡ []
  filter-none p [] h = refl
  filter-none p (x ∷ xs) h = subst (λ b. cond b (x ∷ filter p xs) (filter p xs) ≡ []) (sym h.0) (filter-none p xs h.1)

  -- if each element passes, all are left
  pub filter-all : (p : A → Bool) (xs : List A) → AllByRecursion (λ x. IsTrue (p x)) xs → filter p xs ≡ xs
  filter-all p [] h = refl
  filter-all p (x ∷ xs) h = subst (λ b. cond b (x ∷ filter p xs) (filter p xs) ≡ x ∷ xs) (sym h.0) (ap (λ ys. x ∷ ys) (filter-all p xs h.1))

-- if a test and what follows it give nothing, neither does
pub none-of_both : {A : Type 0} (b : Bool) (x : A) (rest : Option A) → cond b (Some x) rest ≡ None → (b ≡ false) × (rest ≡ None)
none-of_both true x rest h = absurd cc
none-of_both false x rest h = (refl, h)
