-- Lists of lists of which one goes on: with nothing more all are as they were, and what one has then it had, or was added.
-- Used by crates weaver_hands and weaver_workers.
use Rattle.std.proofs.Common.{◌≡◌, ◌⊎◌, inl, ℕ, zero, suc, List, [], ◌∷◌, ◌++◌, get_or, set, Contains, refl, ap}
use Rattle.std.proofs.lemmas.List.{append-nil}
use Rattle.std.proofs.lemmas.List.Elements.{Contains-append_cases}

module _ {A : Type 0} where
  -- a list of lists with nothing added to one is the same
  pub set-none : (xss : List (List A)) (place : ℕ) → set xss place (get_or xss place [] ++ []) ≡ xss
  set-none [] place = refl
  set-none (xs ∷ xss) zero = ap (λ ys. ys ∷ xss) (append-nil xs)
  set-none (xs ∷ xss) (suc place) = ap (λ yss. xs ∷ yss) (set-none xss place)

  -- what a list has after one has gone on, it had, or was added
  pub set-has : (xss : List (List A)) (place k : ℕ) (added : List A) (x : A)
      → Contains (get_or (set xss place (get_or xss place [] ++ added)) k []) x → Contains (get_or xss k []) x ⊎ Contains added x
  set-has [] place k added x h = inl h
  set-has (xs ∷ xss) zero zero added x h = Contains-append_cases xs added x h
  set-has (xs ∷ xss) zero (suc k) added x h = inl h
  set-has (xs ∷ xss) (suc place) zero added x h = inl h
  set-has (xs ∷ xss) (suc place) (suc k) added x h = set-has xss place k added x h
