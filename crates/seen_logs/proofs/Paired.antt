-- Logs as pairs and as records, and accounts of what was seen of the logs of locks.
-- Used by `accounts_have_logs_of_locks` and crate weaver_locks.
use Rattle.std.proofs.Common.{◌≡◌, ℕ, zero, suc, List, [], ◌∷◌, map, get_or, refl, sym, ap, ◌∙◌}
use Rattle.std.proofs.lemmas.List.{map-append}
use Rattle.weave_account.specs.GoesOn.{IsBeginningOf}

-- the list of what was made of lists has at each place what was made of the list there
pub list-at : {A B : Type 0} (f : List A → List B) → f [] ≡ [] → (xss : List (List A)) (i : ℕ) → get_or (map f xss) i [] ≡ f (get_or xss i [])
list-at f none [] i = sym none
list-at f none (xs ∷ xss) zero = refl
list-at f none (xs ∷ xss) (suc i) = list-at f none xss i

-- what was made of each element of a list goes on if the list does
pub begins-made : {A B : Type 0} (f : A → B) (xs ys : List A) → IsBeginningOf xs ys → IsBeginningOf (map f xs) (map f ys)
begins-made f xs ys on = (map f on.0, ap (map f) on.1 ∙ map-append f xs on.0)
