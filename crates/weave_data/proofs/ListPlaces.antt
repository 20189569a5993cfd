-- Facts in turn and of each, from what holds at each place.
-- Used by 8 crates above.
use Rattle.std.proofs.Common.{◌≡◌, Bool, true, false, not, ◌||◌, List, [], ◌∷◌, ◌++◌, Contains, IsTrue, refl, ◌∙◌}
use Rattle.std.specs.List.{AllByRecursion, list_all}
use Rattle.std.proofs.lemmas.Bool.{and_from}
use Rattle.weave_data.proofs.Members.{has_head, has_tail}
use Rattle.weave_data.specs.Facts.{AllHold, facts_after, facts_in_turn, facts_of_each}
use Rattle.weave_data.proofs.Lists.{append-step}

module _ {A : Type 0} where
  -- what holds at each place from here on holds in turn
  pub facts-from : (F : List A → A → Type 0) (xs before rest : List A) → xs ≡ before ++ rest
      → ((before : List A) (x : A) (after : List A) → xs ≡ before ++ x ∷ after → F before x) → AllHold (facts_after before F rest)
  facts-from F xs before [] is f = tt
  facts-from F xs before (x ∷ rest) is f =
      (f before x rest is, facts-from F xs (before ++ x ∷ []) rest (is ∙ append-step before x rest) f)

  -- what holds at each cut of a list holds in turn
  pub facts-hold : (F : List A → A → Type 0) (xs : List A)
      → ((before : List A) (x : A) (after : List A) → xs ≡ before ++ x ∷ after → F before x) → AllHold (facts_in_turn F xs)
  facts-hold F xs f = facts-from F xs [] xs refl f

  -- what holds of each element holds of each
  pub each-holds : (F : A → Type 0) (xs : List A) → ((x : A) → Contains xs x → F x) → AllHold (facts_of_each F xs)
  each-holds F [] f = tt
  each-holds F (x ∷ xs) f = (f x (has_head x xs), each-holds F xs (λ y h. f y (has_tail x xs y h)))

  -- what holds of each member holds of each
  pub all-from : (P : A → Type 0) (xs : List A) → ((x : A) → Contains xs x → P x) → AllByRecursion P xs
  all-from P [] f = tt
  all-from P (x ∷ xs) f = (f x (has_head x xs), all-from P xs (λ y h. f y (has_tail x xs y h)))

  -- a test that each member passes is passed by the list
  pub list-all-from : (p : A → Bool) (xs : List A) → ((x : A) → Contains xs x → IsTrue (p x)) → IsTrue (list_all p xs)
  list-all-from p [] f = refl
  list-all-from p (x ∷ xs) f = and_from _ _ (f x (has_head x xs)) (list-all-from p xs (λ y h. f y (has_tail x xs y h)))

-- either the test fails, or the other holds
pub unless : (b c : Bool) → (IsTrue b → IsTrue c) → IsTrue (not b || c)
unless true c f = f refl
unless false c f = refl

-- what isn't true is false
pub not-true : (b : Bool) → ¬ IsTrue b → IsTrue (not b)
not-true true f = absurd (f refl)
not-true false f = refl
