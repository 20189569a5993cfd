-- A loop over the places of a clause: so far each fact holds, and the first that doesn't ends it.
-- Used by `first_fault` and `first_out_of_place`.
use Rattle.std.proofs.Common.{◌≡◌, ℕ, zero, suc, ◌+◌, ◌<◌, List, [], ◌∷◌, ◌++◌, length, take, get_or, refl, sym, ap, subst, arith}
use Rattle.weave_data.specs.Facts.{Facts, AllHold, BreaksFirstAt, facts_after, facts_in_turn, facts_of_each}
use Rattle.weave_data.proofs.FactsLaws.{holds_step, breaks_at, hold-append}

module _ {A : Type 0} (F : List A → A → Type 0) (xs : List A) (i : ℕ) (x : A) (lt : i < length xs) (so_far : AllHold (facts_in_turn F (take i xs))) (is : x ≡ get_or xs i x) where
  -- if the facts before a place hold, and the one at it does, all up to it hold
  pub turn_step : F (take i xs) x → AllHold (facts_in_turn F (take (i + 1) xs))
  turn_step fact = holds_step F xs i x lt so_far (subst (F (take i xs)) is fact)

  -- if the facts before a place hold, and the one at it doesn't, they break first there
  pub turn_breaks : ¬ F (take i xs) x → BreaksFirstAt (facts_in_turn F xs) (i + 1)
  turn_breaks fails = breaks_at F xs i x lt so_far (λ fact. fails (subst (F (take i xs)) (sym is) fact))

module _ {A : Type 0} (F : A → Type 0) where
  -- facts of each are facts in turn that look at none before
  as_turn : (before xs : List A) → facts_after before (λ _ x. F x) xs ≡ facts_of_each F xs
  as_turn before [] = refl
  as_turn before (x ∷ xs) = ap (λ (facts : Facts). F x ∷ facts) (as_turn (before ++ x ∷ []) xs)

  module _ (xs : List A) (i : ℕ) (x : A) (lt : i < length xs) (so_far : AllHold (facts_of_each F (take i xs))) (is : x ≡ get_or xs i x) where
    before_this : AllHold (facts_in_turn (λ _ y. F y) (take i xs))
    before_this = subst AllHold (sym (as_turn [] (take i xs))) so_far

    -- the same of facts that look at one element each: if the one at the place holds, all up to it hold
    pub each_step : F x → AllHold (facts_of_each F (take (i + 1) xs))
    each_step fact = subst AllHold (as_turn [] (take (i + 1) xs)) (turn_step (λ _ y. F y) xs i x lt before_this is fact)

    -- and if the one at the place doesn't hold, they break first there
    pub each_breaks : ¬ F x → BreaksFirstAt (facts_of_each F xs) (i + 1)
    each_breaks fails = subst (λ (facts : Facts). BreaksFirstAt facts (i + 1)) (as_turn [] xs) (turn_breaks (λ _ y. F y) xs i x lt before_this is fails)

-- One more fact after those of a list

still_breaks : (facts more : Facts) (place : ℕ) → BreaksFirstAt facts place → BreaksFirstAt (facts ++ more) place
still_breaks [] more place h = absurd h
still_breaks (Fact ∷ facts) more zero h = absurd h
still_breaks (Fact ∷ facts) more (suc zero) h = h
still_breaks (Fact ∷ facts) more (suc (suc n)) h = (h.0, still_breaks facts more (suc n) h.1)

last_breaks : (facts : Facts) (Last : Type 0) → AllHold facts → ¬ Last → BreaksFirstAt (facts ++ Last ∷ []) (suc (length facts))
last_breaks [] Last h fails = fails
last_breaks (Fact ∷ facts) Last h fails = (h.0, last_breaks facts Last h.1 fails)

module _ {A : Type 0} (F : List A → A → Type 0) (Last : Type 0) (xs : List A) where
  length-turn : (before ys : List A) → length (facts_after before F ys) ≡ length ys
  length-turn before [] = refl
  length-turn before (y ∷ ys) = ap suc (length-turn (before ++ y ∷ []) ys)

  -- with one more fact at the end, the facts of a list break first where they did
  pub within_breaks : (place : ℕ) → BreaksFirstAt (facts_in_turn F xs) place → BreaksFirstAt (facts_in_turn F xs ++ Last ∷ []) place
  within_breaks place h = still_breaks (facts_in_turn F xs) (Last ∷ []) place h

  -- if they hold and the last one doesn't, they break first at the place after the list
  pub end_breaks : AllHold (facts_in_turn F xs) → ¬ Last → BreaksFirstAt (facts_in_turn F xs ++ Last ∷ []) (length xs + 1)
  end_breaks h fails =
      let same : length xs + 1 ≡ suc (length (facts_in_turn F xs)) = omega (arith, length-turn [] xs) in
      subst (λ n. BreaksFirstAt (facts_in_turn F xs ++ Last ∷ []) n) (sym same) (last_breaks (facts_in_turn F xs) Last h fails)

  -- if they hold and the last one does, all hold
  pub all_hold : AllHold (facts_in_turn F xs) → Last → AllHold (facts_in_turn F xs ++ Last ∷ [])
  all_hold h last = hold-append (facts_in_turn F xs) (Last ∷ []) h (last, tt)
