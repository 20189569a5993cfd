-- Laws of facts by place.
-- Used by crates order_witness, report_rules and weave_account.
use Rattle.std.proofs.Common.{◌≡◌, ℕ, zero, suc, ◌+◌, ◌<◌, List, [], ◌∷◌, ◌++◌, length, take, get_or, refl, sym, ap, subst, arith, append-nil}
use Rattle.weave_data.specs.Facts.{Facts, AllHold, BreaksFirstAt, facts_after, facts_in_turn}
use Rattle.weave_data.proofs.Lists.{append-step}

-- if each fact holds, none breaks first
pub none_breaks : (facts : Facts) → AllHold facts → (place : ℕ) → ¬ BreaksFirstAt facts place
none_breaks [] h place breaks = breaks
none_breaks (Fact ∷ facts) h zero breaks = breaks
none_breaks (Fact ∷ facts) h (suc zero) breaks = breaks h.0
none_breaks (Fact ∷ facts) h (suc (suc n)) breaks = none_breaks facts h.1 (suc n) breaks.1

-- one place at most breaks first
pub one_place : (facts : Facts) (m n : ℕ) → BreaksFirstAt facts m → BreaksFirstAt facts n → m ≡ n
one_place [] m n g h = absurd g
one_place (Fact ∷ facts) zero n g h = absurd g
one_place (Fact ∷ facts) (suc zero) zero g h = absurd h
one_place (Fact ∷ facts) (suc zero) (suc zero) g h = refl
one_place (Fact ∷ facts) (suc zero) (suc (suc n)) g h = absurd (g h.0)
one_place (Fact ∷ facts) (suc (suc m)) zero g h = absurd h
one_place (Fact ∷ facts) (suc (suc m)) (suc zero) g h = absurd (h g.0)
one_place (Fact ∷ facts) (suc (suc m)) (suc (suc n)) g h = ap suc (one_place facts (suc m) (suc n) g.1 h.1)

-- if each fact of two lists holds, each of both joined holds
pub hold-append : (xs ys : Facts) → AllHold xs → AllHold ys → AllHold (xs ++ ys)
hold-append [] ys g h = h
hold-append (Fact ∷ xs) ys g h = (g.0, hold-append xs ys g.1 h)

-- A loop over the places: so far each holds

module _ {A : Type 0} (F : List A → A → Type 0) where
  holds_after : (before xs : List A) (i : ℕ) (d : A) → i < length xs → AllHold (facts_after before F (take i xs)) → F (before ++ take i xs) (get_or xs i d) → AllHold (facts_after before F (take (suc i) xs))
  holds_after before [] i d lt h fact = absurd (omega (arith, lt))
  holds_after before (x ∷ xs) zero d lt h fact = (subst (λ b. F b x) (append-nil before) fact, tt)
  holds_after before (x ∷ xs) (suc i) d lt h fact =
      (h.0, holds_after (before ++ x ∷ []) xs i d (omega (arith, lt)) h.1 (subst (λ b. F b (get_or xs i d)) (append-step before x (take i xs)) fact))

  breaks_after : (before xs : List A) (i : ℕ) (d : A) → i < length xs → AllHold (facts_after before F (take i xs)) → ¬ F (before ++ take i xs) (get_or xs i d) → BreaksFirstAt (facts_after before F xs) (suc i)
  breaks_after before [] i d lt h fails = absurd (omega (arith, lt))
  breaks_after before (x ∷ xs) zero d lt h fails = λ fact. fails (subst (λ b. F b x) (sym (append-nil before)) fact)
  breaks_after before (x ∷ xs) (suc i) d lt h fails =
      (h.0, breaks_after (before ++ x ∷ []) xs i d (omega (arith, lt)) h.1 (λ fact. fails (subst (λ b. F b (get_or xs i d)) (sym (append-step before x (take i xs))) fact)))

  -- if each fact before a place holds, and the one at it too, each up to it holds
  pub holds_step : (xs : List A) (i : ℕ) (d : A) → i < length xs → AllHold (facts_in_turn F (take i xs)) → F (take i xs) (get_or xs i d) → AllHold (facts_in_turn F (take (i + 1) xs))
  holds_step xs i d lt h fact = let same : i + 1 ≡ suc i = omega arith in subst (λ n. AllHold (facts_in_turn F (take n xs))) (sym same) (holds_after [] xs i d lt h fact)

  -- if each fact before a place holds, and the one at it doesn't, the clause breaks first there
  pub breaks_at : (xs : List A) (i : ℕ) (d : A) → i < length xs → AllHold (facts_in_turn F (take i xs)) → ¬ F (take i xs) (get_or xs i d) → BreaksFirstAt (facts_in_turn F xs) (i + 1)
  breaks_at xs i d lt h fails = let same : i + 1 ≡ suc i = omega arith in subst (λ n. BreaksFirstAt (facts_in_turn F xs) n) (sym same) (breaks_after [] xs i d lt h fails)
