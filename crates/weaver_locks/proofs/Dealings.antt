-- With a hand of the next lower number at the end, the hands are still dealt from the highest number down.
-- Used by `deal_hands`.
use Rattle.std.proofs.Common.{◌≡◌, ℕ, ◌+◌, ◌-◌, ◌<◌, List, [], ◌∷◌, ◌++◌, length, get_or, sym, subst, arith}
use Rattle.std.proofs.lemmas.List.{get_or_append_left}
use mathlib.Core.Logic.{dite}
use native.Mathlib.Decide.{ℕ_discrete}
use Rattle.lock_row.proofs.Lists.{last}
use Rattle.weaver_locks.specs.declared.hand.Hand.{Hand}
use Rattle.weaver_locks.specs.declared.locks.Locks.{Locks}
use Rattle.weaver_locks.specs.Opened.{IsNewHand}

module _ (locks : Locks) (count : ℕ) where
  -- these hands have the highest numbers, from the last down
  abbrev pub DealtSoFar : List Hand → ℕ → Type 0
  DealtSoFar hands i = (k : ℕ) (h : Hand) → k < i → IsNewHand locks (count - 1 - k) (get_or hands k h)

  -- with the new hand of the next lower number at the end, one hand more is dealt, from the last number down
  pub dealt_more : (hands : List Hand) (i : ℕ) (hand : Hand) → length hands ≡ i → DealtSoFar hands i
      → IsNewHand locks (count - 1 - i) hand → DealtSoFar (hands ++ hand ∷ []) (i + 1)
  dealt_more hands i hand long so_far one k h below = dite (ℕ_discrete k i)
      (λ e. subst (λ (j : ℕ). IsNewHand locks (count - 1 - j) (get_or (hands ++ hand ∷ []) j h)) (sym e)
      (subst (IsNewHand locks (count - 1 - i)) (sym (last hands hand h i (sym long))) one))
      (λ ne. let within : k < i = omega (arith, ne, below) in
      subst (IsNewHand locks (count - 1 - k)) (sym (get_or_append_left hands (hand ∷ []) h k (omega (arith, within, long)))) (so_far k h within))
