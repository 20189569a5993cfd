-- With a note of the next lock, there is a note of each lock up to it.
-- Used by `note_row`.
use Rattle.std.proofs.Common.{◌≡◌, ℕ, ◌+◌, ◌<◌, ◌≤◌, List, [], ◌∷◌, ◌++◌, length, map, get_or, set, sym, ap, ◌∙◌, subst, arith}
use Rattle.std.proofs.lemmas.List.{get_or_append_left, get_or-set_same, get_or-set_other}
use mathlib.Core.Logic.{dite}
use native.Mathlib.Decide.{ℕ_discrete}
use Rattle.chronicle.specs.declared.chronicle.Chronicle.{Chronicle}
use Rattle.chronicle.specs.declared.pass.Pass.{Pass}
use Rattle.chronicle.specs.declared.note.Note.{Note}
use Rattle.chronicle.specs.Locks.{lock_of, name_of}
use Rattle.chronicle.specs.Passes.{lock_noted}
use Rattle.lock_row.specs.Rows.{names_of}
use Rattle.lock_row.specs.Notings.{HasNoted, Stays, AllStay}
use Rattle.lock_row.proofs.Lists.{last, mapped_alike, one_of}

module _ {M E : Type 0} (locks : List (Chronicle M E)) (before : List (Pass E)) where
  -- the notes of the first i locks
  abbrev pub NotedSoFar : List (Note E) → ℕ → Type 0
  NotedSoFar notes i = (k : ℕ) (c : Chronicle M E) (p : Pass E) (n : Note E) → k < i
      → HasNoted (lock_of (get_or locks k c)) (get_or before k p) (get_or notes k n)

  -- once there is a note of the next lock that has seen what its pass has, there is one of each lock up to it
  pub noted_more : (notes : List (Note E)) (note : Note E) (i : ℕ) → length notes ≡ i → NotedSoFar notes i
      → ((c : Chronicle M E) (p : Pass E) → HasNoted (lock_of (get_or locks i c)) (get_or before i p) note)
      → NotedSoFar (notes ++ note ∷ []) (i + 1)
  noted_more notes note i long so_far one k c p n low = dite (ℕ_discrete k i)
      (λ e. subst (λ (j : ℕ). HasNoted (lock_of (get_or locks j c)) (get_or before j p) (get_or (notes ++ note ∷ []) j n)) (sym e)
      (subst (HasNoted (lock_of (get_or locks i c)) (get_or before i p)) (sym (last notes note n i (sym long))) (one c p)))
      (λ ne. let within : k < i = omega (arith, ne, low) in
      subst (HasNoted (lock_of (get_or locks k c)) (get_or before k p))
      (sym (get_or_append_left notes (note ∷ []) n k (omega (arith, within, long)))) (so_far k c p n within))

  -- if the passes have stayed as they were, and one of them stays once more, they all have
  pub stay_on : (after : List (Pass E)) (i : ℕ) (q : Pass E) → i < length after → AllStay locks before after
      → ((c : Chronicle M E) (p : Pass E) → Stays (lock_of (get_or locks i c)) (get_or after i p) q)
      → AllStay locks before (set after i q)
  stay_on after i q low so_far one k c p within = dite (ℕ_discrete k i)
      (λ e. let was = so_far k c p within in
      let now = subst (λ (j : ℕ). Stays (lock_of (get_or locks j c)) (get_or after j p) q) (sym e) (one c p) in
      subst (Stays (lock_of (get_or locks k c)) (get_or before k p))
      (sym (ap (λ (j : ℕ). get_or (set after i q) j p) e ∙ get_or-set_same after i q p low))
      record { ready = now.ready; number = now.number ∙ was.number; seen_is = now.seen_is ∙ was.seen_is })
      (λ ne. subst (Stays (lock_of (get_or locks k c)) (get_or before k p)) (sym (get_or-set_other after i k q p ne))
      (so_far k c p within))

  -- the notes have the names of the locks
  pub names_noted : (notes : List (Note E)) (i : ℕ) → length before ≡ length locks → length notes ≡ length locks
      → length locks ≤ i → NotedSoFar notes i → map lock_noted notes ≡ names_of locks
  names_noted notes i before_long long all so_far = mapped_alike (λ (c : Chronicle M E). name_of (lock_of c)) lock_noted locks notes long
      (λ k c n low. (so_far k c (one_of before k (omega (arith, low, before_long))) n (omega (arith, low, all))).note)
