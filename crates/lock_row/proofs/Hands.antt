-- A hand that is dealt takes the last pass of each lock, one lock after another.
-- Used by `deal_hand`, `open_beside` and crate weaver_locks.
use Rattle.std.proofs.Common.{◌≡◌, ℕ, ◌+◌, ◌<◌, List, [], ◌∷◌, ◌++◌, length, map, get_or, set, sym, ap, ◌∙◌, subst, arith, Vec, length-append}
use Rattle.std.specs.Global.{Global}
use Rattle.std.specs.List.{All, range_with_len}
use Rattle.std.proofs.lemmas.List.{get_or-map, length-map, get_or_append_left, get_or-set_same, get_or-set_other}
use Rattle.std.proofs.lemmas.List.FromFn.{length-range_with_len, get_or-range_with_len}
use mathlib.Core.Logic.{dite}
use native.Mathlib.Decide.{ℕ_discrete}
use Rattle.chronicle.specs.declared.chronicle.Chronicle.{Chronicle}
use Rattle.chronicle.specs.declared.pass.Pass.{Pass}
use Rattle.chronicle.specs.Locks.{Lock, lock_of}
use Rattle.chronicle.specs.Passes.{IsReady, number_of, seen_by_pass}
use Rattle.lock_row.specs.Hands.{IsNewPass, AreFirst}
use Rattle.lock_row.proofs.Lists.{last}

module _ {E : Type 0} where
  -- all passes of a lock that was opened
  pub first_all : (count : ℕ) (lock : Lock E) (ps : List (Pass E)) → map number_of ps ≡ range_with_len 0 count → All (IsReady lock) ps
      → All (λ p. seen_by_pass p ≡ lock.start) ps → AreFirst count lock ps
  first_all count lock ps numbers ready began =
      let long : length ps ≡ count = sym (length-map ps number_of) ∙ (ap (λ (l : List ℕ). length l) numbers ∙ length-range_with_len 0 count) in record {
        count_is = long;
        each = λ n p low. let within : n < length ps = omega (arith, low, long) in
            let at : get_or (range_with_len 0 count) n n ≡ n = omega (arith, get_or-range_with_len 0 count n n low) in record {
              ready = ready n p within;
              number_is = sym (get_or-map number_of ps n p n within) ∙ (ap (λ (l : List ℕ). get_or l n n) numbers ∙ at);
              seen_is = began n p within;
            };
      }

  -- the last pass, and the others
  pub first_popped : (n : ℕ) (lock : Lock E) (ps qs : List (Pass E)) (p : Pass E) → AreFirst (n + 1) lock ps → ps ≡ qs ++ p ∷ []
      → AreFirst n lock qs × IsNewPass n lock p
  first_popped n lock ps qs p first is =
      let all : AreFirst (n + 1) lock (qs ++ p ∷ []) = subst (AreFirst (n + 1) lock) is first in
      let long : length (qs ++ p ∷ []) ≡ length qs + 1 = length-append qs (p ∷ []) in
      let many : length qs ≡ n = omega (arith, long, all.count_is) in (
        record {
          count_is = many;
          each = λ k d low. subst (IsNewPass k lock) (get_or_append_left qs (p ∷ []) d k (omega (arith, low, many)))
              (all.each k d (omega (arith, low)));
        },
        subst (IsNewPass n lock) (last qs p p n (sym many)) (all.each n p (omega arith)),
      )

module _ {M E : Type 0} (locks : List (Chronicle M E)) where
  -- of each of the first i locks, just the first `count` passes are there
  abbrev pub LeftSoFar : ℕ → List (Vec (Pass E) Global) → ℕ → Type 0
  LeftSoFar count passes i = (k : ℕ) (c : Chronicle M E) (ps : Vec (Pass E) Global) → k < i
      → AreFirst count (lock_of (get_or locks k c)) (get_or passes k ps).items

  -- the passes of the first i locks
  abbrev pub DealtSoFar : ℕ → List (Pass E) → ℕ → Type 0
  DealtSoFar number hand i = (k : ℕ) (c : Chronicle M E) (p : Pass E) → k < i → IsNewPass number (lock_of (get_or locks k c)) (get_or hand k p)

  -- once the next lock too has only its first passes left, all locks up to it have
  pub left_more : (count : ℕ) (passes : List (Vec (Pass E) Global)) (i : ℕ) (qs : Vec (Pass E) Global) → i < length passes → LeftSoFar count passes i
      → ((c : Chronicle M E) → AreFirst count (lock_of (get_or locks i c)) qs.items) → LeftSoFar count (set passes i qs) (i + 1)
  left_more count passes i qs low so_far one k c ps below = dite (ℕ_discrete k i)
      (λ e. subst (λ (j : ℕ). AreFirst count (lock_of (get_or locks j c)) (get_or (set passes i qs) j ps).items) (sym e)
      (subst (λ (x : Vec (Pass E) Global). AreFirst count (lock_of (get_or locks i c)) x.items) (sym (get_or-set_same passes i qs ps low)) (one c)))
      (λ ne. subst (λ (x : Vec (Pass E) Global). AreFirst count (lock_of (get_or locks k c)) x.items) (sym (get_or-set_other passes i k qs ps ne))
      (so_far k c ps (omega (arith, ne, below))))

  -- once the hand gets the pass of the next lock, it has those of all locks up to it
  pub dealt_more : (number : ℕ) (hand : List (Pass E)) (i : ℕ) (p : Pass E) → length hand ≡ i → DealtSoFar number hand i
      → ((c : Chronicle M E) → IsNewPass number (lock_of (get_or locks i c)) p) → DealtSoFar number (hand ++ p ∷ []) (i + 1)
  dealt_more number hand i p long so_far one k c d below = dite (ℕ_discrete k i)
      (λ e. subst (λ (j : ℕ). IsNewPass number (lock_of (get_or locks j c)) (get_or (hand ++ p ∷ []) j d)) (sym e)
      (subst (IsNewPass number (lock_of (get_or locks i c))) (sym (last hand p d i (sym long))) (one c)))
      (λ ne. let within : k < i = omega (arith, ne, below) in
      subst (IsNewPass number (lock_of (get_or locks k c))) (sym (get_or_append_left hand (p ∷ []) d k (omega (arith, within, long)))) (so_far k c d within))
