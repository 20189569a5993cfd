-- The passes that come back from the threads.
-- Used by `tallied`.
use Rattle.std.proofs.Common.{◌≡◌, ℕ, zero, suc, ◌<◌, List, [], ◌∷◌, ◌++◌, length, get_or, take, drop, map, sym, refl, ap, ◌∙◌, subst, arith}
use Rattle.std.specs.Prelude.{Contains, All}
use Rattle.std.specs.List.{range_with_len}
use Rattle.std.proofs.lemmas.List.{get_or-map, length-map}
use Rattle.std.proofs.lemmas.List.FromFn.{length-range_with_len, get_or-range_with_len}
use Rattle.std.proofs.Math.Seq.{take-append_seam}
use Rattle.chronicle.specs.declared.pass.Pass.{Pass}
use Rattle.chronicle.specs.Logs.{Log, entries_of}
use Rattle.chronicle.specs.Locks.{Lock}
use Rattle.chronicle.specs.Passes.{IsReady, AreAll, number_of, seen_by_pass, own_entries}
use Rattle.chronicle_keeper.specs.Totals.{numbered_by}
use Rattle.chronicle_keeper.specs.Additions.{HasAdded, EachAdded}

-- what was written behind a reference to all elements is the list
written : {A : Type 0} (n : ℕ) (new old : List A) → length new ≡ n → take n (new ++ drop (length new) old) ≡ new
written {A = A} n new old e = subst (λ (k : ℕ). take k (new ++ drop (length new) old) ≡ new) e (take-append_seam new (drop (length new) old))

mapped_same : {A B : Type 0} (f : A → B) (xs ys : List A) → length ys ≡ length xs → ((k : ℕ) (d : A) → k < length xs → f (get_or ys k d) ≡ f (get_or xs k d)) → map f ys ≡ map f xs
mapped_same f [] [] e same = refl
mapped_same f [] (y ∷ ys) e same = absurd (omega arith)
mapped_same f (x ∷ xs) [] e same = absurd (omega arith)
mapped_same f (x ∷ xs) (y ∷ ys) e same = let first : f y ≡ f x = same zero x (omega arith) in let rest : map f ys ≡ map f xs = mapped_same f xs ys (omega arith) (λ k d l. same (suc k) d (omega arith)) in λ i. first i ∷ rest i

contains_below : (count n : ℕ) → n < count → Contains (range_with_len 0 count) n
contains_below count n low = let long = length-range_with_len 0 count in let is = get_or-range_with_len 0 count n n low in (n, omega arith, omega arith)

first_of : {A : Type 0} (xs : List A) → 0 < length xs → A
first_of [] some = absurd (omega arith)
first_of (x ∷ xs) some = x

module _ (lock : Lock ℕ) (count : ℕ) (old new : List (Pass ℕ)) (numbers : map number_of old ≡ range_with_len 0 lock.passes) (same : length new ≡ length old)
    (added : (k : ℕ) (d : Pass ℕ) → k < length old → HasAdded 0 count (get_or old k d) (get_or new k d)) where
  -- if the n returned passes are ready, the first n of them and others behind are all passes of the lock
  pub all_returned : (n : ℕ) (behind : List (Pass ℕ)) → length new ≡ n → All (IsReady lock) new → AreAll lock (take n (new ++ drop (length new) behind))
  all_returned n behind long ready = let now : map number_of new ≡ range_with_len 0 lock.passes = mapped_same number_of old new same (λ k d l. (added k d l).number_is) ∙ numbers in
      let all : AreAll lock new = record { ready = ready; each = λ k low. subst (λ (l : List ℕ). Contains l k) (sym now) (contains_below lock.passes k low) } in
      subst (AreAll lock) (sym (written n new behind long)) all

  -- and what each has added is in the log
  pub each_added : (n : ℕ) (behind : List (Pass ℕ)) (start log : Log ℕ) → length new ≡ n → start ≡ [] → All (λ p. seen_by_pass p ≡ start) old → All (λ p. entries_of (number_of p) log ≡ own_entries p) (take n (new ++ drop (length new) behind)) → EachAdded lock.passes count log
  each_added n behind start log long none began kept author low =
      let many : length old ≡ lock.passes = sym (length-map old number_of) ∙ (ap (λ (l : List ℕ). length l) numbers ∙ length-range_with_len 0 lock.passes) in
      let here : author < length old = omega arith in
      let there : author < length new = omega arith in
      let d : Pass ℕ = first_of old (omega arith) in
      let p : Pass ℕ = get_or old author d in
      let q : Pass ℕ = get_or new author d in
      let at : get_or (range_with_len 0 lock.passes) author author ≡ author = omega (arith, get_or-range_with_len 0 lock.passes author author low) in
      let is : number_of p ≡ author = sym (get_or-map number_of old author d author here) ∙ (ap (λ (l : List ℕ). get_or l author author) numbers ∙ at) in
      let h : HasAdded 0 count p q = added author d here in
      let empty : own_entries p ≡ [] = ap (entries_of (number_of p)) (began author d here ∙ none) in
      let now : entries_of (number_of q) log ≡ own_entries q = subst (All (λ r. entries_of (number_of r) log ≡ own_entries r)) (written n new behind long) kept author d there in
      (h.count, h.few, ap (λ (k : ℕ). entries_of k log) (sym (h.number_is ∙ is)) ∙ (now ∙ (h.own_is ∙ (ap (λ (l : List (ℕ × ℕ)). l ++ numbered_by (number_of p) 0 h.count) empty ∙ ap (λ (k : ℕ). numbered_by k 0 h.count) is))))
