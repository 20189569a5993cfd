-- Each entry of a log that has grown is of the start or of a pass.
-- Used by `entries_come_from_passes` and `own_entries_were_seen`.
use Rattle.std.proofs.Common.{◌≡◌, ◌⊎◌, inl, inr, ℕ, ◌+◌, ◌<◌, ◌≤◌, Bool, true, false, cond, eqb, eq-eqb, [], ◌∷◌, ◌++◌, length, get_or, refl, sym, ap, ◌∙◌, subst, arith, length-append}
use Rattle.std.specs.List.{All, Contains}
use Rattle.std.proofs.lemmas.List.Elements.{All-nil, All-cons, All-head, All-tail, All-append, All-contains, All-weaker, All-contains_itself, Contains-get_or, Contains-append_right}
use Rattle.std.proofs.lemmas.List.{nil_from_length}
use mathlib.Core.List.{IsPrefix}
use Rattle.chronicle.specs.Logs.{Log, entries_of, IsGrown}
use Rattle.chronicle.proofs.Logs.{entries_of-append, tail_of}

module _ {E : Type 0} (P : ℕ × E → Type 0) where
  kept : (x : ℕ × E) (us : Log E) (b : Bool) → b ≡ true → All P (cond b (x ∷ us) us) → P x
  kept x us b e h = All-head P x us (subst (λ (t : Bool). All P (cond t (x ∷ us) us)) e h)

  others : (x : ℕ × E) (us : Log E) (b : Bool) → All P (cond b (x ∷ us) us) → All P us
  others x us true h = All-tail P x us h
  others x us false h = h

  of_own : (n : ℕ) (log : Log E) → All P (entries_of n log) → All (λ e. e.0 ≡ n → P e) log
  of_own n [] h = All-nil (λ e. e.0 ≡ n → P e)
  of_own n (x ∷ xs) h = All-cons (λ e. e.0 ≡ n → P e) x xs
      (λ is. kept x (entries_of n xs) (eqb x.0 n) (eq-eqb x.0 n is) h) (of_own n xs (others x (entries_of n xs) (eqb x.0 n) h))

  -- what is true of the entries at the start, and of those of each pass, is true of the log
  pub of_whole : (passes : ℕ) (start log : Log E) → IsGrown passes start log → All P start
      → ((n : ℕ) → n < passes → All P (entries_of n log)) → All P log
  of_whole passes start log g first own = subst (All P) g.1 (All-append P start g.0 first (λ k d l.
      let e : ℕ × E = get_or g.0 k d in
      let there : Contains log e = subst (λ (xs : Log E). Contains xs e) g.1 (Contains-append_right start g.0 e (Contains-get_or g.0 k d l)) in
      All-contains (λ (x : ℕ × E). x.0 ≡ e.0 → P x) log e (of_own e.0 log (own e.0 (g.2 k d l))) there refl))

module _ {E : Type 0} (passes : ℕ) (start log : Log E) where
  -- the entry is of the start, or one of a pass's own
  abbrev ComesFrom : ℕ × E → Type 0
  ComesFrom entry = Contains start entry ⊎ ((author : ℕ) × (author < passes) × Contains (entries_of author log) entry)

  -- each entry of a log that has grown is one of the start, or an own entry of one of its passes
  pub comes_from : (entry : ℕ × E) → IsGrown passes start log → Contains log entry → ComesFrom entry
  comes_from entry grown there = All-contains ComesFrom log entry (of_whole ComesFrom passes start log grown
      (All-weaker (Contains start) ComesFrom (λ e h. inl h) start (All-contains_itself start))
      (λ n low. All-weaker (Contains (entries_of n log)) ComesFrom (λ e h. inr (n, low, h)) (entries_of n log) (All-contains_itself (entries_of n log)))) there

-- Places

module _ {E : Type 0} where
  -- an entry at a place past a beginning of a log is in the rest
  past : (start new before after : Log E) (entry : ℕ × E) → start ++ new ≡ before ++ entry ∷ after → length start ≤ length before → Contains new entry
  past [] new before after entry at long = subst (λ l. Contains l entry) (sym at) (Contains-append_right before (entry ∷ after) entry (0, omega arith, refl))
  past (x ∷ xs) new [] after entry at long = absurd (omega (arith, long))
  past (x ∷ xs) new (y ∷ ys) after entry at long = past xs new ys after entry (ap tail_of at) (omega (arith, long))

  -- an entry past the start has the number of a pass as its author
  pub of_passes : (passes : ℕ) (start log before after : Log E) (entry : ℕ × E) → IsGrown passes start log → log ≡ before ++ entry ∷ after
      → length start ≤ length before → entry.0 < passes
  of_passes passes start log before after entry grown at long =
      All-contains (λ e. e.0 < passes) grown.0 entry grown.2 (past start grown.0 before after entry (grown.1 ∙ at) long)

  -- a beginning of a log that has all entries of an author is no shorter than the places of these entries
  pub place_seen : (author : ℕ) (seen log before after : Log E) (entry : ℕ × E) → IsPrefix seen log → entries_of author log ≡ entries_of author seen
      → log ≡ before ++ entry ∷ after → entry.0 ≡ author → length seen ≤ length before → ⊥
  place_seen author seen log before after entry begins same at is long =
      let sum : entries_of author seen ++ entries_of author begins.0 ≡ entries_of author seen = sym (entries_of-append author seen begins.0) ∙ ap (entries_of author) begins.1 ∙ same in
      let count : length (entries_of author seen) + length (entries_of author begins.0) ≡ length (entries_of author seen) = sym (length-append (entries_of author seen) (entries_of author begins.0)) ∙ ap (λ (l : Log E). length l) sum in
      let none : entries_of author begins.0 ≡ [] = nil_from_length (entries_of author begins.0) (omega (arith, count)) in
      let P : ℕ × E → Type 0 = λ e. ⊥ in
      All-contains (λ e. e.0 ≡ author → ⊥) begins.0 entry
      (of_own P author begins.0 (subst (λ l. All P l) (sym none) (All-nil P)))
      (past seen begins.0 before after entry (begins.1 ∙ at) long) is
