-- Where the own entries of a hand are in a log.
-- Used by AskedOnce, Beside, OwnVisits, ShardArrived, ShardDone, ShardLeft, ShardVisited, StoreLeft and StoreNew.
use Rattle.std.proofs.Common.{◌≡◌, ℕ, ◌<◌, ◌≤◌, Bool, cond, eqb, eq-eqb, List, [], ◌∷◌, ◌++◌, length, map, Contains, inl, inr, refl, sym, ap, ◌∙◌, subst, arith}
use Rattle.std.proofs.lemmas.Bool.{cases_lt}
use Rattle.std.proofs.lemmas.List.{length-map, map-append}
use Rattle.std.proofs.lemmas.List.Elements.{filter-append}
use Rattle.weave_data.proofs.Members.{has_cut, has_head, has_tail}
use mathlib.Core.List.{IsPrefix}
use Rattle.weave_account.specs.GoesOn.{IsBeginningOf}
use Rattle.chronicle.specs.Logs.{Log, entries_of}
use Rattle.weaver_locks.specs.HandLaws.{KeepsPlaces}

module _ {A : Type 0} where
  -- an element within the first of two lists
  pub inside : (xs ys before after : List A) (e : A) → xs ++ ys ≡ before ++ e ∷ after → length before < length xs
      → (rest : List A) × (xs ≡ before ++ e ∷ rest)
  inside [] ys before after e is low = absurd (omega (arith, low))
  inside (x ∷ xs) ys [] after e is low =
      let first : x ≡ e = cc in
      (xs, λ i. first i ∷ xs)
  inside (x ∷ xs) ys (b ∷ before) after e is low =
      let first : x ≡ b = cc in
      let tails : xs ++ ys ≡ before ++ e ∷ after = cc in
      let more = inside xs ys before after e tails (omega (arith, low)) in
      (more.0, λ i. first i ∷ more.1 i)

  -- if the elements before e are no fewer than the first list has, e is in the second
  pub beyond : (xs ys before after : List A) (e : A) → xs ++ ys ≡ before ++ e ∷ after → length xs ≤ length before
      → Contains ys e
  beyond [] ys before after e is low = subst (λ (l : List A). Contains l e) (sym is) (has_cut before e after)
  beyond (x ∷ xs) ys [] after e is low = absurd (omega (arith, low))
  beyond (x ∷ xs) ys (b ∷ before) after e is low =
      let tails : xs ++ ys ≡ before ++ e ∷ after = cc in
      beyond xs ys before after e tails (omega (arith, low))

  -- a prefix is at most as long as its list
  pub begin_length : (xs ys : List A) → IsPrefix xs ys → length xs ≤ length ys
  begin_length [] ys on = omega arith
  begin_length (x ∷ xs) [] on = let e : length (x ∷ (xs ++ on.0)) ≡ length {A = A} [] = ap (λ (l : List A). length l) on.1 in absurd (omega (arith, e))
  begin_length (x ∷ xs) (y ∷ ys) on =
      let tails : xs ++ on.0 ≡ ys = let is : x ∷ (xs ++ on.0) ≡ y ∷ ys = on.1 in cc in
      let rest = begin_length xs ys (on.0, tails) in
      omega (arith, rest)

-- Logs of pairs as logs of records
module _ {E R : Type 0} (entry : ℕ × E → R) (pair : R → ℕ × E) (back : (x : ℕ × E) → pair (entry x) ≡ x) where
  pairs_back : (log : Log E) → map pair (map entry log) ≡ log
  pairs_back [] = refl
  pairs_back (x ∷ log) = λ i. back x i ∷ pairs_back log i

  -- a log that is cut at an entry
  pub cut_pairs : (log : Log E) (before after : List R) (e : R) → map entry log ≡ before ++ e ∷ after
      → log ≡ map pair before ++ pair e ∷ map pair after
  cut_pairs log before after e is = sym (pairs_back log) ∙ (ap (λ (l : List R). map pair l) is ∙ map-append pair before (e ∷ after))

  -- if the prefix that a pass has seen holds all entries of its author, none of them is at or past its end
  pub none_past : KeepsPlaces E → (author : ℕ) (had log : Log E) → IsPrefix had log
      → entries_of author log ≡ entries_of author had → (before after : List R) (e : R) → map entry log ≡ before ++ e ∷ after
      → (pair e).0 ≡ author → length (map entry had) ≤ length before → ⊥
  none_past places author had log on own before after e is mine past =
      let low = places author had log (map pair before) (map pair after) (pair e) on own (cut_pairs log before after e is) mine in
      absurd (omega (arith, low, length-map before pair, length-map had entry, past))

  -- so an own entry past the seen prefix is among those that were added
  pub past_before : KeepsPlaces E → (author : ℕ) (had : Log E) (settled added : List R) → IsPrefix had (map pair settled)
      → entries_of author (map pair settled) ≡ entries_of author had → (before after : List R) (e : R)
      → settled ++ added ≡ before ++ e ∷ after → (pair e).0 ≡ author → length (map entry had) ≤ length before
      → length settled ≤ length before
  past_before places author had settled added on own before after e is mine past =
      elim (cases_lt (length before) (length settled)) [
        | inl low ↦
            let cut = inside settled added before after e is low in
            let at : map pair settled ≡ map pair before ++ pair e ∷ map pair cut.0 = ap (λ (l : List R). map pair l) cut.1 ∙ map-append pair before (e ∷ cut.0) in
            let seen_there = places author had (map pair settled) (map pair before) (map pair cut.0) (pair e) on own at mine in
            absurd (omega (arith, seen_there, length-map before pair, length-map had entry, past))
        | inr over ↦ over
      ]

  -- what begins a log of pairs begins it as records
  pub records_on : (had : Log E) (log : Log E) → IsPrefix had log → IsBeginningOf (map entry had) (map entry log)
  records_on had log on = (map entry on.0, ap (λ (l : Log E). map entry l) (sym on.1) ∙ map-append entry had on.0)

  -- entries of one author are its own
  all_own : (author : ℕ) (added : List R) → ((e : R) → Contains added e → (pair e).0 ≡ author)
      → entries_of author (map pair added) ≡ map pair added
  all_own author [] by = refl
  all_own author (e ∷ added) by =
      let rest = entries_of author (map pair added) in
      subst (λ (b : Bool). cond b (pair e ∷ rest) rest ≡ pair e ∷ map pair added) (sym (eq-eqb ((pair e).0) author (by e (has_head e added))))
      (ap (λ (l : Log E). pair e ∷ l) (all_own author added (λ x h. by x (has_tail e added x h))))

  -- the own entries of a log to which the author added
  pub own_adds : ((r : R) → entry (pair r) ≡ r) → (author : ℕ) (settled added : List R) (mine : Log E)
      → entries_of author (map pair settled) ≡ mine → ((e : R) → Contains added e → (pair e).0 ≡ author)
      → map entry (entries_of author (map pair (settled ++ added))) ≡ map entry mine ++ added
  own_adds again author settled added mine own by =
      ap (λ (l : Log E). map entry (entries_of author l)) (map-append pair settled added)
      ∙ (ap (λ (l : Log E). map entry l) (filter-append (λ (e : ℕ × E). eqb e.0 author) (map pair settled) (map pair added)
      ∙ (ap (λ (l : Log E). l ++ entries_of author (map pair added)) own ∙ ap (λ (l : Log E). mine ++ l) (all_own author added by)))
      ∙ (map-append entry mine (map pair added) ∙ ap (λ (l : List R). map entry mine ++ l) (records_back added)))
    where
      records_back : (l : List R) → map entry (map pair l) ≡ l
      records_back [] = refl
      records_back (r ∷ l) = λ i. again r i ∷ records_back l i
