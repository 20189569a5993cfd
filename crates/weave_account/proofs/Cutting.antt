-- An order that keeps precedence, cut at one request: the commits at a vertex that are listed before the request are
-- those that precede it, in the order of their numbers.
-- Used by ListingClause, Meeting, Printing, ReadingPlace and Transactions.
use Rattle.std.proofs.Common.{◌≡◌, ◌≢◌, ℕ, Bool, List, [], ◌∷◌, ◌++◌, IsTrue, ◌⊎◌, inl, inr, refl, sym, ap, subst, ◌∙◌}
use Rattle.std.specs.List.{filter}
use Rattle.report_rules.specs.Lookups.{is_in}
use Rattle.weave_data.proofs.Numbers.{IsSorted, in-head, in-tail, in-cases, in-append_left, in-append_right, in-append_cases, in-filter, filter-in, sorted-filter, sorted-left, sorted-at, one-list}

-- the later one is another request, and doesn't precede the earlier one
abbrev pub IsNotAfter : (ℕ → ℕ → Type 0) → ℕ → ℕ → Type 0
IsNotAfter P a b = (a ≢ b) × (P b a → ⊥)

module _ (P : ℕ → ℕ → Type 0) (not-both : (a b : ℕ) → P a b → P b a → ⊥) where
  -- of two members of a sorted list one is before the other, if they aren't one
  pub either : (xs : List ℕ) (a b : ℕ) → IsSorted P xs → IsTrue (is_in a xs) → IsTrue (is_in b xs) → (a ≡ b) ⊎ (P a b ⊎ P b a)
  either [] a b s h g = cc
  either (x ∷ xs) a b s h g =
      elim (in-cases a x xs h) [
        | inl same ↦ elim (in-cases b x xs g) [
          | inl too ↦ inl (same ∙ sym too)
          | inr more ↦ inr (inl (subst (λ k. P k b) (sym same) (s.0 b more)))
        ]
        | inr later ↦ elim (in-cases b x xs g) [
          | inl same ↦ inr (inr (subst (λ k. P k a) (sym same) (s.0 a later)))
          | inr more ↦ either xs a b s.1 later more
        ]
      ]

  -- what an order that keeps precedence lists of a sorted list is sorted
  sorted-among : (xs ys : List ℕ) → IsSorted P xs → ((n : ℕ) → IsTrue (is_in n ys) → IsTrue (is_in n xs))
      → IsSorted (IsNotAfter P) ys → IsSorted P ys
  sorted-among xs [] s among t = tt
  sorted-among xs (y ∷ ys) s among t = (
    λ n h. elim (either xs y n s (among y (in-head y ys)) (among n (in-tail n y ys h))) [
      | inl same ↦ absurd ((t.0 n h).0 same)
      | inr (inl before) ↦ before
      | inr (inr after) ↦ absurd ((t.0 n h).1 after)
    ],
    sorted-among xs ys s (λ n h. among n (in-tail n y ys h)) t.1,
  )

  module _ (test : ℕ → Bool) (commits order : List ℕ) (sorted : IsSorted P (filter test commits)) (keeps : IsSorted (IsNotAfter P) order)
      (listed : (n : ℕ) → IsTrue (is_in n commits) → IsTrue (is_in n order))
      (committed : (n : ℕ) → IsTrue (is_in n order) → IsTrue (test n) → IsTrue (is_in n commits)) where
    -- if commits that pass are some preceding c, then c or some that c precedes, those listed before c are the former
    pub cut : (c : ℕ) (before after first rest : List ℕ) → order ≡ before ++ c ∷ after → filter test commits ≡ first ++ rest
        → ((n : ℕ) → IsTrue (is_in n first) → P n c) → ((n : ℕ) → IsTrue (is_in n rest) → (n ≡ c) ⊎ P c n)
        → filter test before ≡ first
    cut c before after first rest order-is commits-are precede follow =
        one-list P not-both (filter test before) first
        (sorted-among (filter test commits) (filter test before) sorted among-commits (sorted-filter (IsNotAfter P) test before keeps-before))
        (sorted-left P first rest (subst (IsSorted P) commits-are sorted))
        (λ n. (there n, back n))
      where
        keeps' : IsSorted (IsNotAfter P) (before ++ c ∷ after)
        keeps' = subst (IsSorted (IsNotAfter P)) order-is keeps

        keeps-before : IsSorted (IsNotAfter P) before
        keeps-before = sorted-left (IsNotAfter P) before (c ∷ after) keeps'

        among-commits : (n : ℕ) → IsTrue (is_in n (filter test before)) → IsTrue (is_in n (filter test commits))
        among-commits n h =
            let parts = filter-in test n before h in
            let in-order : IsTrue (is_in n order) = subst (λ xs. IsTrue (is_in n xs)) (sym order-is) (in-append_left n before (c ∷ after) parts.0) in
            in-filter test n commits (committed n in-order parts.1) parts.1

        there : (n : ℕ) → IsTrue (is_in n (filter test before)) → IsTrue (is_in n first)
        there n h =
            let parts = filter-in test n before h in
            let not-after : IsNotAfter P n c = sorted-at (IsNotAfter P) before (c ∷ after) n c keeps' parts.0 (in-head c after) in
            elim (in-append_cases n first rest (subst (λ xs. IsTrue (is_in n xs)) commits-are (among-commits n h))) [
              | inl here ↦ here
              | inr other ↦ elim (follow n other) [
                | inl same ↦ absurd (not-after.0 same)
                | inr later ↦ absurd (not-after.1 later)
              ]
            ]

        back : (n : ℕ) → IsTrue (is_in n first) → IsTrue (is_in n (filter test before))
        back n h =
            let parts = filter-in test n commits (subst (λ xs. IsTrue (is_in n xs)) (sym commits-are) (in-append_left n first rest h)) in
            let p : P n c = precede n h in
            elim (in-append_cases n before (c ∷ after) (subst (λ xs. IsTrue (is_in n xs)) order-is (listed n parts.0))) [
              | inl here ↦ in-filter test n before here parts.1
              | inr other ↦ elim (in-cases n c after other) [
                | inl same ↦ absurd (let q : P c c = subst (λ k. P k c) same p in not-both c c q q)
                | inr later ↦ absurd ((sorted-at (IsNotAfter P) (before ++ c ∷ []) after c n (subst (IsSorted (IsNotAfter P)) (step before c after) keeps') (in-append_right c before (c ∷ []) (in-head c [])) later).1 p)
              ]
            ]
          where
            step : (xs : List ℕ) (x : ℕ) (ys : List ℕ) → xs ++ x ∷ ys ≡ (xs ++ x ∷ []) ++ ys
            step [] x ys = refl
            step (z ∷ xs) x ys = ap (λ zs. z ∷ zs) (step xs x ys)
