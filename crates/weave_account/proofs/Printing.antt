-- What the printed order has and keeps.
-- Used by ConflictsClause, FormOfScript, ListingClause, Meeting, NumbersClause, RefusalsClause, ReplayClause,
-- Transactions and VisitedPairs.
use Rattle.std.proofs.Common.{◌≢◌, ℕ, Bool, true, false, not, ◌==◌, nat_eq, List, [], ◌∷◌, IsTrue, inl, inr, sym, subst}
use Rattle.std.specs.List.{AllByRecursion}
use Rattle.std.proofs.lemmas.Bool.{ne_eqb, eq-eqb, not_from_false, cases_eq}
use Rattle.report_rules.specs.declared.report.Report.{Report}
use Rattle.report_rules.specs.PrintedOrder.{begun_requests, without_request, TakesAll, IsPrintedOrder}
use Rattle.report_rules.specs.Lookups.{is_in, may_be_listed, RequestPrecedes}
use Rattle.weave_data.proofs.Numbers.{IsSorted, in-head, in-tail, in-cases, in-filter, filter-in, sorted-filter}
use Rattle.weave_account.proofs.Cutting.{IsNotAfter}

-- what holds of each holds of one
pub of-one : (P : ℕ → Type 0) (xs : List ℕ) (n : ℕ) → AllByRecursion P xs → IsTrue (is_in n xs) → P n
of-one P [] n h g = cc
of-one P (x ∷ xs) n h g = elim (in-cases n x xs g) [ inl same ↦ subst P (sym same) h.0 | inr more ↦ of-one P xs n h.1 more ]

without-in : (r n : ℕ) (xs : List ℕ) → IsTrue (is_in n xs) → n ≢ r → IsTrue (is_in n (without_request r xs))
without-in r n xs h differ = in-filter (λ other. not (other == r)) n xs h (not_from_false _ (ne_eqb n r differ))

in-without : (r n : ℕ) (xs : List ℕ) → IsTrue (is_in n (without_request r xs)) → IsTrue (is_in n xs) × (n ≢ r)
in-without r n xs h =
    let parts = filter-in (λ other. not (other == r)) n xs h in (parts.0, λ same. differs (nat_eq n r) (eq-eqb n r same) parts.1)
  where
    differs : (b : Bool) → IsTrue b → IsTrue (not b) → ⊥
    differs true h g = cc
    differs false h g = cc

module _ (report : Report) where
  -- what is taken remained, and all that remained is taken
  pub taken-in : (taken remaining : List ℕ) (n : ℕ) → TakesAll report remaining taken → IsTrue (is_in n taken)
      → IsTrue (is_in n remaining)
  taken-in [] remaining n h g = cc
  taken-in (r ∷ taken) remaining n h g =
      elim (in-cases n r taken g) [
        | inl same ↦ subst (λ k. IsTrue (is_in k remaining)) (sym same) h.0.remains
        | inr more ↦ (in-without r n remaining (taken-in taken (without_request r remaining) n h.1 more)).0
      ]

  -- each remaining request is taken
  pub in-taken : (taken remaining : List ℕ) (n : ℕ) → TakesAll report remaining taken → IsTrue (is_in n remaining)
      → IsTrue (is_in n taken)
  in-taken [] remaining n h g = let none = subst (λ xs. IsTrue (is_in n xs)) h g in cc
  in-taken (r ∷ taken) remaining n h g =
      elim (cases_eq n r) [
        | inl same ↦ subst (λ k. IsTrue (is_in k (r ∷ taken))) (sym same) (in-head r taken)
        | inr differ ↦ in-tail n r taken (in-taken taken (without_request r remaining) n h.1 (without-in r n remaining g differ))
      ]

  -- each once, and none precedes one taken before it
  pub taken-sorted : (taken remaining : List ℕ) → TakesAll report remaining taken
      → IsSorted (IsNotAfter (RequestPrecedes report)) taken
  taken-sorted [] remaining h = tt
  taken-sorted (r ∷ taken) remaining h = (
    λ n g. let left = in-without r n remaining (taken-in taken (without_request r remaining) n h.1 g) in
        ((λ same. left.1 (sym same)), of-one (λ other. ¬ RequestPrecedes report other r) remaining n h.0.free left.0),
    taken-sorted taken (without_request r remaining) h.1,
  )

  module _ (order : List ℕ) (printed : IsPrintedOrder report order) where
    -- the order lists each request once, and none precedes one before it
    pub order-sorted : IsSorted (IsNotAfter (RequestPrecedes report)) order
    order-sorted =
        subst (IsSorted (IsNotAfter (RequestPrecedes report))) (sym printed.listed)
        (sorted-filter _ (may_be_listed report) printed.taken (taken-sorted printed.taken _ printed.in_turn))

    -- what it lists was begun and may be listed
    pub order-has : (n : ℕ) → IsTrue (is_in n order) → IsTrue (is_in n (begun_requests report)) × IsTrue (may_be_listed report n)
    order-has n h =
        let parts = filter-in (may_be_listed report) n printed.taken (subst (λ xs. IsTrue (is_in n xs)) printed.listed h) in
        (taken-in printed.taken _ n printed.in_turn parts.0, parts.1)

    -- each begun request that may be listed is in the printed order
    pub has-order : (n : ℕ) → IsTrue (is_in n (begun_requests report)) → IsTrue (may_be_listed report n) → IsTrue (is_in n order)
    has-order n h g =
        subst (λ xs. IsTrue (is_in n xs)) (sym printed.listed)
        (in-filter (may_be_listed report) n printed.taken (in-taken printed.taken _ n printed.in_turn h) g)
