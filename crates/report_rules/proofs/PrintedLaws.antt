-- A report has one printed order at most.
-- Used by `printed_order_is_one`.
use Rattle.std.proofs.Common.{◌≡◌, ℕ, ◌<◌, Option, Some, None, not, nat_eq, ◌==◌, List, [], ◌∷◌, IsTrue, refl, sym, ap, subst, ◌∙◌, inl, inr, arith}
use Rattle.std.specs.List.{filter, AllByRecursion}
use Rattle.std.proofs.lemmas.Bool.{cases_eq, eqb-true, ne_eqb, or_cases, not_from_false}
use Rattle.vector_stamp.specs.declared.clock.Stamp.{Stamp}
use Rattle.report_rules.specs.declared.report.Report.{Report}
use Rattle.report_rules.specs.Lookups.{is_in, AreBoth, stamp_at, may_be_listed}
use Rattle.report_rules.specs.PrintedOrder.{IsOfLesserHome, IsNext, begun_requests, without_request, TakesAll, IsPrintedOrder}

-- what holds of each holds of one
of_one : (P : ℕ → Type 0) (xs : List ℕ) (n : ℕ) → AllByRecursion P xs → IsTrue (is_in n xs) → P n
of_one P [] n h g = cc
of_one P (x ∷ xs) n h g =
    elim (or_cases (nat_eq n x) _ g) [ inl same ↦ subst P (sym (eqb-true n x same)) h.0 | inr more ↦ of_one P xs n h.1 more ]

module _ (report : Report) where
  -- of two homes one at most is the lesser
  not_both : (a b : ℕ) → IsOfLesserHome report a b → ¬ IsOfLesserHome report b a
  not_both a b = stamps (stamp_at report a) (stamp_at report b)
    where
      stamps : (x y : Option Stamp) → AreBoth (λ (x : Stamp) (y : Stamp). x.home < y.home) x y → ¬ AreBoth (λ (x : Stamp) (y : Stamp). x.home < y.home) y x
      stamps (Some x) (Some y) less more = omega (arith, less, more)
      stamps (Some x) None less more = less
      stamps None y less more = less

  one_next : (remaining : List ℕ) (a b : ℕ) → IsNext report remaining a → IsNext report remaining b → a ≡ b
  one_next remaining a b g h =
      elim (cases_eq a b) [
        | inl same ↦ same
        | inr differ ↦
            let other : IsTrue (not (b == a)) = not_from_false _ (ne_eqb b a (λ e. differ (sym e))) in
            let other' : IsTrue (not (a == b)) = not_from_false _ (ne_eqb a b differ) in
            absurd (not_both a b (of_one _ remaining b g.least h.remains other h.free) (of_one _ remaining a h.least g.remains other' g.free))
      ]

  one_taken : (a b remaining : List ℕ) → TakesAll report remaining a → TakesAll report remaining b → a ≡ b
  one_taken [] [] remaining g h = refl
  one_taken [] (y ∷ b) remaining g h = let there = subst (λ xs. IsTrue (is_in y xs)) g h.0.remains in cc
  one_taken (x ∷ a) [] remaining g h = let there = subst (λ xs. IsTrue (is_in x xs)) h g.0.remains in cc
  one_taken (x ∷ a) (y ∷ b) remaining g h =
      let same = one_next remaining x y g.0 h.0 in
      let rest = one_taken a b (without_request y remaining) (subst (λ r. TakesAll report (without_request r remaining) a) same g.1) h.1 in
      λ i. same i ∷ rest i

  -- a report has one printed order at most
  pub one_order : (a b : List ℕ) → IsPrintedOrder report a → IsPrintedOrder report b → a ≡ b
  one_order a b g h =
      g.listed ∙ ap (filter (may_be_listed report)) (one_taken g.taken h.taken (begun_requests report) g.in_turn h.in_turn) ∙ sym h.listed
