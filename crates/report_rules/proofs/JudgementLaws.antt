-- A right report breaks no clause. Another one has one verdict: one clause at most breaks first, at one place.
-- Used by `right_report_breaks_nowhere` and `wrong_report_breaks_first_once`.
use Rattle.std.proofs.Common.{◌≡◌, ℕ, zero, suc, ◌<◌, List, [], ◌∷◌, take, refl, sym, ap, ◌∙◌, subst, Some, inl, inr, arith}
use Rattle.std.specs.Prelude.{slice_get}
use Rattle.std.specs.Option.{unwrap_or}
use Rattle.std.proofs.lemmas.Bool.{cases_order}
use Rattle.program_defs.specs.declared.script.Script.{Script}
use Rattle.report_rules.specs.declared.report.Report.{Report}
use Rattle.report_rules.specs.declared.report.Clause.{Clause}
use Rattle.report_rules.specs.declared.report.Clause.TheVariants.{I, Ii, Iii, Iv, V, Vi, Vii, Viii}
use Rattle.weave_data.specs.Facts.{AllHold, BreaksFirstAt}
use Rattle.report_rules.specs.RightReport.{facts_of, EachHolds, IsRightReport, clauses_before, BreaksFirst}
use Rattle.weave_data.proofs.FactsLaws.{none_breaks, one_place}

-- the clauses in order, and the place of each
abbrev all_clauses : List Clause
all_clauses = I ∷ Ii ∷ Iii ∷ Iv ∷ V ∷ Vi ∷ Vii ∷ Viii ∷ []

abbrev rank : Clause → ℕ
rank I = 0
rank Ii = 1
rank Iii = 2
rank Iv = 3
rank V = 4
rank Vi = 5
rank Vii = 6
rank Viii = 7

stands : (clause : Clause) → slice_get all_clauses (rank clause) ≡ Some clause
stands I = refl
stands Ii = refl
stands Iii = refl
stands Iv = refl
stands V = refl
stands Vi = refl
stands Vii = refl
stands Viii = refl

those_before : (clause : Clause) → clauses_before clause ≡ take (rank clause) all_clauses
those_before I = refl
those_before Ii = refl
those_before Iii = refl
those_before Iv = refl
those_before V = refl
those_before Vi = refl
those_before Vii = refl
those_before Viii = refl

same_value : (a b : Clause) → Some a ≡ Some b → a ≡ b
same_value a b e = ap (λ o. unwrap_or o a) e

one_rank : (a b : Clause) → rank a ≡ rank b → a ≡ b
one_rank a b same = same_value a b (sym (stands a) ∙ ap (slice_get all_clauses) same ∙ stands b)

module _ (script : Script) (report : Report) where
  holds_among : (clauses : List Clause) (n i : ℕ) (clause : Clause) → i < n → slice_get clauses i ≡ Some clause → EachHolds script report (take n clauses) → AllHold (facts_of script report clause)
  holds_among clauses zero i clause lt at h = absurd (omega (arith, lt))
  holds_among [] (suc n) i clause lt at h = cc
  holds_among (c ∷ clauses) (suc n) zero clause lt at h = subst (λ x. AllHold (facts_of script report x)) (same_value c clause at) h.0
  holds_among (c ∷ clauses) (suc n) (suc i) clause lt at h = holds_among clauses n i clause (omega (arith, lt)) at h.1

  -- if one clause breaks first, those before it hold
  holds_before : (clause other : Clause) → rank other < rank clause → EachHolds script report (clauses_before clause) → AllHold (facts_of script report other)
  holds_before clause other lt h = holds_among all_clauses (rank clause) (rank other) other lt (stands other) (subst (EachHolds script report) (those_before clause) h)

  -- each clause of a right report holds
  pub holds_in : IsRightReport script report → (clause : Clause) → AllHold (facts_of script report clause)
  holds_in h clause = holds_among all_clauses 8 (rank clause) clause (below clause) (stands clause) h
    where
      below : (clause : Clause) → rank clause < 8
      below I = omega arith
      below Ii = omega arith
      below Iii = omega arith
      below Iv = omega arith
      below V = omega arith
      below Vi = omega arith
      below Vii = omega arith
      below Viii = omega arith

  -- a right report breaks no clause at any place
  pub breaks_nowhere : IsRightReport script report → (clause : Clause) (place : ℕ) → ¬ BreaksFirstAt (facts_of script report clause) place
  breaks_nowhere h clause place = none_breaks _ (holds_in h clause) place

  -- at most one clause of a report breaks first, at one place
  pub one_verdict : (a b : Clause) (m n : ℕ) → BreaksFirst script report a m → BreaksFirst script report b n → (a ≡ b) × (m ≡ n)
  one_verdict a b m n g h =
      elim (cases_order (rank a) (rank b)) [
        | inl same ↦ let is = one_rank a b same in (is, one_place _ m n (subst (λ c. BreaksFirstAt (facts_of script report c) m) is g.1) h.1)
        | inr differ ↦ elim differ [
          | inl less ↦ absurd (none_breaks _ (holds_before b a less h.0) m g.1)
          | inr more ↦ absurd (none_breaks _ (holds_before a b more g.0) n h.1)
        ]
      ]
