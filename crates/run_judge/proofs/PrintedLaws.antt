-- The first place at which the order isn't as the printed order.
-- Used by `first_difference` and `first_fault`.
use Rattle.std.proofs.Common.{◌≡◌, ℕ, zero, suc, ◌+◌, ◌<◌, ◌≤◌, List, [], ◌∷◌, ◌++◌, length, take, drop, Option, Some, None, inl, inr, refl, sym, ap, ◌∙◌, subst, arith}
use Rattle.std.specs.Prelude.{slice_get}
use Rattle.std.proofs.lemmas.Bool.{cases_lt}
use Rattle.std.proofs.lemmas.List.{take-append-drop, take_all}
use Rattle.std.proofs.lemmas.Option.{same_Some, slice_get_past}
use Rattle.weave_data.specs.Facts.{AllHold, BreaksFirstAt, facts_after, facts_in_turn}
use Rattle.weave_data.proofs.Lists.{append-step, get-some}
use Rattle.report_rules.specs.declared.report.Report.{Report}
use Rattle.report_rules.specs.PrintedOrder.{IsPrintedOrder}
use Rattle.order_witness.specs.Judgement.{IsFirstFault}
use Rattle.order_witness.proofs.Loops.{end_breaks, within_breaks}
use Rattle.run_judge.specs.Differences.{IsFirstDifference}
use Rattle.run_judge.specs.Promises.{BeginsPrintedOrder, printed_order_clause}
use Rattle.run_judge.proofs.PromiseLaws.{printed_so}

-- a report has one printed order
abbrev pub IsOne : Type 0
IsOne = (report : Report) (a b : List ℕ) → IsPrintedOrder report a → IsPrintedOrder report b → a ≡ b

next_is : (front : List ℕ) (r : ℕ) (rest : List ℕ) → slice_get (front ++ r ∷ rest) (length front) ≡ Some r
next_is [] r rest = refl
next_is (x ∷ front) r rest = next_is front r rest

module _ (one : IsOne) (report : Report) (printed : List ℕ) (is : IsPrintedOrder report printed) where
  abbrev Begins : List ℕ → ℕ → Type 0
  Begins before r = BeginsPrintedOrder report (before ++ r ∷ [])

  -- the printed order goes on with r after these exactly if it has it there
  begins_so : (before rest : List ℕ) (r : ℕ) → printed ≡ before ++ r ∷ rest → Begins before r
  begins_so before rest r same = (rest, subst (IsPrintedOrder report) (same ∙ append-step before r rest) is)

  only_so : (before : List ℕ) (r : ℕ) → Begins before r → slice_get printed (length before) ≡ Some r
  only_so before r begins =
      ap (λ (xs : List ℕ). slice_get xs (length before)) (one report printed ((before ++ r ∷ []) ++ begins.0) is begins.1 ∙ sym (append-step before r begins.0)) ∙ next_is before r begins.0

  -- the first difference after these
  breaks_after : (before found wanted : List ℕ) (k : ℕ) → printed ≡ before ++ wanted → k < length found → take k found ≡ take k wanted → ¬ (slice_get found k ≡ slice_get wanted k) → BreaksFirstAt (facts_after before Begins found) (suc k)
  breaks_after before [] wanted k same less front other = absurd (omega (arith, less))
  breaks_after before (x ∷ found) wanted zero same less front other =
      λ begins. other (sym (sym (ap (λ (xs : List ℕ). slice_get xs (length before)) same ∙ at_seam before wanted) ∙ only_so before x begins))
    where
      at_seam : (front rest : List ℕ) → slice_get (front ++ rest) (length front) ≡ slice_get rest zero
      at_seam [] rest = refl
      at_seam (y ∷ front) rest = at_seam front rest
  breaks_after before (x ∷ found) [] (suc k) same less front other = cc
  breaks_after before (x ∷ found) (w ∷ wanted) (suc k) same less front other =
      let heads : x ≡ w = head_is x w (take k found) (take k wanted) front in
      let on : printed ≡ (before ++ x ∷ []) ++ wanted = same ∙ append-step before w wanted ∙ ap (λ n. (before ++ n ∷ []) ++ wanted) (sym heads) in
      (begins_so before wanted x (same ∙ ap (λ n. before ++ n ∷ wanted) (sym heads)), breaks_after (before ++ x ∷ []) found wanted k on (omega (arith, less)) (tail_is x w (take k found) (take k wanted) front) other)
    where
      head_is : (a b : ℕ) (xs ys : List ℕ) → a ∷ xs ≡ b ∷ ys → a ≡ b
      head_is a b xs ys e = cc

      tail_is : (a b : ℕ) (xs ys : List ℕ) → a ∷ xs ≡ b ∷ ys → xs ≡ ys
      tail_is a b xs ys e = cc

  all_begin : (before found rest : List ℕ) → printed ≡ before ++ (found ++ rest) → AllHold (facts_after before Begins found)
  all_begin before [] rest same = tt
  all_begin before (x ∷ found) rest same = (begins_so before (found ++ rest) x same, all_begin (before ++ x ∷ []) found rest (same ∙ append-step before x (found ++ rest)))

  at_end : (k : ℕ) → k ≡ length report.order → take k report.order ≡ take k printed → ¬ (slice_get report.order k ≡ slice_get printed k) → BreaksFirstAt (printed_order_clause report) (k + 1)
  at_end k last front other =
      let whole : report.order ≡ take k printed = sym (take_all k report.order (omega (arith, last))) ∙ front in
      let joined : printed ≡ report.order ++ drop k printed = sym (take-append-drop k printed) ∙ ap (λ (xs : List ℕ). xs ++ drop k printed) (sym whole) in
      subst (λ n. BreaksFirstAt (printed_order_clause report) (n + 1)) (sym last)
      (end_breaks Begins (IsPrintedOrder report report.order) report.order (all_begin [] report.order (drop k printed) joined)
      (λ so. other (ap (λ (xs : List ℕ). slice_get xs k) (one report report.order printed so is))))

  -- the first difference of the order and the printed order is the first place that breaks the clause
  pub first_place : (result : Option ℕ) → IsFirstDifference printed report.order result → IsFirstFault (printed_order_clause report) result
  first_place None same = (printed_so report).1 (subst (IsPrintedOrder report) (sym same) is)
  first_place (Some place) h =
      let k : ℕ = h.0 in
      subst (BreaksFirstAt (printed_order_clause report)) (sym h.1)
      (elim (cases_lt k (length report.order)) [
        | inl less ↦
            let same : k + 1 ≡ suc k = omega arith in
            within_breaks Begins (IsPrintedOrder report report.order) report.order (k + 1) (subst (BreaksFirstAt (facts_in_turn Begins report.order)) (sym same) (breaks_after [] report.order printed k refl less h.3 h.4))
        | inr past ↦ at_end k (let most = h.2 in omega (arith, past, most)) h.3 h.4
      ])

-- Two lists, compared place by place

-- one place more is the same
pub same_more : (found wanted : List ℕ) (k x : ℕ) → k < length found → slice_get found k ≡ Some x → slice_get wanted k ≡ Some x → take k found ≡ take k wanted → take (k + 1) found ≡ take (k + 1) wanted
same_more found wanted k x within is_found is_wanted front =
    take_one found k x is_found ∙ ap (λ (xs : List ℕ). xs ++ x ∷ []) front ∙ sym (take_one wanted k x is_wanted)
  where
    take_one : (xs : List ℕ) (k x : ℕ) → slice_get xs k ≡ Some x → take (k + 1) xs ≡ take k xs ++ x ∷ []
    take_one [] k x is = cc
    take_one (y ∷ xs) zero x is = ap (λ n. n ∷ []) (same_Some y x is)
    take_one (y ∷ xs) (suc k) x is =
        let more : suc k + 1 ≡ suc (k + 1) = omega arith in
        ap (λ n. take n (y ∷ xs)) more ∙ ap (λ (zs : List ℕ). y ∷ zs) (take_one xs k x is)

-- all of the first list is the same as the second, which is no longer
pub same_whole : (found wanted : List ℕ) (k : ℕ) → length found ≤ k → length wanted ≤ length found → take k found ≡ take k wanted → found ≡ wanted
same_whole found wanted k all no_longer front = sym (take_all k found all) ∙ front ∙ take_all k wanted (omega (arith, all, no_longer))

-- the lists differ where the first has ended and the second hasn't
pub ended_early : (found wanted : List ℕ) → length found < length wanted → ¬ (slice_get found (length found) ≡ slice_get wanted (length found))
ended_early found wanted less same =
    let some = get-some wanted (length found) less in
    none_some some.0 (sym (slice_get_past found (length found) (omega arith)) ∙ same ∙ some.1)
  where
    none_some : (x : ℕ) → ¬ (None ≡ Some x)
    none_some x e = cc
