-- A request that the walk doesn't mark is listed in order, and one that it marks isn't.
-- Used by `first_out_of_place`.
use Rattle.std.proofs.Common.{◌≡◌, ℕ, ◌+◌, ◌<◌, Bool, not, ◌&&◌, IsTrue, List, [], length, take, inl, inr, sym, ◌∙◌, subst, arith}
use Rattle.std.proofs.lemmas.Bool.{and_parts, and_from, both_ways, cases_eq, cases_Bool, not-true, not_from_false}
use Rattle.std.proofs.lemmas.List.{get_or-take, length-take-le}
use Rattle.program_defs.specs.declared.script.Script.{Script}
use Rattle.report_rules.specs.declared.report.Report.{Report}
use Rattle.report_rules.specs.Lookups.{is_in, RequestPrecedes}
use Rattle.report_rules.specs.RightReport.{IsListedInOrder}
use Rattle.order_witness.specs.Heads.{item}
use Rattle.order_witness.specs.Marks.{is_marked, ArePreceders}
use Rattle.order_witness.specs.Preceding.{direct_steps, AreStepsOf}
use Rattle.order_witness.specs.Tops.{is_last_of_session}
use Rattle.order_witness.proofs.Leading.{in_read, item_in}
use Rattle.order_witness.proofs.Printing.{all_at, all_from}
use Rattle.order_witness.proofs.Walking.{marked_if}

module _ (script : Script) (report : Report) (befores : List (List ℕ)) (steps : AreStepsOf report befores) (order : List ℕ) (place : ℕ) (within : place < length order) (marked : List Bool) (are : ArePreceders (direct_steps report befores) order (place + 1) marked []) where
  abbrev r : ℕ
  r = item order place

  front : length (take place order) ≡ place
  front = length-take-le place order (omega (arith, within))

  -- an unmarked request that is the last of its session is listed in order
  pub listed_in_order : IsTrue (not (is_marked marked r) && is_last_of_session script (take place order) r) → IsListedInOrder script report (take place order) r
  listed_in_order h =
      let parts = and_parts (not (is_marked marked r)) (is_last_of_session script (take place order) r) h in
      let none : (k : ℕ) → k < place + 1 → ¬ RequestPrecedes report r (item order k) = λ k below way. both_ways _ (not-true (is_marked marked r) parts.0) (marked_if (direct_steps report befores) order (place + 1) marked are r (record { place = k; within = below; precedes = (steps r (item order k)).1 way })) in (
        (
          none place (omega arith),
          all_from (λ e. ¬ RequestPrecedes report r e) (take place order) (λ e there.
              let at = in_read e (take place order) there in
              let below : at.0 < place = omega (arith, at.1, front) in
              let is : item order at.0 ≡ e = sym (get_or-take place order at.0 0 below) ∙ at.2 in
              subst (λ n. ¬ RequestPrecedes report r n) is (none at.0 (omega (arith, below)))),
        ),
        parts.1,
      )

  -- one that is listed in order is unmarked, and the last of its session
  pub in_order_listed : IsListedInOrder script report (take place order) r → IsTrue (not (is_marked marked r) && is_last_of_session script (take place order) r)
  in_order_listed fact =
      and_from _ _
      (elim (cases_Bool (is_marked marked r)) [
        | inr no_mark ↦ not_from_false (is_marked marked r) no_mark
        | inl mark ↦
            let one = are.sound r mark in
            let way : RequestPrecedes report r (item order one.place) = (steps r (item order one.place)).0 one.precedes in
            absurd (elim (cases_eq one.place place) [
              | inl same ↦ fact.0.0 (subst (λ k. RequestPrecedes report r (item order k)) same way)
              | inr other ↦
                  let less = one.within in
                  let below : one.place < place = omega (arith, less, other) in
                  all_at (λ e. ¬ RequestPrecedes report r e) (take place order) (item order one.place) fact.0.1 (subst (λ e. IsTrue (is_in e (take place order))) (get_or-take place order one.place 0 below) (item_in (take place order) one.place (omega (arith, below, front)))) way
            ])
      ])
      fact.1
