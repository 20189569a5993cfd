use Rattle.std.proofs.Common.{◌+◌, List, ℕ, get_or, sym, ◌∙◌, subst}
use Rattle.std.proofs.lemmas.Bool.{both_ways}
use Rattle.std.proofs.lemmas.List.{get_or_default, take_more}
use Rattle.weave_data.specs.Facts.{BreaksFirstAt, facts_in_turn}
use Rattle.report_rules.specs.RightReport.{IsListedInOrder}
use Rattle.order_witness.specs.Tops.{AreBelowTops}
use Rattle.order_witness.proofs.Listed.{listed_in_order, in_order_listed}
use Rattle.order_witness.proofs.Loops.{turn_step, turn_breaks}
use Rattle.order_witness.proofs.order.first_out_of_place.Goals as goal

pub returns-then-not-holds : goal.returns-then-not-holds
returns-then-not-holds c =
    let script = c.args.script.now in
    let report = c.args.report.now in
    let order : List ℕ = c.as_slice-order.result.now in
    let place : ℕ = c.loop-place.place in
    subst (λ (xs : List ℕ). BreaksFirstAt (facts_in_turn (IsListedInOrder script report) xs) (place + 1)) c.as_slice-order.ensures
    (turn_breaks (IsListedInOrder script report) order place (get_or order place 0)
    c.loop-place-test.true c.loop-place.invariant.hold (get_or_default order place 0 _ c.loop-place-test.true)
    (λ fact. both_ways _ (sym c.is_in_place-holds.ensures.holds ∙ c.if-not-holds.true) (in_order_listed script report c.args.befores.now c.requires.steps order place c.loop-place-test.true c.mark_before.new.marked c.in_ok-mark_before.ensures.marked fact)))

pub loop-place-preserved : goal.loop-place-preserved
loop-place-preserved c =
    let script = c.args.script.now in
    let report = c.args.report.now in
    let order : List ℕ = c.as_slice-order.result.now in
    let place : ℕ = c.loop-place.place in
    record {
      hold =
          turn_step (IsListedInOrder script report) order place (get_or order place 0)
          c.loop-place-test.true c.loop-place.invariant.hold (get_or_default order place 0 _ c.loop-place-test.true)
          (listed_in_order script report c.args.befores.now c.requires.steps order place c.loop-place-test.true c.mark_before.new.marked c.in_ok-mark_before.ensures.marked (sym c.is_in_place-holds.ensures.holds ∙ c.if-not-holds.false));
      size = c.in_ok-mark_before.ensures.size ∙ c.loop-place.invariant.size;
      passed = c.in_ok-mark_before.ensures.passed;
      marked = c.in_ok-mark_before.ensures.marked;
      looked = c.in_ok-mark_before.ensures.looked;
      tops = subst (λ (xs : List ℕ). AreBelowTops script xs c.is_in_place-holds.new.tops) (sym (take_more order place 0 c.loop-place-test.true)) c.is_in_place-holds.ensures.tops;
    }
