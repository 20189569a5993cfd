use Rattle.std.proofs.Common.{◌≡◌, ◌+◌, List, Some, sym, ◌∙◌, subst}
use Rattle.std.specs.Prelude.{slice_get}
use Rattle.std.proofs.lemmas.Bool.{both_ways}
use Rattle.report_rules.specs.declared.report.Pair.{Pair}
use Rattle.weave_data.specs.Facts.{BreaksFirstAt, facts_of_each}
use Rattle.report_rules.specs.RightReport.{IsPairInPlace}
use Rattle.order_witness.specs.Visited.{IsMarkedPair}
use Rattle.order_witness.proofs.Loops.{each_step, each_breaks}
use Rattle.order_witness.proofs.Testing.{got_at, pair_fact, pair_test}
use Rattle.order_witness.proofs.pairs.first_fault.Goals as goal

pub returns-then-not-holds : goal.returns-then-not-holds
returns-then-not-holds c =
    let marked : IsMarkedPair c.args.script.now c.args.report.now c.pair-item.result c.mark_at.result =
    subst (IsMarkedPair c.args.script.now c.args.report.now c.pair-item.result) (sym c.mark_at.ensures)
    (c.requires c.loop-place.place c.pair-item.result (subst (λ (pairs : List Pair). slice_get pairs c.loop-place.place ≡ Some c.pair-item.result) c.as_slice-pair-items.ensures (got_at c.as_slice-pair-items.result.now c.loop-place.place c.pair-item.result c.loop-place-test.true c.pair-item.is))) in
    subst (λ (pairs : List Pair). BreaksFirstAt (facts_of_each (IsPairInPlace c.args.script.now c.args.report.now) pairs) (c.loop-place.place + 1)) c.as_slice-pair-items.ensures
    (each_breaks (IsPairInPlace c.args.script.now c.args.report.now) c.as_slice-pair-items.result.now c.loop-place.place c.pair-item.result
    c.loop-place-test.true c.loop-place.invariant c.pair-item.is
    (λ fact. both_ways _ (sym c.is_in_place-holds.ensures ∙ c.if-not-holds.true) (pair_test c.args.script.now c.args.report.now c.pair-item.result c.mark_at.result marked fact)))

pub loop-place-preserved : goal.loop-place-preserved
loop-place-preserved c =
    let marked : IsMarkedPair c.args.script.now c.args.report.now c.pair-item.result c.mark_at.result =
    subst (IsMarkedPair c.args.script.now c.args.report.now c.pair-item.result) (sym c.mark_at.ensures)
    (c.requires c.loop-place.place c.pair-item.result (subst (λ (pairs : List Pair). slice_get pairs c.loop-place.place ≡ Some c.pair-item.result) c.as_slice-pair-items.ensures (got_at c.as_slice-pair-items.result.now c.loop-place.place c.pair-item.result c.loop-place-test.true c.pair-item.is))) in
    each_step (IsPairInPlace c.args.script.now c.args.report.now) c.as_slice-pair-items.result.now c.loop-place.place c.pair-item.result
    c.loop-place-test.true c.loop-place.invariant c.pair-item.is
    (pair_fact c.args.script.now c.args.report.now c.pair-item.result c.mark_at.result marked (sym c.is_in_place-holds.ensures ∙ c.if-not-holds.false))
