use Rattle.std.proofs.Common.{◌<◌, List, ℕ, Some, None, length, get_or, ap, subst, arith}
use Rattle.std.proofs.lemmas.List.{take_all}
use Rattle.weave_data.specs.Facts.{AllHold, facts_in_turn}
use Rattle.graph_ops.specs.Graphs.{plain_of}
use Rattle.run_judge.specs.Meetings.{MeetsRequest}
use Rattle.run_judge.specs.Promises.{IsOrderedWhereMet}
use Rattle.run_judge.proofs.MeetingLaws.{none_kept}
use Rattle.run_judge.proofs.MeetingSteps.{none_found, one_found}
use Rattle.run_judge.proofs.meetings.first_fault.Goals as goal

pub loop-place-init : goal.loop-place-init
loop-place-init c = record {
  facts = tt;
  kept = none_kept c.precedence_is_decided.ensures.tested c.precedence_is_decided.ensures.closed c.args.script.now c.args.report.now c.no_vertices-vertices.result c.no_vertices-vertices.ensures.lasts c.no_vertices-vertices.ensures.since;
  graph_is = c.new-graph.ensures;
}

pub returns-in-Some : goal.returns-in-Some
returns-in-Some c =
    let script = c.args.script.now in
    let report = c.args.report.now in
    let place : ℕ = c.loop-place.place in
    let within : place < length report.order = subst (λ (xs : List ℕ). place < length xs) c.as_slice-order.ensures c.loop-place-test.true in
    let meets : MeetsRequest script report (get_or report.order place 0) (plain_of c.loop-place.graph) (plain_of c.meet.new.graph) c.loop-place.vertices c.meet.new.vertices (Some c.in-Some.unordered) =
    subst (MeetsRequest script report (get_or report.order place 0) (plain_of c.loop-place.graph) (plain_of c.meet.new.graph) c.loop-place.vertices c.meet.new.vertices) c.in-Some.is
    (subst (λ (xs : List ℕ). MeetsRequest script report (get_or xs place 0) (plain_of c.loop-place.graph) (plain_of c.meet.new.graph) c.loop-place.vertices c.meet.new.vertices c.in_ok-found.found) c.as_slice-order.ensures c.in_ok-found.ensures) in
    one_found c.precedence_is_decided.ensures.tested c.precedence_is_decided.ensures.closed script report c.requires.listing c.requires.order place within (plain_of c.loop-place.graph) (plain_of c.meet.new.graph) c.loop-place.vertices c.meet.new.vertices
    c.loop-place.invariant.facts c.loop-place.invariant.kept c.loop-place.invariant.graph_is c.in-Some.unordered meets

pub loop-place-preserved : goal.loop-place-preserved
loop-place-preserved c =
    let script = c.args.script.now in
    let report = c.args.report.now in
    let place : ℕ = c.loop-place.place in
    let within : place < length report.order = subst (λ (xs : List ℕ). place < length xs) c.as_slice-order.ensures c.loop-place-test.true in
    let meets : MeetsRequest script report (get_or report.order place 0) (plain_of c.loop-place.graph) (plain_of c.meet.new.graph) c.loop-place.vertices c.meet.new.vertices None =
    subst (MeetsRequest script report (get_or report.order place 0) (plain_of c.loop-place.graph) (plain_of c.meet.new.graph) c.loop-place.vertices c.meet.new.vertices) c.in_default.is
    (subst (λ (xs : List ℕ). MeetsRequest script report (get_or xs place 0) (plain_of c.loop-place.graph) (plain_of c.meet.new.graph) c.loop-place.vertices c.meet.new.vertices c.in_ok-found.found) c.as_slice-order.ensures c.in_ok-found.ensures) in
    let on = none_found c.precedence_is_decided.ensures.tested c.precedence_is_decided.ensures.closed script report c.requires.listing c.requires.order place within (plain_of c.loop-place.graph) (plain_of c.meet.new.graph) c.loop-place.vertices c.meet.new.vertices
    c.loop-place.invariant.facts c.loop-place.invariant.kept c.loop-place.invariant.graph_is meets in
    record { facts = on.facts_hold; kept = on.kept_on; graph_is = on.graph_on }

pub returns : goal.returns
returns c =
    let past = ap (λ (xs : List ℕ). length xs) c.as_slice-order.ensures in
    subst (λ (xs : List ℕ). AllHold (facts_in_turn (IsOrderedWhereMet c.args.script.now c.args.report.now) xs)) (take_all c.loop-place.place c.args.report.now.order (omega (arith, past, c.loop-place-test.false))) c.loop-place.invariant.facts
