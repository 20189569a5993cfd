use Rattle.std.proofs.Common.{◌≡◌, ◌≤◌, ◌<◌, ◌∙◌, ℕ, List, length, sym, ap, subst}
use Rattle.std.specs.Prelude.{MatchOption}
use Rattle.vector_stamp.specs.declared.clock.Stamp.{Stamp}
use Rattle.order_witness.specs.ByNumber.{list_at}
use Rattle.order_witness.specs.Heads.{item}
use Rattle.report_rules.specs.Lookups.{RequestPrecedes}
use Rattle.report_rules.specs.Meetings.{phase_of}
use Rattle.run_judge.specs.Numbers.{ArePeaksOf, IsLaterCounted, NoneLaterCounted}
use Rattle.run_judge.proofs.PhaseLaws.{match_map, none_later, not_begun, one_later}
use Rattle.run_judge.proofs.phases.later_preceding.Goals as goal

pub returns-in_default : goal.returns-in_default
returns-in_default c = λ script can within.
    not_begun script c.args.report.now c.args.known.now.phases.items can.known_so.phases c.args.place within c.args.ways.now c.requires (sym c.stamp_of.ensures ∙ c.in_default.is)

pub returns : goal.returns
returns c = λ script can within.
    let report = c.args.report.now in
    let ways = c.args.ways.now in
    let phases : List ℕ = c.args.known.now.phases.items in
    let chains : List (List ℕ) = ways.chains.items in
    let row : List ℕ = list_at ways.rows.items c.args.place in
    let phase : ℕ = item phases c.args.place in
    let s : Stamp = c.in-Some.field-0 in
    let begun = sym c.stamp_of.ensures ∙ c.in-Some.is in
    let row_is : c.list_at-row.result.now ≡ row = c.list_at-row.ensures ∙ ap (λ (rows : List (List ℕ)). list_at rows c.args.place) c.as_slice.ensures.value in
    let phases_are : c.as_slice-phases.result.now ≡ phases = c.as_slice-phases.ensures.value in
    let phase_is : c.item.result ≡ phase = c.item.ensures ∙ ap (λ (xs : List ℕ). item xs c.args.place) phases_are in
    let found : MatchOption c.later_counted.result (NoneLaterCounted c.as_slice-phases.result.now chains c.list_at-row.result.now c.item.result) (IsLaterCounted c.as_slice-phases.result.now chains c.list_at-row.result.now c.item.result) =
    c.later_counted.ensures chains (subst (ArePeaksOf c.as_slice-phases.result.now chains) (sym c.as_slice-2.ensures.value) (subst (λ (xs : List ℕ). ArePeaksOf xs chains c.args.known.now.peaks.items) (sym phases_are) can.known_so.peaks))
    (λ n. subst (λ (xs : List ℕ). item xs n ≤ length (list_at chains n)) (sym row_is) ((c.requires.rows c.args.place s begun).within n)) in
    match_map (IsLaterCounted phases chains row phase) (λ other. (phase_of script c.args.place < phase_of script other) × RequestPrecedes report other c.args.place)
    (λ none. none_later script report phases can.known_so.phases c.args.place within ways c.requires none s begun)
    (λ p later. one_later script report phases can.known_so.phases c.args.place within ways c.requires p later s begun)
    c.later_counted.result
    (subst (λ n. MatchOption c.later_counted.result (NoneLaterCounted phases chains row n) (IsLaterCounted phases chains row n)) phase_is
    (subst (λ (xs : List ℕ). MatchOption c.later_counted.result (NoneLaterCounted phases chains xs c.item.result) (IsLaterCounted phases chains xs c.item.result)) row_is
    (subst (λ (xs : List ℕ). MatchOption c.later_counted.result (NoneLaterCounted xs chains c.list_at-row.result.now c.item.result) (IsLaterCounted xs chains c.list_at-row.result.now c.item.result)) phases_are found)))
