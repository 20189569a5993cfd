use Rattle.std.proofs.Common.{◌≡◌, ℕ, List, Some, Contains, length, sym, ap, subst}
use Rattle.report_rules.specs.declared.report.Reply.{Reply}
use Rattle.order_witness.specs.declared.heads.Run.{Run}
use Rattle.order_witness.specs.Begun.{stamp_in}
use Rattle.order_witness.specs.Heads as heads
use Rattle.order_witness.specs.Preceding.{direct_steps}
use Rattle.order_witness.specs.Rows.{AreTurns, ArePlacesIn, RowsTell}
use Rattle.order_witness.proofs.TakenTurns.{are_lined, are_turns, counts_tell}
use Rattle.order_witness.proofs.conflicts.first_by_counts.Goals as goal

pub rows_along-requires-clause-lined : goal.rows_along-requires-clause-lined
rows_along-requires-clause-lined c =
    let report = c.args.report.now in
    let line : List ℕ = c.as_slice-line.result.now in
    let many = ap (λ (rs : List Reply). length rs) c.as_slice-replies.ensures in
    are_lined c.args.script.now report c.requires.replies c.args.befores.now c.requires.size c.requires.ends c.precedence_is_decided.ensures.closed c.requires.steps
    (record { irreflexive = c.stamps_are_ordered.ensures.irreflexive; transitive = c.stamps_are_ordered.ensures.transitive })
    line c.as_slice-runs.result.now c.as_slice-places.result.now
    (λ place stamp at. subst (λ (xs : List ℕ). Contains xs place) (sym c.as_slice-line.ensures.value) (c.in_ok-parts.ensures place stamp (subst (λ (rs : List Reply). stamp_in rs place ≡ Some stamp) (sym c.as_slice-replies.ensures) at)))
    (subst (heads.AreRising report line) (sym c.as_slice-runs.ensures.value) c.in_ok-cut.ensures.rising)
    (λ k below. subst (λ (rs : List Run). heads.IsReached rs k) (sym c.as_slice-runs.ensures.value) (c.in_ok-cut.ensures.reached k below))
    (subst (λ n. ArePlacesIn line n (length line) c.as_slice-places.result.now) many (subst (ArePlacesIn line (length c.as_slice-replies.result.now) (length line)) (sym c.as_slice-places.ensures.value) c.in_ok-found.ensures))

pub rows_along-requires-clause-turns : goal.rows_along-requires-clause-turns
rows_along-requires-clause-turns c =
    let report = c.args.report.now in
    subst (AreTurns (direct_steps report c.args.befores.now) c.args.turns.now) (sym (ap (λ (rs : List Reply). length rs) c.as_slice-replies.ensures))
    (are_turns c.args.script.now report c.requires.replies c.args.befores.now c.requires.size c.requires.ends c.precedence_is_decided.ensures.closed c.requires.steps c.args.turns.now c.requires.turns)

pub first_out_of_place-requires : goal.first_out_of_place-requires
first_out_of_place-requires c =
    let report = c.args.report.now in
    let line : List ℕ = c.as_slice-line.result.now in
    let runs : List Run = c.as_slice-runs.result.now in
    counts_tell c.args.script.now report c.requires.replies c.args.befores.now c.requires.size c.requires.ends c.precedence_is_decided.ensures.closed c.requires.steps c.args.turns.now c.requires.turns
    line runs c.as_slice.result.now (subst (heads.AreRising report line) (sym c.as_slice-runs.ensures.value) c.in_ok-cut.ensures.rising)
    (subst (RowsTell (direct_steps report c.args.befores.now) line runs c.args.turns.now) (sym c.as_slice.ensures.value) c.in_ok-rows.ensures)
