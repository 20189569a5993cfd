use Rattle.std.proofs.Common.{◌≡◌, ◌<◌, ◌∙◌, ℕ, List, Some, Contains, length, sym, ap, subst}
use Rattle.report_rules.specs.declared.report.Reply.{Reply}
use Rattle.report_rules.specs.declared.report.Pair.{Pair}
use Rattle.order_witness.specs.declared.heads.Run.{Run}
use Rattle.order_witness.specs.Begun.{pairs_lead, stamp_in}
use Rattle.order_witness.specs.Heads as heads
use Rattle.order_witness.proofs.Replying.{differ}
use Rattle.order_witness.proofs.Ways.{are_runs, are_steps}
use Rattle.order_witness.proofs.chain.chain_between.Goals as goal

pub chain_in-requires-clause-size : goal.chain_in-requires-clause-size
chain_in-requires-clause-size c = c.in_ok-befores.ensures.size ∙ ap (λ (rs : List Reply). length rs) c.as_slice-replies.ensures

pub chain_in-requires-clause-ends : goal.chain_in-requires-clause-ends
chain_in-requires-clause-ends c e r below =
    c.in_ok-befores.ensures.ends e r (subst (λ (rs : List Reply). r < length rs) (sym c.as_slice-replies.ensures) below)
    ∙ ap (λ (rs : List Reply). pairs_lead rs c.as_slice.result.now e r) c.as_slice-replies.ensures ∙ ap (λ (ps : List Pair). pairs_lead c.args.report.now.replies ps e r) c.as_slice.ensures

pub chain_in-requires-clause-runs : goal.chain_in-requires-clause-runs
chain_in-requires-clause-runs c =
    let report = c.args.report.now in
    let line : List ℕ = c.as_slice-line.result.now in
    are_runs report c.in_ok-befores.befores (c.in_ok-befores.ensures.size ∙ ap (λ (rs : List Reply). length rs) c.as_slice-replies.ensures)
    (λ e r below.
    c.in_ok-befores.ensures.ends e r (subst (λ (rs : List Reply). r < length rs) (sym c.as_slice-replies.ensures) below)
    ∙ ap (λ (rs : List Reply). pairs_lead rs c.as_slice.result.now e r) c.as_slice-replies.ensures ∙ ap (λ (ps : List Pair). pairs_lead report.replies ps e r) c.as_slice.ensures)
    (record { irreflexive = c.stamps_are_ordered.ensures.irreflexive; transitive = c.stamps_are_ordered.ensures.transitive })
    line c.as_slice-runs.result.now
    (λ place stamp at. subst (λ (xs : List ℕ). Contains xs place) (sym c.as_slice-line.ensures.value) (c.in_ok-parts.ensures place stamp (subst (λ (rs : List Reply). stamp_in rs place ≡ Some stamp) (sym c.as_slice-replies.ensures) at)))
    (subst (heads.AreRising report line) (sym c.as_slice-runs.ensures.value) c.in_ok-cut.ensures.rising)
    (λ k below. subst (λ (rs : List Run). heads.IsReached rs k) (sym c.as_slice-runs.ensures.value) (c.in_ok-cut.ensures.reached k below))

pub chain_in-requires-clause-steps : goal.chain_in-requires-clause-steps
chain_in-requires-clause-steps c =
    let report = c.args.report.now in
    are_steps report c.in_ok-befores.befores (c.in_ok-befores.ensures.size ∙ ap (λ (rs : List Reply). length rs) c.as_slice-replies.ensures)
    (λ e r below.
    c.in_ok-befores.ensures.ends e r (subst (λ (rs : List Reply). r < length rs) (sym c.as_slice-replies.ensures) below)
    ∙ ap (λ (rs : List Reply). pairs_lead rs c.as_slice.result.now e r) c.as_slice-replies.ensures ∙ ap (λ (ps : List Pair). pairs_lead report.replies ps e r) c.as_slice.ensures)
    c.precedence_is_decided.ensures.closed c.one_pair_joins_its_ends.ensures (differ c.args.script.now report c.requires) c.precedence_is_decided.ensures.tested c.args.script.now
