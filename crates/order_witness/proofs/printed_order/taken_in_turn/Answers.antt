use Rattle.std.proofs.Common.{◌≡◌, ◌<◌, ◌∙◌, ℕ, List, Some, Contains, length, map, sym, ap, subst}
use Rattle.report_rules.specs.declared.report.Reply.{Reply}
use Rattle.report_rules.specs.declared.report.Pair.{Pair}
use Rattle.order_witness.specs.declared.heads.Run.{Run}
use Rattle.order_witness.specs.Begun.{pairs_lead, stamp_in}
use Rattle.order_witness.specs.Heads as heads
use Rattle.order_witness.proofs.Taking.{never, start_left, start_size, start_waiting}
use Rattle.order_witness.proofs.printed_order.taken_in_turn.Goals as goal

pub take_all-requires-clause-waiting : goal.take_all-requires-clause-waiting
take_all-requires-clause-waiting c =
    let report = c.args.report.now in
    let replies = c.as_slice-replies.result.now in
    let line : List ℕ = c.as_slice-3.result.now in
    let same_line : c.as_slice-2.result.now ≡ line = c.as_slice-2.ensures.value ∙ sym c.as_slice-3.ensures.value in
    start_waiting report c.as_mut_slice-3.result.now (c.as_mut_slice-3.ensures.value ∙ c.in_ok-done.ensures ∙ ap (map never) c.as_slice-replies.ensures)
    line c.in_ok-befores.befores c.as_mut_slice.result.now c.as_mut_slice-2.result.now (length replies)
    (λ place stamp at. subst (λ (xs : List ℕ). Contains xs place) (sym c.as_slice-3.ensures.value) (c.in_ok-line.ensures place stamp (subst (λ (rs : List Reply). stamp_in rs place ≡ Some stamp) (sym c.as_slice-replies.ensures) at)))
    (subst (heads.AreRising report line) (sym c.as_mut_slice.ensures.value) (subst (λ (xs : List ℕ). heads.AreRising report xs c.in_ok-runs.runs.items) same_line c.in_ok-runs.ensures.rising))
    (λ k below. subst (λ (rs : List Run). heads.IsReached rs k) (sym c.as_mut_slice.ensures.value) (c.in_ok-runs.ensures.reached k (subst (λ (xs : List ℕ). k < length xs) (sym same_line) below)))
    (λ e r below.
    c.in_ok-befores.ensures.ends e r (subst (λ (rs : List Reply). r < length rs) (sym c.as_slice-replies.ensures) below)
    ∙ ap (λ (rs : List Reply). pairs_lead rs c.as_slice.result.now e r) c.as_slice-replies.ensures ∙ ap (λ (ps : List Pair). pairs_lead report.replies ps e r) c.as_slice.ensures)
    (ap (λ (rs : List Reply). length rs) c.as_slice-replies.ensures)
    (c.as_mut_slice-2.ensures.value ∙ c.in_ok-seen.ensures)

pub take_all-requires-clause-size : goal.take_all-requires-clause-size
take_all-requires-clause-size c = start_size c.args.report.now c.as_mut_slice-3.result.now (c.as_mut_slice-3.ensures.value ∙ c.in_ok-done.ensures ∙ ap (map never) c.as_slice-replies.ensures)

pub take_all-requires-clause-start : goal.take_all-requires-clause-start
take_all-requires-clause-start c = start_left c.args.report.now c.as_mut_slice-3.result.now (c.as_mut_slice-3.ensures.value ∙ c.in_ok-done.ensures ∙ ap (map never) c.as_slice-replies.ensures) c.args.script.now c.requires
