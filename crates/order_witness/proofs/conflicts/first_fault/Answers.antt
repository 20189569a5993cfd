use Rattle.std.proofs.Common.{◌<◌, ◌∙◌, List, length, sym, ap, subst}
use Rattle.std.specs.Prelude.{MatchOption}
use Rattle.report_rules.specs.declared.report.Reply.{Reply}
use Rattle.report_rules.specs.declared.report.Pair.{Pair}
use Rattle.report_rules.specs.PrintedOrder.{TakesAll, begun_requests}
use Rattle.order_witness.specs.Begun.{pairs_lead, NonePrecedesItself}
use Rattle.order_witness.specs.Heads.{AreEarlierEnds}
use Rattle.order_witness.specs.Preceding.{AreStepsOf}
use Rattle.order_witness.specs.Rows.{AreAllTurns}
use Rattle.order_witness.proofs.Acyclic.{none_itself}
use Rattle.order_witness.proofs.Replying.{differ}
use Rattle.order_witness.proofs.Testing.{conflicts_hold}
use Rattle.order_witness.proofs.Ways.{are_steps}
use Rattle.order_witness.proofs.conflicts.first_fault.Goals as goal

pub returns-then-hold_by_stamps : goal.returns-then-hold_by_stamps
returns-then-hold_by_stamps c =
    conflicts_hold (λ pairs. (c.precedence_is_decided.ensures.closed pairs).has_stamps) c.precedence_is_decided.ensures.tested c.args.script.now c.args.report.now (sym c.hold_by_stamps.ensures ∙ c.if-hold_by_stamps.true)

pub first_by_counts-requires-clause-size : goal.first_by_counts-requires-clause-size
first_by_counts-requires-clause-size c = c.in_ok-befores.ensures.size ∙ ap (λ (rs : List Reply). length rs) c.as_slice.ensures

pub first_by_counts-requires-clause-ends : goal.first_by_counts-requires-clause-ends
first_by_counts-requires-clause-ends c e r below =
    c.in_ok-befores.ensures.ends e r (subst (λ (rs : List Reply). r < length rs) (sym c.as_slice.ensures) below)
    ∙ ap (λ (rs : List Reply). pairs_lead rs c.as_slice-2.result.now e r) c.as_slice.ensures ∙ ap (λ (ps : List Pair). pairs_lead c.args.report.now.replies ps e r) c.as_slice-2.ensures

pub first_by_counts-requires-clause-steps : goal.first_by_counts-requires-clause-steps
first_by_counts-requires-clause-steps c =
    let report = c.args.report.now in
    are_steps report c.in_ok-befores.befores (c.in_ok-befores.ensures.size ∙ ap (λ (rs : List Reply). length rs) c.as_slice.ensures)
    (λ e r below.
    c.in_ok-befores.ensures.ends e r (subst (λ (rs : List Reply). r < length rs) (sym c.as_slice.ensures) below)
    ∙ ap (λ (rs : List Reply). pairs_lead rs c.as_slice-2.result.now e r) c.as_slice.ensures ∙ ap (λ (ps : List Pair). pairs_lead report.replies ps e r) c.as_slice-2.ensures)
    c.precedence_is_decided.ensures.closed c.one_pair_joins_its_ends.ensures (differ c.args.script.now report c.requires.replies) c.precedence_is_decided.ensures.tested c.args.script.now

pub first_by_counts-requires-clause-turns : goal.first_by_counts-requires-clause-turns
first_by_counts-requires-clause-turns c =
    let report = c.args.report.now in
    let all = subst (λ turns. MatchOption turns (¬ NonePrecedesItself report) (λ t. AreAllTurns report t.items)) c.in-Some.is c.in_ok-turns.ensures in
    subst (TakesAll report (begun_requests report)) (sym c.as_slice-3.ensures.value) all.0

pub returns-in_default : goal.returns-in_default
returns-in_default c =
    let report = c.args.report.now in
    let size = c.in_ok-befores.ensures.size ∙ ap (λ (rs : List Reply). length rs) c.as_slice.ensures in
    let ends : AreEarlierEnds report c.in_ok-befores.befores = λ e r below.
    c.in_ok-befores.ensures.ends e r (subst (λ (rs : List Reply). r < length rs) (sym c.as_slice.ensures) below)
    ∙ ap (λ (rs : List Reply). pairs_lead rs c.as_slice-2.result.now e r) c.as_slice.ensures ∙ ap (λ (ps : List Pair). pairs_lead report.replies ps e r) c.as_slice-2.ensures in
    let steps : AreStepsOf report c.in_ok-befores.befores = are_steps report c.in_ok-befores.befores size ends c.precedence_is_decided.ensures.closed c.one_pair_joins_its_ends.ensures (differ c.args.script.now report c.requires.replies) c.precedence_is_decided.ensures.tested c.args.script.now in
    absurd ((subst (λ turns. MatchOption turns (¬ NonePrecedesItself report) (λ t. AreAllTurns report t.items)) c.in_default.is c.in_ok-turns.ensures)
    (none_itself c.args.script.now report c.requires.replies c.requires.listing c.requires.order c.requires.pairs (record { irreflexive = c.stamps_are_ordered.ensures.irreflexive; transitive = c.stamps_are_ordered.ensures.transitive }) c.in_ok-befores.befores size ends steps))
