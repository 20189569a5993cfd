use Rattle.std.proofs.Common.{◌+◌, List, refl, sym, ◌∙◌, subst}
use Rattle.std.proofs.lemmas.Bool.{both_ways}
use Rattle.report_rules.specs.declared.report.Reply.{Reply}
use Rattle.weave_data.specs.Facts.{BreaksFirstAt, facts_of_each}
use Rattle.report_rules.specs.RightReport.{IsConflictInPlace}
use Rattle.order_witness.specs.Begun.{request_precedes}
use Rattle.order_witness.proofs.Loops.{each_step, each_breaks}
use Rattle.order_witness.proofs.Testing.{conflict_fact, conflict_test}
use Rattle.order_witness.proofs.conflicts.first_out_of_place.Goals as goal

pub returns-then-not-holds : goal.returns-then-not-holds
returns-then-not-holds c =
    subst (λ (replies : List Reply). BreaksFirstAt (facts_of_each (λ (reply : Reply). IsConflictInPlace c.args.script.now c.args.report.now reply.request reply.state) replies) (c.loop-place.place + 1)) c.as_slice-reply-items.ensures
    (each_breaks (λ (reply : Reply). IsConflictInPlace c.args.script.now c.args.report.now reply.request reply.state) c.as_slice-reply-items.result.now c.loop-place.place c.reply-item.result
    c.loop-place-test.true c.loop-place.invariant c.reply-item.is
    (λ fact. both_ways _ (sym c.is_in_place-holds.ensures ∙ c.if-not-holds.true) (conflict_test c.precedence_is_decided.ensures.tested c.args.script.now c.args.report.now (request_precedes c.args.report.now) (λ a b. refl) c.reply-item.result.request c.reply-item.result.state fact)))

pub loop-place-preserved : goal.loop-place-preserved
loop-place-preserved c =
    each_step (λ (reply : Reply). IsConflictInPlace c.args.script.now c.args.report.now reply.request reply.state) c.as_slice-reply-items.result.now c.loop-place.place c.reply-item.result
    c.loop-place-test.true c.loop-place.invariant c.reply-item.is
    (conflict_fact c.precedence_is_decided.ensures.tested c.args.script.now c.args.report.now (request_precedes c.args.report.now) (λ a b. refl) c.reply-item.result.request c.reply-item.result.state (sym c.is_in_place-holds.ensures ∙ c.if-not-holds.false))
