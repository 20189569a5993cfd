use Rattle.std.proofs.Common.{◌+◌, List, IsTrue, sym, ◌∙◌, subst, arith}
use Rattle.std.proofs.lemmas.Bool.{both_ways}
use Rattle.std.proofs.lemmas.List.{take_all}
use Rattle.report_rules.specs.declared.report.Reply.{Reply}
use Rattle.weave_data.specs.Facts.{AllHold, BreaksFirstAt, facts_of_each}
use Rattle.report_rules.specs.Lookups.{is_final}
use Rattle.order_witness.proofs.Loops.{each_step, each_breaks}
use Rattle.run_judge.proofs.finals.first_open_reply.Goals as goal

pub returns-then-not-holds : goal.returns-then-not-holds
returns-then-not-holds c =
    subst (λ (replies : List Reply). BreaksFirstAt (facts_of_each (λ (reply : Reply). IsTrue (is_final reply.state)) replies) (c.loop-place.place + 1)) c.as_slice-reply-items.ensures
    (each_breaks (λ (reply : Reply). IsTrue (is_final reply.state)) c.as_slice-reply-items.result.now c.loop-place.place c.reply-item.result
    c.loop-place-test.true c.loop-place.invariant c.reply-item.is
    (λ fact. both_ways _ (sym c.is_final-holds.ensures ∙ c.if-not-holds.true) fact))

pub loop-place-preserved : goal.loop-place-preserved
loop-place-preserved c =
    each_step (λ (reply : Reply). IsTrue (is_final reply.state)) c.as_slice-reply-items.result.now c.loop-place.place c.reply-item.result
    c.loop-place-test.true c.loop-place.invariant c.reply-item.is
    (sym c.is_final-holds.ensures ∙ c.if-not-holds.false)

pub returns : goal.returns
returns c =
    subst (λ (replies : List Reply). AllHold (facts_of_each (λ (reply : Reply). IsTrue (is_final reply.state)) replies))
    (take_all c.loop-place.place c.as_slice-reply-items.result.now (omega (arith, c.loop-place-test.false)) ∙ c.as_slice-reply-items.ensures) c.loop-place.invariant
