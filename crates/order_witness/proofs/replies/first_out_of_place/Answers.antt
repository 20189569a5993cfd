use Rattle.std.proofs.Common.{IsTrue, List, sym, subst, ◌∙◌, arith}
use Rattle.std.proofs.lemmas.Bool.{both_ways}
use Rattle.std.proofs.lemmas.List.{take_all}
use Rattle.report_rules.specs.declared.report.Reply.{Reply}
use Rattle.weave_data.specs.Facts.{AllHold, facts_in_turn}
use Rattle.report_rules.specs.RightReport.{is_reply_in_place}
use Rattle.order_witness.proofs.Loops.{turn_step, turn_breaks}
use Rattle.order_witness.proofs.replies.first_out_of_place.Goals as goal

pub returns-then-not-holds : goal.returns-then-not-holds
returns-then-not-holds c =
    turn_breaks (λ before (reply : Reply). IsTrue (is_reply_in_place c.args.script.now before reply)) c.args.replies.now c.loop-place.place c.index-replies-place.result
    c.loop-place-test.true c.loop-place.invariant c.index-replies-place.is (both_ways _ (sym c.is_in_place-holds.ensures ∙ c.if-not-holds.true))

pub loop-place-preserved : goal.loop-place-preserved
loop-place-preserved c =
    turn_step (λ before (reply : Reply). IsTrue (is_reply_in_place c.args.script.now before reply)) c.args.replies.now c.loop-place.place c.index-replies-place.result
    c.loop-place-test.true c.loop-place.invariant c.index-replies-place.is (sym c.is_in_place-holds.ensures ∙ c.if-not-holds.false)

pub returns : goal.returns
returns c =
    subst (λ (replies : List Reply). AllHold (facts_in_turn (λ before (reply : Reply). IsTrue (is_reply_in_place c.args.script.now before reply)) replies)) (take_all c.loop-place.place c.args.replies.now (omega (arith, c.loop-place-test.false))) c.loop-place.invariant
