use Rattle.std.proofs.Common.{◌≡◌, ◌+◌, ◌∙◌, ℕ, List, Some, length, take, refl, sym, subst, arith}
use Rattle.std.specs.Prelude.{slice_get}
use Rattle.std.proofs.lemmas.List.{take_all}
use Rattle.std.proofs.lemmas.Option.{slice_get_read}
use Rattle.weave_data.specs.Facts.{AllHold, facts_of_each}
use Rattle.report_rules.specs.declared.report.Reply.{Reply}
use Rattle.run_judge.specs.Phases.{IsBrokenPart}
use Rattle.run_judge.specs.Promises.{IsReplyInPhase}
use Rattle.run_judge.proofs.PhaseLaws.{first_fault_so, one_more_keeps}
use Rattle.run_judge.proofs.phases.first_out_of_phase.Goals as goal

pub returns-in-Some : goal.returns-in-Some
returns-in-Some c = λ script can.
    let report = c.args.report.now in
    let place : ℕ = c.loop-place.place in
    let reply : Reply = c.reply-item.result in
    let items : List Reply = c.as_slice-reply-items.result.now in
    let same : items ≡ report.replies = c.as_slice-reply-items.ensures in
    let at : slice_get report.replies place ≡ Some reply = subst (λ (rs : List Reply). slice_get rs place ≡ Some reply) same (slice_get_read items (length items) place reply refl c.loop-place-test.true c.reply-item.is) in
    let so_far = subst (λ (rs : List Reply). AllHold (facts_of_each (IsReplyInPhase script report) (take place rs))) same (c.loop-place.invariant script can) in
    let broken = subst (IsBrokenPart script report place reply.state) c.in-Some.is (c.broken_part-found.ensures script can reply at refl) in
    first_fault_so script report can.replies can.conflicts place reply at so_far c.in-Some.broken.part c.in-Some.broken.other c.request_at.result broken c.request_at.ensures

pub loop-place-preserved : goal.loop-place-preserved
loop-place-preserved c = λ script can.
    let report = c.args.report.now in
    let place : ℕ = c.loop-place.place in
    let reply : Reply = c.reply-item.result in
    let items : List Reply = c.as_slice-reply-items.result.now in
    let same : items ≡ report.replies = c.as_slice-reply-items.ensures in
    let at : slice_get report.replies place ≡ Some reply = subst (λ (rs : List Reply). slice_get rs place ≡ Some reply) same (slice_get_read items (length items) place reply refl c.loop-place-test.true c.reply-item.is) in
    let so_far = subst (λ (rs : List Reply). AllHold (facts_of_each (IsReplyInPhase script report) (take place rs))) same (c.loop-place.invariant script can) in
    let keeps = subst (IsBrokenPart script report place reply.state) c.in_default.is (c.broken_part-found.ensures script can reply at refl) in
    subst (λ (rs : List Reply). AllHold (facts_of_each (IsReplyInPhase script report) (take (place + 1) rs))) (sym same) (one_more_keeps script report can.replies can.conflicts place reply at so_far keeps)

pub returns : goal.returns
returns c = λ script can.
    subst (λ (rs : List Reply). AllHold (facts_of_each (IsReplyInPhase script c.args.report.now) rs)) (take_all c.loop-place.place c.as_slice-reply-items.result.now (omega (arith, c.loop-place-test.false)) ∙ c.as_slice-reply-items.ensures) (c.loop-place.invariant script can)
