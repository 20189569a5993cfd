use Rattle.std.proofs.Common.{◌≡◌, ◌+◌, ◌<◌, ℕ, Bool, false, List, get_or, length, refl, sym, ap, ◌∙◌, subst}
use Rattle.std.specs.Prelude.{slice_get}
use Rattle.std.proofs.lemmas.Bool.{both_ways}
use Rattle.std.proofs.lemmas.Option.{slice_get_read}
use Rattle.program_defs.specs.declared.script.Script.{Script}
use Rattle.report_rules.specs.declared.report.Report.{Report}
use Rattle.report_rules.specs.declared.report.Reply.{Reply}
use Rattle.report_rules.specs.Replay.{graph_of_commits}
use Rattle.weave_data.specs.Facts.{BreaksFirstAt, facts_of_each}
use Rattle.report_rules.specs.RightReport.{IsRefusalInPlace}
use Rattle.order_witness.specs.Refusals.{AreMarked, Marks, IsRefusedSo}
use Rattle.order_witness.proofs.Loops.{each_step, each_breaks}
use Rattle.order_witness.proofs.RefusalTests.{IsRight, refusal_fact, refusal_test}
use Rattle.order_witness.proofs.refusals.first_out_of_place.Goals as goal

-- the mark at the place of a reply is right
right_mark : (script : Script) (report : Report) (marks : List Bool) (replies : List Reply) (i : ℕ) (reply : Reply) (mark : Bool) → AreMarked script report marks → replies ≡ report.replies → i < length replies → reply ≡ get_or replies i reply → mark ≡ get_or marks i false
    → IsRight script report reply.request mark reply.state
right_mark script report marks replies i reply mark marked is lt item mark_is at after within =
    subst (λ b. Marks b (IsRefusedSo script (graph_of_commits script report at) reply.request reply.state)) (sym mark_is)
    (marked i at reply (ap (λ (rs : List Reply). slice_get rs i) (sym is) ∙ slice_get_read replies (length replies) i reply refl lt item) after within)

pub returns-then-not-holds : goal.returns-then-not-holds
returns-then-not-holds c =
    subst (λ (replies : List Reply). BreaksFirstAt (facts_of_each (λ (reply : Reply). IsRefusalInPlace c.args.script.now c.args.report.now reply.request reply.state) replies) (c.loop-place.place + 1)) c.as_slice-reply-items.ensures
    (each_breaks (λ (reply : Reply). IsRefusalInPlace c.args.script.now c.args.report.now reply.request reply.state) c.as_slice-reply-items.result.now c.loop-place.place c.reply-item.result
    c.loop-place-test.true c.loop-place.invariant c.reply-item.is
    (λ fact. both_ways _ (sym c.is_in_place-holds.ensures ∙ c.if-not-holds.true)
    (refusal_test c.args.script.now c.args.report.now c.reply-item.result.request c.mark_at-mark.result c.reply-item.result.state
    (right_mark c.args.script.now c.args.report.now c.args.marks.now c.as_slice-reply-items.result.now c.loop-place.place c.reply-item.result c.mark_at-mark.result c.requires.marked c.as_slice-reply-items.ensures c.loop-place-test.true c.reply-item.is c.mark_at-mark.ensures) fact)))

pub loop-place-preserved : goal.loop-place-preserved
loop-place-preserved c =
    each_step (λ (reply : Reply). IsRefusalInPlace c.args.script.now c.args.report.now reply.request reply.state) c.as_slice-reply-items.result.now c.loop-place.place c.reply-item.result
    c.loop-place-test.true c.loop-place.invariant c.reply-item.is
    (refusal_fact c.args.script.now c.args.report.now c.reply-item.result.request c.mark_at-mark.result c.reply-item.result.state
    (right_mark c.args.script.now c.args.report.now c.args.marks.now c.as_slice-reply-items.result.now c.loop-place.place c.reply-item.result c.mark_at-mark.result c.requires.marked c.as_slice-reply-items.ensures c.loop-place-test.true c.reply-item.is c.mark_at-mark.ensures)
    (sym c.is_in_place-holds.ensures ∙ c.if-not-holds.false))

pub is_in_place-holds-requires-clause-kept : goal.is_in_place-holds-requires-clause-kept
is_in_place-holds-requires-clause-kept c holds at is =
    c.requires.kept c.loop-place.place at c.reply-item.result (ap (λ (rs : List Reply). slice_get rs c.loop-place.place) (sym c.as_slice-reply-items.ensures) ∙ slice_get_read c.as_slice-reply-items.result.now (length c.as_slice-reply-items.result.now) c.loop-place.place c.reply-item.result refl c.loop-place-test.true c.reply-item.is) is
    (sym c.mark_at-is_kept.ensures ∙ holds)
