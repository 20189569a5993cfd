use Rattle.std.proofs.Common.{◌≡◌, ◌+◌, ◌-◌, ◌<◌, ℕ, Bool, false, length, get_or, sym, ◌∙◌, subst, arith}
use Rattle.std.proofs.lemmas.Bool.{both_ways}
use Rattle.std.proofs.lemmas.List.{get_or_default, get_or_past}
use Rattle.report_rules.specs.declared.report.Reply.{Reply}
use Rattle.order_witness.specs.Turns.{IsBeforeCommits}
use Rattle.order_witness.proofs.Numbered.{the_item}
use Rattle.order_witness.proofs.TurnSteps.{AreNumbersAbove, above_next, above_none, before_now, still_kept, still_marked}
use Rattle.order_witness.proofs.turns.keep_before_commits.Goals as goal

pub loop-back-init : goal.loop-back-init
loop-back-init c =
    let replies = c.args.replies.now in
    let all : length replies ≡ length replies - 0 = omega arith in
    record {
      size = c.requires;
      lows = subst (λ n. AreNumbersAbove c.args.script.now replies n c.in_ok-lows.lows) all (above_none c.args.script.now replies c.in_ok-lows.lows);
      kept = λ p h. h;
      marked = λ p from h. absurd (both_ways _ (get_or_past c.args.marks.now.items p false (let size = c.requires in omega (arith, from, size))) h);
    }

pub loop-back-preserved : goal.loop-back-preserved
loop-back-preserved c =
    let script = c.args.script.now in
    let replies = c.args.replies.now in
    let back : ℕ = c.loop-back.back in
    let place : ℕ = length replies - 1 - back in
    let here : Reply = get_or replies place c.index-replies-place.result in
    let is : Bool = c.is_before_commits-is_before.result in
    let inv = c.loop-back.invariant in
    let less : back < length replies = c.loop-back-test.true in
    let here_is : here ≡ get_or replies place here = get_or_default replies place c.index-replies-place.result here (omega (arith, less)) in
    let after : length replies - back ≡ place + 1 = omega (arith, less) in
    let before : length replies - (back + 1) ≡ place = omega (arith, less) in
    let so_far : AreNumbersAbove script replies (place + 1) c.loop-back.lows = subst (λ n. AreNumbersAbove script replies n c.loop-back.lows) after inv.lows in
    record {
      size = c.keep_mark.ensures.size ∙ inv.size;
      lows = subst (λ n. AreNumbersAbove script replies n c.is_before_commits-is_before.new.lows) (sym before)
          (above_next script replies place here (λ reply at. the_item replies place here reply here_is at) c.loop-back.lows c.is_before_commits-is_before.new.lows is c.is_before_commits-is_before.ensures so_far);
      kept = still_kept (IsBeforeCommits script replies) c.loop-back.marks.items c.keep_mark.new.marks.items c.args.marks.now.items (length replies) place is inv.size c.keep_mark.ensures.others c.keep_mark.ensures.here inv.kept;
      marked = λ p from h. still_marked (IsBeforeCommits script replies) c.loop-back.marks.items c.keep_mark.new.marks.items c.args.marks.now.items (length replies) place is inv.size c.keep_mark.ensures.others c.keep_mark.ensures.here
          (before_now script replies place here (λ reply at. the_item replies place here reply here_is at) c.loop-back.lows c.is_before_commits-is_before.new.lows is c.is_before_commits-is_before.ensures so_far)
          (λ q on. inv.marked q (omega (arith, on, after))) p (omega (arith, from, before)) h;
    }

pub returns-clause-marked : goal.returns-clause-marked
returns-clause-marked c place mark = c.loop-back.invariant.marked place (omega (arith, c.loop-back-test.false)) mark
