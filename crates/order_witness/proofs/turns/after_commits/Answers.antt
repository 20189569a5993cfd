use Rattle.std.proofs.Common.{◌∷◌, [], ℕ, Bool, List, length, sym, ap, ◌∙◌, subst, arith}
use Rattle.std.proofs.lemmas.List.{length-append}
use Rattle.report_rules.specs.declared.report.Reply.{Reply}
use Rattle.order_witness.specs.Turns.{IsAfterCommits, IsOfMarked}
use Rattle.order_witness.proofs.Numbered.{the_item}
use Rattle.order_witness.proofs.TurnSteps.{below_next, after_now, marked_more}
use Rattle.order_witness.proofs.turns.after_commits.Goals as goal

pub loop-place-preserved : goal.loop-place-preserved
loop-place-preserved c =
    let script = c.args.script.now in
    let replies = c.args.replies.now in
    let place : ℕ = c.loop-place.place in
    let here : Reply = c.index-replies-place.result in
    let marks : List Bool = c.loop-place.marks.items in
    let is : Bool = c.is_after_commits-is_after.result in
    let inv = c.loop-place.invariant in
    record {
      size = ap (λ (ms : List Bool). length ms) c.in_ok-push.ensures.items ∙ (let all = length-append marks (is ∷ []) in let size = inv.size in omega (arith, all, size));
      tops = below_next script replies place here (λ reply at. the_item replies place here reply c.index-replies-place.is at) c.loop-place.tops c.is_after_commits-is_after.new.tops is c.is_after_commits-is_after.ensures inv.tops;
      marked = subst (IsOfMarked (IsAfterCommits script replies)) (sym c.in_ok-push.ensures.items)
          (marked_more (IsAfterCommits script replies) marks place is inv.size inv.marked
          (after_now script replies place here (λ reply at. the_item replies place here reply c.index-replies-place.is at) c.loop-place.tops c.is_after_commits-is_after.new.tops is c.is_after_commits-is_after.ensures inv.tops));
    }
