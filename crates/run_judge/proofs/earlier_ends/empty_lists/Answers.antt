use Rattle.std.proofs.Common.{◌+◌, sym, subst}
use Rattle.order_witness.proofs.Numbered.{AreEmptySoFar, no_lists, list_more}
use Rattle.run_judge.proofs.earlier_ends.empty_lists.Goals as goal

pub loop-init : goal.loop-init
loop-init c = subst (AreEmptySoFar 0) (sym c.new-lists.ensures.items) no_lists

pub loop-preserved : goal.loop-preserved
loop-preserved c = subst (AreEmptySoFar (c.loop.counter + 1)) (sym c.in_ok-push.ensures.items) (list_more c.loop.counter c.loop.lists.items _ c.loop.invariant c.new.ensures)
