use Rattle.version_graph.proofs.Chains.{next_here, one_on, were_same}
use Rattle.version_graph.proofs.table.apply_all.Goals as goal

pub apply_one-requires : goal.apply_one-requires
apply_one-requires c =
    next_here c.args.stamp c.args.parts.now c.loop-done.done c.index-parts-done.result c.args.table.now.entries c.loop-done.table.entries c.index-parts-done.is c.loop-done-test.true c.requires.apart c.requires.next c.loop-done.invariant

pub take_all_back-requires : goal.take_all_back-requires
take_all_back-requires c =
    (c.args.table.now.entries, were_same c.args.stamp _ c.args.table.now.entries c.loop-done.table.entries c.apply_one.new.table.entries c.loop-done.invariant c.in-Err.ensures.refused)

pub loop-done-preserved : goal.loop-done-preserved
loop-done-preserved c =
    one_on c.args.stamp c.args.parts.now c.loop-done.done c.index-parts-done.result c.args.table.now.entries c.loop-done.table.entries c.apply_one.new.table.entries c.index-parts-done.is c.loop-done-test.true c.requires.apart c.loop-done.invariant c.in-Ok.ensures.applied c.in-Ok.ensures.base
