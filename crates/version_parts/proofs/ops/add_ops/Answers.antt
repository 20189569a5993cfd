use Rattle.std.proofs.Common.{◌<◌, length, sym, subst, arith}
use Rattle.version_parts.specs.InOrder.{ListsInOrder}
use Rattle.version_parts.specs.Placed.{AreUpTo}
use Rattle.version_parts.proofs.Updating.{begun, next_is, way_within}
use Rattle.version_parts.proofs.ops.add_ops.Goals as goal

pub loop-place-init : goal.loop-place-init
loop-place-init c = begun c.args.update c.args.ops.now c.args.lists.now c.requires.before c.requires.order c.requires.passes

pub returns-in_err-add_op-clause-within : goal.returns-in_err-add_op-clause-within
returns-in_err-add_op-clause-within c =
    subst (AreUpTo c.args.update) (sym c.in_err-add_op.ensures.err) (way_within c.args.update c.loop-place.place c.args.ops.now c.args.lists.now c.loop-place.lists c.loop-place.invariant)

pub returns-in_err-add_op-clause-order : goal.returns-in_err-add_op-clause-order
returns-in_err-add_op-clause-order c = subst ListsInOrder (sym c.in_err-add_op.ensures.err) c.loop-place.invariant.order

pub loop-place-preserved : goal.loop-place-preserved
loop-place-preserved c =
    let inside : c.loop-place.place < length c.args.ops.now = omega arith in
    next_is c.args.update c.loop-place.place c.args.ops.now c.args.lists.now c.loop-place.lists c.loop-place.invariant c.index-ops-place.result inside c.index-ops-place.is c.requires.numbered c.in_ok-add_op.ensures.rising c.add_op.new.lists c.in_ok-add_op.ensures.ok

pub returns-clause-within : goal.returns-clause-within
returns-clause-within c = way_within c.args.update c.loop-place.place c.args.ops.now c.args.lists.now c.loop-place.lists c.loop-place.invariant

pub returns-clause-order : goal.returns-clause-order
returns-clause-order c = c.loop-place.invariant.order
