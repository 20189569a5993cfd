use Rattle.weaver_workers.proofs.There.{shard-on, shard-start}
use Rattle.weaver_workers.proofs.bringing.bring_from.Goals as goal

pub loop-number-init : goal.loop-number-init
loop-number-init g c = shard-start c.args.shared.now c.args.shard c.args.hand.now c.requires.hand

pub bring_one-requires-clause-hand : goal.bring_one-requires-clause-hand
bring_one-requires-clause-hand g c = c.loop-number.invariant.carries.hand

pub returns-in_err-bring_one : goal.returns-in_err-bring_one
returns-in_err-bring_one g c = shard-on _ _ _ _ _ c.loop-number.invariant c.bring_one.ensures

pub returns-then-not-branch : goal.returns-then-not-branch
returns-then-not-branch g c = shard-on _ _ _ _ _ c.loop-number.invariant c.bring_one.ensures

pub loop-number-preserved : goal.loop-number-preserved
loop-number-preserved g c = shard-on _ _ _ _ _ c.loop-number.invariant c.bring_one.ensures

pub returns : goal.returns
returns g c = c.loop-number.invariant
