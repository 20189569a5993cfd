use Rattle.weaver_workers.proofs.There.{shard-on, shard-start}
use Rattle.weaver_workers.proofs.bringing.apply_all.Goals as goal

pub loop-init : goal.loop-init
loop-init g c = shard-start c.args.shared.now c.args.shard c.args.hand.now c.requires.hand

pub apply_round-requires-clause-hand : goal.apply_round-requires-clause-hand
apply_round-requires-clause-hand g c = c.loop.invariant.carries.hand

pub returns-in_err-apply_round : goal.returns-in_err-apply_round
returns-in_err-apply_round g c = shard-on _ _ _ _ _ c.loop.invariant c.apply_round.ensures

pub returns-then-not-branch : goal.returns-then-not-branch
returns-then-not-branch g c = shard-on _ _ _ _ _ c.loop.invariant c.apply_round.ensures

pub loop-preserved : goal.loop-preserved
loop-preserved g c = shard-on _ _ _ _ _ c.loop.invariant c.apply_round.ensures
