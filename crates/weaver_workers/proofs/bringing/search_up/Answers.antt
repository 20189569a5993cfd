use Rattle.weaver_workers.proofs.There.{shard-on, shard-start}
use Rattle.weaver_workers.proofs.bringing.search_up.Goals as goal

pub loop-doubling-init : goal.loop-doubling-init
loop-doubling-init g c = shard-start c.args.shared.now c.args.shard c.args.hand.now c.requires.hand

pub is_known-requires-clause-hand : goal.is_known-requires-clause-hand
is_known-requires-clause-hand g c = c.loop-doubling.invariant.carries.hand

pub returns-in_err-is_known : goal.returns-in_err-is_known
returns-in_err-is_known g c = shard-on _ _ _ _ _ c.loop-doubling.invariant c.is_known.ensures

pub returns-then-not-branch : goal.returns-then-not-branch
returns-then-not-branch g c = shard-on _ _ _ _ _ c.loop-doubling.invariant c.is_known.ensures

pub loop-doubling-preserved : goal.loop-doubling-preserved
loop-doubling-preserved g c = shard-on _ _ _ _ _ c.loop-doubling.invariant c.is_known.ensures

pub returns : goal.returns
returns g c = c.loop-doubling.invariant
