use Rattle.weaver_workers.proofs.There.{shard-on}
use Rattle.weaver_workers.proofs.bringing.search.Goals as goal

pub loop-halving-init : goal.loop-halving-init
loop-halving-init g c = c.search_up.ensures

pub is_known-requires-clause-hand : goal.is_known-requires-clause-hand
is_known-requires-clause-hand g c = c.loop-halving.invariant.carries.hand

pub returns-in_err-is_known : goal.returns-in_err-is_known
returns-in_err-is_known g c = shard-on _ _ _ _ _ c.loop-halving.invariant c.is_known.ensures

pub loop-halving-preserved : goal.loop-halving-preserved
loop-halving-preserved g c = shard-on _ _ _ _ _ c.loop-halving.invariant c.is_known.ensures
