use Rattle.weaver_workers.proofs.There.{shard-on}
use Rattle.weaver_workers.proofs.bringing.turn_shard.Goals as goal

pub apply_all-requires-clause-hand : goal.apply_all-requires-clause-hand
apply_all-requires-clause-hand g c = c.bring_all.ensures.carries.hand

pub returns-then-is_new : goal.returns-then-is_new
returns-then-is_new g c = shard-on _ _ _ _ _ c.bring_all.ensures c.apply_all.ensures
