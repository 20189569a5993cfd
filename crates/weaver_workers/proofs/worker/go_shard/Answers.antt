use Rattle.std.proofs.Common.{refl}
use Rattle.weaver_workers.proofs.OnlyCarried.{landed-still}
use Rattle.weaver_workers.proofs.There.{shard-on, shard-start}
use Rattle.weaver_workers.proofs.worker.go_shard.Goals as goal

pub loop-turn-init : goal.loop-turn-init
loop-turn-init g c = shard-start c.args.shared.now c.args.shard c.args.hand.now c.requires.idle.is_hand

pub turn_shard-requires-clause-hand : goal.turn_shard-requires-clause-hand
turn_shard-requires-clause-hand g c = c.loop-turn.invariant.carries.hand

pub loop-turn-preserved : goal.loop-turn-preserved
loop-turn-preserved g c = shard-on _ _ _ _ _ c.loop-turn.invariant c.turn_shard.ensures

pub returns : goal.returns
returns g c = record {
  carries = c.loop-turn.invariant;
  landed = landed-still c.args.hand.now c.loop-turn.hand c.loop-turn.invariant.carries.only c.requires.idle.landed;
  ends = refl;
}
