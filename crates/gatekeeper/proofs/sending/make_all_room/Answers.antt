use Rattle.gatekeeper.proofs.Delivery.{room_more}
use Rattle.gatekeeper.proofs.sending.make_all_room.Goals as goal

pub loop-shard-preserved : goal.loop-shard-preserved
loop-shard-preserved c = room_more _ _ _ c.loop-shard.shard c.loop-shard.invariant c.make_room.ensures.kept c.in_ok-make_room.ensures.room
