use Rattle.shard_queue.proofs.Channels.{waiting_laws}
use Rattle.shard_queue.proofs.laws.each_number_waits_by_itself.Goals as goal

pub returns : goal.returns
returns g c = waiting_laws g.M.Stamped.stamp_of
