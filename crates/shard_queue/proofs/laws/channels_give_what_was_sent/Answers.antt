use Rattle.shard_queue.proofs.Channels.{has_arrived-brings, processed-sent, processed-within}
use Rattle.shard_queue.proofs.laws.channels_give_what_was_sent.Goals as goal

pub returns-clause-in_order : goal.returns-clause-in_order
returns-clause-in_order g c = processed-sent g.M.Stamped.stamp_of

pub returns-clause-within : goal.returns-clause-within
returns-clause-within g c = processed-within g.M.Stamped.stamp_of

pub returns-clause-arrived : goal.returns-clause-arrived
returns-clause-arrived g c = has_arrived-brings g.M.Stamped.stamp_of
