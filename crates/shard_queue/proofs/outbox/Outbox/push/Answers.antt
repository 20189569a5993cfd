use Rattle.std.proofs.Common.{ap}
use Rattle.std.specs.Result.{is_ok}
use Rattle.shard_queue.specs.Outbox.{Channel}
use Rattle.shard_queue.proofs.Rising.{rise_sent}
use Rattle.shard_queue.proofs.outbox.Outbox.push.Goals as goal

pub invariant_of-self-2 : goal.invariant_of-self-2
invariant_of-self-2 g c = rise_sent g.M.Stamped.stamp_of c.stamps_are_ordered.ensures.transitive (is_ok c.push.result) _ _ _ _ c.args.message (ap (λ (channel : Channel g.row.M.Denot). channel.sent) c.self.view_is) c.reserve.ensures.items c.push.ensures.items c.self.invariant c.requires

pub returns-clause-rising : goal.returns-clause-rising
returns-clause-rising g c = rise_sent g.M.Stamped.stamp_of c.stamps_are_ordered.ensures.transitive (is_ok c.push.result) _ _ _ _ c.args.message (ap (λ (channel : Channel g.row.M.Denot). channel.sent) c.self.view_is) c.reserve.ensures.items c.push.ensures.items c.self.invariant c.requires
