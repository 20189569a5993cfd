use Rattle.weaver_locks.proofs.ShardEntered.{entered, legal_met}
use Rattle.weaver_locks.proofs.shared.Shared.enter_shard.Goals as goal

pub meet-requires-clause-legal : goal.meet-requires-clause-legal
meet-requires-clause-legal g c =
    legal_met c.args.self.now c.args.hand.now c.args.shard c.requires.hand c.requires.shard c.index.result.now c.index.ensures
    c.enter-held.result c.state-state.result.now c.state-state.ensures.value c.enter-held.ensures.frame c.as_mut_slice.result.now
    c.as_mut_slice.ensures.value

pub returns : goal.returns
returns g c =
    entered c.args.self.now c.args.hand.now c.args.shard c.requires.hand c.requires.shard c.index.result.now c.index.ensures
    c.enter-held.result c.state-state.result.now c.state-state.ensures.value c.enter-held.ensures.frame c.as_mut_slice.result.now
    c.as_mut_slice.ensures.value c.index_mut.result.now c.enter-held.new.pass c.index_mut.ensures.value c.enter-held.ensures.log
    c.enter-held.ensures.own c.enter-held.ensures.entry c.enter-held.ensures.lock c.enter-held.ensures.pass c.enter-held.ensures.number
    c.as_slice.result.now c.as_slice.ensures.value c.meet.new.self c.meet.new.gates c.meet.new.store c.meet.new.oracle c.meet.ensures.shard
    c.meet.ensures.shards c.meet.ensures.frame c.meet.ensures.gates c.meet.ensures.store c.meet.ensures.oracle c.meet.ensures.gate_passes
    c.meet.ensures.same
