use Rattle.weaver_locks.proofs.StoreEntered.{entered, legal_met}
use Rattle.weaver_locks.proofs.shared.Shared.enter_store.Goals as goal

pub meet-requires-clause-legal : goal.meet-requires-clause-legal
meet-requires-clause-legal g c =
    legal_met c.args.self.now c.args.hand.now c.requires.hand c.enter-held.result c.state-state.result.now c.state-state.ensures.value
    c.enter-held.ensures.frame c.as_mut_slice.result.now c.as_mut_slice.ensures.value

pub returns : goal.returns
returns g c =
    entered c.args.self.now c.args.hand.now c.requires.hand c.enter-held.result c.state-state.result.now c.state-state.ensures.value
    c.enter-held.ensures.frame c.as_mut_slice.result.now c.as_mut_slice.ensures.value c.enter-held.new.pass c.enter-held.ensures.log
    c.enter-held.ensures.own c.enter-held.ensures.entry c.enter-held.ensures.lock c.enter-held.ensures.pass c.enter-held.ensures.number
    c.as_slice.result.now c.as_slice.ensures.value c.meet.new.self c.meet.new.passes c.meet.ensures.store c.meet.ensures.shards
    c.meet.ensures.oracle c.meet.ensures.passes c.meet.ensures.names c.meet.ensures.met c.meet.ensures.one c.meet.ensures.legal
    c.shows_what_it_keeps.ensures
