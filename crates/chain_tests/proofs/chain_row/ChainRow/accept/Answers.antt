use Rattle.std.proofs.Common.{List, subst}
use Rattle.vector_stamp.specs.declared.clock.Stamp.{Stamp}
use Rattle.oracle_chain.specs.Replay.{ask_stamps}
use Rattle.oracle_chain.specs.Chain.{stamps_known}
use Rattle.oracle_chain.specs.Calls.{after_accept, Accept}
use Rattle.oracle_chain.specs.IsReplicaChain.{MayAsk}
use Rattle.chain_tests.specs.Events.{AreEventsOf}
use Rattle.chain_tests.proofs.Known.{asked-coherent, either-knows}
use Rattle.chain_tests.proofs.chain_row.ChainRow.accept.Goals as goal

pub accept-requires : goal.accept-requires
accept-requires g c =
    let of = subst (λ (l : List Stamp). AreEventsOf (ask_stamps c.ask_of-ask.result) l) c.as_slice.ensures.value c.ask_of-ask.ensures.of_events in
    record {
      is_ask = c.ask_of-ask.ensures.is_ask;
      coherent = asked-coherent c.parts_and_unions_are_coherent.ensures.part c.self.inside.events.items (ask_stamps c.ask_of-ask.result) (stamps_known c.self.inside.chain.replicas) of c.self.invariant;
    }

pub invariant_of-self : goal.invariant_of-self
invariant_of-self g c =
    let of = subst (λ (l : List Stamp). AreEventsOf (ask_stamps c.ask_of-ask.result) l) c.as_slice.ensures.value c.ask_of-ask.ensures.of_events in
    let may : MayAsk c.self.inside.chain c.ask_of-ask.result = record {
      is_ask = c.ask_of-ask.ensures.is_ask;
      coherent = asked-coherent c.parts_and_unions_are_coherent.ensures.part c.self.inside.events.items (ask_stamps c.ask_of-ask.result) (stamps_known c.self.inside.chain.replicas) of c.self.invariant;
    } in
    either-knows c.accept.result c.self.inside.events.items c.self.inside.chain c.accept.new.self (after_accept c.self.inside.chain c.ask_of-ask.result) (ask_stamps c.ask_of-ask.result) c.accept.ensures.accepted c.accept.ensures.as_before
    (c.stamps_come_with_asks.ensures.called c.self.inside.chain (Accept c.ask_of-ask.result) c.is_chain.ensures may) of c.self.invariant
