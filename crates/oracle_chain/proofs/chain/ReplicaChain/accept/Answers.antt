use Rattle.std.proofs.Common.{◌≡◌, ◌∷◌, ◌++◌, length, map, take, drop, List, Some, sym, ap, subst, ◌∙◌, arith}
use Rattle.std.specs.List.{flat_map}
use Rattle.std.proofs.lemmas.List.{length-set}
use Rattle.vector_stamp.specs.Coherence.{AreCoherent}
use Rattle.oracle_chain.specs.declared.ask.Ask.{Ask}
use Rattle.oracle_chain.specs.Replay.{ask_stamps}
use Rattle.oracle_chain.specs.Chain.{ReplicaChainView, asks_at, head_number}
use Rattle.oracle_chain.specs.Calls.{after_accept, position_accepted, with_ask, Accept}
use Rattle.oracle_chain.specs.IsReplicaChain.{MayAsk}
use Rattle.oracle_chain.specs.Held.{HeldView, replica_of, chain_seen}
use Rattle.oracle_chain.proofs.Views.{held-length, head-here, written-is, position-is}
use Rattle.oracle_chain.proofs.Conditions.{new-coherent}
use Rattle.oracle_chain.proofs.Changed.{accepted-is, accepted-holds}
use Rattle.oracle_chain.proofs.chain.ReplicaChain.accept.Goals as goal

pub index-requires : goal.index-requires
index-requires c =
    let is-head : head_number (map replica_of c.self.inside.replicas.items) ≡ Some c.in-Some.head =
    ap (λ (l : List HeldView). head_number (map replica_of l)) (sym c.as_slice.ensures.value) ∙ sym c.head.ensures ∙ c.in-Some.is in
    let here = head-here c.self.inside.replicas.items c.in-Some.head is-head in
    omega (arith, here, c.self.inside.replicas.ok.0)

pub append_at-requires-clause-within : goal.append_at-requires-clause-within
append_at-requires-clause-within c =
    let is-head : head_number (map replica_of c.self.inside.replicas.items) ≡ Some c.in-Some.head =
    ap (λ (l : List HeldView). head_number (map replica_of l)) (sym c.as_slice.ensures.value) ∙ sym c.head.ensures ∙ c.in-Some.is in
    let here = head-here c.self.inside.replicas.items c.in-Some.head is-head in
    let same = ap (λ (l : List HeldView). length l) c.as_mut_slice.ensures.value in
    omega (arith, here, same)

pub append_at-requires-clause-coherent : goal.append_at-requires-clause-coherent
append_at-requires-clause-coherent c =
    let may : MayAsk (chain_seen c.self.inside.replicas.items c.self.inside.messages.items) c.args.ask = subst (λ (v : ReplicaChainView). MayAsk v c.args.ask) (sym c.self.view_is) c.requires in
    subst (λ (l : List HeldView). AreCoherent (c.args.ask.later ∷ c.args.ask.earlier ++ flat_map ask_stamps (asks_at (map replica_of l) c.in-Some.head))) (sym c.as_mut_slice.ensures.value)
    (new-coherent c.parts_and_unions_are_coherent.ensures.part (map replica_of c.self.inside.replicas.items) c.in-Some.head c.args.ask may.coherent)

pub invariant_of-self-2 : goal.invariant_of-self-2
invariant_of-self-2 c =
    let is-head : head_number (map replica_of c.self.inside.replicas.items) ≡ Some c.in-Some.head =
    ap (λ (l : List HeldView). head_number (map replica_of l)) (sym c.as_slice.ensures.value) ∙ sym c.head.ensures ∙ c.in-Some.is in
    let may : MayAsk (chain_seen c.self.inside.replicas.items c.self.inside.messages.items) c.args.ask = subst (λ (v : ReplicaChainView). MayAsk v c.args.ask) (sym c.self.view_is) c.requires in
    let seen : map replica_of (take c.self.inside.replicas.len (c.append_at.new.replicas ++ drop (length c.append_at.new.replicas) c.self.inside.replicas.items)) ≡ with_ask (map replica_of c.self.inside.replicas.items) c.in-Some.head c.args.ask =
    written-is c.self.inside.replicas.items c.append_at.new.replicas c.self.inside.replicas.len (with_ask (map replica_of c.self.inside.replicas.items) c.in-Some.head c.args.ask) c.self.inside.replicas.ok.0
    (c.in_ok-append_at.ensures.appended ∙ ap (λ (l : List HeldView). with_ask (map replica_of l) c.in-Some.head c.args.ask) c.as_mut_slice.ensures.value)
    (length-set (map replica_of c.self.inside.replicas.items) c.in-Some.head _ ∙ held-length c.self.inside.replicas.items) in
    accepted-holds c.self.inside.replicas.items _ c.self.inside.messages.items c.self.invariant.1 c.args.ask c.in-Some.head is-head seen c.self.invariant.2
    (c.calls_keep_the_chain.ensures.one_call (chain_seen c.self.inside.replicas.items c.self.inside.messages.items) (Accept c.args.ask) c.self.invariant.0 may)

pub returns-clause-position : goal.returns-clause-position
returns-clause-position c =
    let is-head : head_number (map replica_of c.self.inside.replicas.items) ≡ Some c.in-Some.head =
    ap (λ (l : List HeldView). head_number (map replica_of l)) (sym c.as_slice.ensures.value) ∙ sym c.head.ensures ∙ c.in-Some.is in
    ap (λ (l : List Ask). length l) c.asks.ensures
    ∙ position-is c.self.inside.replicas.items c.self.inside.messages.items c.in-Some.head c.index.result.now is-head (head-here c.self.inside.replicas.items c.in-Some.head is-head) c.index.ensures
    ∙ ap position_accepted c.self.view_is

pub returns-clause-accepted : goal.returns-clause-accepted
returns-clause-accepted c =
    let is-head : head_number (map replica_of c.self.inside.replicas.items) ≡ Some c.in-Some.head =
    ap (λ (l : List HeldView). head_number (map replica_of l)) (sym c.as_slice.ensures.value) ∙ sym c.head.ensures ∙ c.in-Some.is in
    let seen : map replica_of (take c.self.inside.replicas.len (c.append_at.new.replicas ++ drop (length c.append_at.new.replicas) c.self.inside.replicas.items)) ≡ with_ask (map replica_of c.self.inside.replicas.items) c.in-Some.head c.args.ask =
    written-is c.self.inside.replicas.items c.append_at.new.replicas c.self.inside.replicas.len (with_ask (map replica_of c.self.inside.replicas.items) c.in-Some.head c.args.ask) c.self.inside.replicas.ok.0
    (c.in_ok-append_at.ensures.appended ∙ ap (λ (l : List HeldView). with_ask (map replica_of l) c.in-Some.head c.args.ask) c.as_mut_slice.ensures.value)
    (length-set (map replica_of c.self.inside.replicas.items) c.in-Some.head _ ∙ held-length c.self.inside.replicas.items) in
    accepted-is c.self.inside.replicas.items _ c.self.inside.messages.items c.self.invariant.1 c.args.ask c.in-Some.head is-head seen
    ∙ ap (λ (v : ReplicaChainView). after_accept v c.args.ask) c.self.view_is
