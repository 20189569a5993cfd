use Rattle.std.proofs.Common.{◌≡◌, ◌+◌, ◌≤◌, ◌∷◌, ◌++◌, [], length, map, take, drop, List, Some, IsTrue, Contains, sym, ap, subst, ◌∙◌, arith}
use Rattle.std.proofs.lemmas.Option.{same_Some, none-some}
use Rattle.vector_stamp.specs.declared.clock.Stamp.{Stamp}
use Rattle.oracle_chain.specs.declared.ask.Ask.{Ask}
use Rattle.oracle_chain.specs.declared.message.Sent.{Sent}
use Rattle.oracle_chain.specs.Replay.{outcome_by}
use Rattle.oracle_chain.specs.Chain.{ReplicaView, ReplicaChainView, head_number, pairs_of_chain}
use Rattle.oracle_chain.specs.Calls.{after_settle, Settle}
use Rattle.oracle_chain.specs.IsReplicaChain.{IsReplicaChain, MayAsk}
use Rattle.oracle_chain.specs.Held.{HeldView, replica_of, chain_seen, AreKept, lacked_by, sent_to_each}
use Rattle.oracle_chain.proofs.Views.{held-length, held-read, head-here, written-is}
use Rattle.oracle_chain.proofs.Changed.{same-holds}
use Rattle.oracle_chain.proofs.Levelled.{head-longest, places-few}
use Rattle.oracle_chain.proofs.Brought.{Reserves, all-may, brought-is, brought-holds, brought-gives, judged-is}
use Rattle.oracle_chain.proofs.chain.ReplicaChain.settle_ask.Goals as goal

pub index-requires : goal.index-requires
index-requires c =
    let is-head : head_number (map replica_of c.self.inside.replicas.items) ≡ Some c.in-Some.head =
    ap (λ (l : List HeldView). head_number (map replica_of l)) (sym c.as_slice.ensures.value) ∙ sym c.head.ensures ∙ c.in-Some.is in
    let here = head-here c.self.inside.replicas.items c.in-Some.head is-head in
    omega (arith, here, c.self.inside.replicas.ok.0)

pub lacked_by_each-requires : goal.lacked_by_each-requires
lacked_by_each-requires c =
    let is-head : head_number (map replica_of c.self.inside.replicas.items) ≡ Some c.in-Some.head =
    ap (λ (l : List HeldView). head_number (map replica_of l)) (sym c.as_slice.ensures.value) ∙ sym c.head.ensures ∙ c.in-Some.is in
    let here = head-here c.self.inside.replicas.items c.in-Some.head is-head in
    let asks = ap (λ (l : List Ask). length l) c.asks-asks.ensures in
    let heads = ap (λ (r : ReplicaView). length r.asks) (held-read c.self.inside.replicas.items c.in-Some.head c.index.result.now here c.index.ensures) in
    record {
      longest = λ held has live.
          let of : Contains c.self.inside.replicas.items held = subst (λ (l : List HeldView). Contains l held) c.as_slice-2.ensures.value has in
          let read = held-read c.self.inside.replicas.items of.0 held of.1 (sym of.2) in
          let most = head-longest c.self.inside.replicas.items c.self.inside.messages.items c.args.ask c.in-Some.head c.self.invariant.0 is-head of.0 (subst (λ (r : ReplicaView). IsTrue r.live) (sym read) live) in
          let mine = ap (λ (r : ReplicaView). length r.asks) read in
          omega (arith, most, mine, heads, asks);
    }

pub messages_to_each-requires-clause-head : goal.messages_to_each-requires-clause-head
messages_to_each-requires-clause-head c =
    let is-head : head_number (map replica_of c.self.inside.replicas.items) ≡ Some c.in-Some.head =
    ap (λ (l : List HeldView). head_number (map replica_of l)) (sym c.as_slice.ensures.value) ∙ sym c.head.ensures ∙ c.in-Some.is in
    let here = head-here c.self.inside.replicas.items c.in-Some.head is-head in
    let same = ap (λ (l : List HeldView). length l) c.as_slice-3.ensures.value in
    omega (arith, here, same)

pub invariant_of-self : goal.invariant_of-self
invariant_of-self c =
    let seen : map replica_of (take c.self.inside.replicas.len (c.reserve_in_each.new.replicas ++ drop (length c.reserve_in_each.new.replicas) c.self.inside.replicas.items)) ≡ map replica_of c.self.inside.replicas.items =
    written-is c.self.inside.replicas.items c.reserve_in_each.new.replicas c.self.inside.replicas.len (map replica_of c.self.inside.replicas.items) c.self.inside.replicas.ok.0
    (c.in_err-reserve_in_each.ensures.seen ∙ ap (λ (l : List HeldView). map replica_of l) c.as_mut_slice.ensures.value) (held-length c.self.inside.replicas.items) in
    same-holds c.self.inside.replicas.items _ c.self.inside.messages.items c.self.invariant.1 seen c.self.invariant.2 c.self.invariant.0

pub invariant_of-self-in_err-extend_from_slice : goal.invariant_of-self-in_err-extend_from_slice
invariant_of-self-in_err-extend_from_slice c =
    let seen : map replica_of (take c.self.inside.replicas.len (c.reserve_in_each.new.replicas ++ drop (length c.reserve_in_each.new.replicas) c.self.inside.replicas.items)) ≡ map replica_of c.self.inside.replicas.items =
    written-is c.self.inside.replicas.items c.reserve_in_each.new.replicas c.self.inside.replicas.len (map replica_of c.self.inside.replicas.items) c.self.inside.replicas.ok.0
    (c.in_ok-reserve_in_each.ensures.seen ∙ ap (λ (l : List HeldView). map replica_of l) c.as_mut_slice.ensures.value) (held-length c.self.inside.replicas.items) in
    subst (λ (ms : List Sent). IsReplicaChain (chain_seen (take c.self.inside.replicas.len (c.reserve_in_each.new.replicas ++ drop (length c.reserve_in_each.new.replicas) c.self.inside.replicas.items)) ms)
    × AreKept (map replica_of (take c.self.inside.replicas.len (c.reserve_in_each.new.replicas ++ drop (length c.reserve_in_each.new.replicas) c.self.inside.replicas.items))) ms
    × (length (take c.self.inside.replicas.len (c.reserve_in_each.new.replicas ++ drop (length c.reserve_in_each.new.replicas) c.self.inside.replicas.items)) ≤ 5)) (sym c.in_err-extend_from_slice.ensures.items)
    (same-holds c.self.inside.replicas.items _ c.self.inside.messages.items c.self.invariant.1 seen c.self.invariant.2 c.self.invariant.0)

pub append_to_each-requires-clause-may_append : goal.append_to_each-requires-clause-may_append
append_to_each-requires-clause-may_append c =
    let r : Reserves c.self.inside.replicas.items c.self.inside.messages.items c.args.ask c.self.inside.replicas.len c.in-Some.head c.index.result.now c.asks-asks.result.now c.in_ok-lacked.lacked.items c.reserve_in_each.new.replicas = record {
      is = c.self.invariant.0;
      kept = c.self.invariant.1;
      few = c.self.invariant.2;
      may = subst (λ (v : ReplicaChainView). MayAsk v c.args.ask) (sym c.self.view_is) c.requires;
      long = c.self.inside.replicas.ok.0;
      is_head = ap (λ (l : List HeldView). head_number (map replica_of l)) (sym c.as_slice.ensures.value) ∙ sym c.head.ensures ∙ c.in-Some.is;
      here = c.index.ensures;
      read = c.asks-asks.ensures;
      lacks = c.in_ok-lacked.ensures ∙ ap (λ (l : List HeldView). map (λ (x : HeldView). lacked_by (c.asks-asks.result.now ++ c.args.ask ∷ []) (replica_of x)) l) c.as_slice-2.ensures.value;
      same = c.in_ok-reserve_in_each.ensures.seen ∙ ap (λ (l : List HeldView). map replica_of l) c.as_mut_slice.ensures.value;
    } in
    all-may c.self.inside.replicas.items c.self.inside.messages.items c.args.ask c.self.inside.replicas.len c.in-Some.head c.index.result.now c.asks-asks.result.now c.in_ok-lacked.lacked.items c.reserve_in_each.new.replicas r c.parts_and_unions_are_coherent.ensures.part c.as_mut_slice-2.result.now c.as_mut_slice-2.ensures.value

pub copy_into-requires-clause-room : goal.copy_into-requires-clause-room
copy_into-requires-clause-room c =
    let r : Reserves c.self.inside.replicas.items c.self.inside.messages.items c.args.ask c.self.inside.replicas.len c.in-Some.head c.index.result.now c.asks-asks.result.now c.in_ok-lacked.lacked.items c.reserve_in_each.new.replicas = record {
      is = c.self.invariant.0;
      kept = c.self.invariant.1;
      few = c.self.invariant.2;
      may = subst (λ (v : ReplicaChainView). MayAsk v c.args.ask) (sym c.self.view_is) c.requires;
      long = c.self.inside.replicas.ok.0;
      is_head = ap (λ (l : List HeldView). head_number (map replica_of l)) (sym c.as_slice.ensures.value) ∙ sym c.head.ensures ∙ c.in-Some.is;
      here = c.index.ensures;
      read = c.asks-asks.ensures;
      lacks = c.in_ok-lacked.ensures ∙ ap (λ (l : List HeldView). map (λ (x : HeldView). lacked_by (c.asks-asks.result.now ++ c.args.ask ∷ []) (replica_of x)) l) c.as_slice-2.ensures.value;
      same = c.in_ok-reserve_in_each.ensures.seen ∙ ap (λ (l : List HeldView). map replica_of l) c.as_mut_slice.ensures.value;
    } in
    let sends : c.extend_from_slice.new.self.items ≡ c.self.inside.messages.items ++ sent_to_each c.in-Some.head (length c.asks-asks.result.now + 1) 0 (map replica_of c.self.inside.replicas.items) =
    c.in_ok-extend_from_slice.ensures.items ∙ ap (λ (l : List Sent). c.self.inside.messages.items ++ l) (c.as_slice-6.ensures.value ∙ c.in_ok-sent.ensures ∙ ap (λ (l : List HeldView). sent_to_each c.in-Some.head (length c.asks-asks.result.now + 1) 0 (map replica_of l)) c.as_slice-3.ensures.value) in
    let settles = c.a_chain_settles_as_a_judge.ensures.settles (chain_seen c.self.inside.replicas.items c.self.inside.messages.items) c.args.ask c.self.invariant.0 r.may in
    let gives = brought-gives c.self.inside.replicas.items c.self.inside.messages.items c.args.ask c.self.inside.replicas.len c.in-Some.head c.index.result.now c.asks-asks.result.now c.in_ok-lacked.lacked.items c.reserve_in_each.new.replicas r c.extend_from_slice.new.self.items c.append_to_each.new.replicas c.as_mut_slice-2.result.now c.as_mut_slice-2.ensures.value c.append_to_each.ensures sends settles c.as_slice-7.result.now c.as_slice-7.ensures.value in
    let given : c.in-Some-outcome_at_tail.outcome.now ≡ outcome_by (pairs_of_chain (chain_seen c.self.inside.replicas.items c.self.inside.messages.items)) c.args.ask = same_Some c.in-Some-outcome_at_tail.outcome.now (outcome_by (pairs_of_chain (chain_seen c.self.inside.replicas.items c.self.inside.messages.items)) c.args.ask) (c.in-Some-outcome_at_tail.ensures ∙ gives) in
    let room = c.in_ok-places.ensures.room in
    let long = ap (λ (l : List Stamp). length l) c.as_slice-4.ensures in
    λ from is.
    let few = places-few (pairs_of_chain (chain_seen c.self.inside.replicas.items c.self.inside.messages.items)) c.args.ask from (sym given ∙ is) in
    omega (arith, few, room, long)

pub invariant_of-self-in-Some-outcome_at_tail : goal.invariant_of-self-in-Some-outcome_at_tail
invariant_of-self-in-Some-outcome_at_tail c =
    let r : Reserves c.self.inside.replicas.items c.self.inside.messages.items c.args.ask c.self.inside.replicas.len c.in-Some.head c.index.result.now c.asks-asks.result.now c.in_ok-lacked.lacked.items c.reserve_in_each.new.replicas = record {
      is = c.self.invariant.0;
      kept = c.self.invariant.1;
      few = c.self.invariant.2;
      may = subst (λ (v : ReplicaChainView). MayAsk v c.args.ask) (sym c.self.view_is) c.requires;
      long = c.self.inside.replicas.ok.0;
      is_head = ap (λ (l : List HeldView). head_number (map replica_of l)) (sym c.as_slice.ensures.value) ∙ sym c.head.ensures ∙ c.in-Some.is;
      here = c.index.ensures;
      read = c.asks-asks.ensures;
      lacks = c.in_ok-lacked.ensures ∙ ap (λ (l : List HeldView). map (λ (x : HeldView). lacked_by (c.asks-asks.result.now ++ c.args.ask ∷ []) (replica_of x)) l) c.as_slice-2.ensures.value;
      same = c.in_ok-reserve_in_each.ensures.seen ∙ ap (λ (l : List HeldView). map replica_of l) c.as_mut_slice.ensures.value;
    } in
    let sends : c.extend_from_slice.new.self.items ≡ c.self.inside.messages.items ++ sent_to_each c.in-Some.head (length c.asks-asks.result.now + 1) 0 (map replica_of c.self.inside.replicas.items) =
    c.in_ok-extend_from_slice.ensures.items ∙ ap (λ (l : List Sent). c.self.inside.messages.items ++ l) (c.as_slice-6.ensures.value ∙ c.in_ok-sent.ensures ∙ ap (λ (l : List HeldView). sent_to_each c.in-Some.head (length c.asks-asks.result.now + 1) 0 (map replica_of l)) c.as_slice-3.ensures.value) in
    brought-holds c.self.inside.replicas.items c.self.inside.messages.items c.args.ask c.self.inside.replicas.len c.in-Some.head c.index.result.now c.asks-asks.result.now c.in_ok-lacked.lacked.items c.reserve_in_each.new.replicas r c.extend_from_slice.new.self.items c.append_to_each.new.replicas c.as_mut_slice-2.result.now c.as_mut_slice-2.ensures.value c.append_to_each.ensures sends (c.calls_keep_the_chain.ensures.one_call (chain_seen c.self.inside.replicas.items c.self.inside.messages.items) (Settle c.args.ask) c.self.invariant.0 r.may)

pub invariant_of-self-2 : goal.invariant_of-self-2
invariant_of-self-2 c =
    let r : Reserves c.self.inside.replicas.items c.self.inside.messages.items c.args.ask c.self.inside.replicas.len c.in-Some.head c.index.result.now c.asks-asks.result.now c.in_ok-lacked.lacked.items c.reserve_in_each.new.replicas = record {
      is = c.self.invariant.0;
      kept = c.self.invariant.1;
      few = c.self.invariant.2;
      may = subst (λ (v : ReplicaChainView). MayAsk v c.args.ask) (sym c.self.view_is) c.requires;
      long = c.self.inside.replicas.ok.0;
      is_head = ap (λ (l : List HeldView). head_number (map replica_of l)) (sym c.as_slice.ensures.value) ∙ sym c.head.ensures ∙ c.in-Some.is;
      here = c.index.ensures;
      read = c.asks-asks.ensures;
      lacks = c.in_ok-lacked.ensures ∙ ap (λ (l : List HeldView). map (λ (x : HeldView). lacked_by (c.asks-asks.result.now ++ c.args.ask ∷ []) (replica_of x)) l) c.as_slice-2.ensures.value;
      same = c.in_ok-reserve_in_each.ensures.seen ∙ ap (λ (l : List HeldView). map replica_of l) c.as_mut_slice.ensures.value;
    } in
    let sends : c.extend_from_slice.new.self.items ≡ c.self.inside.messages.items ++ sent_to_each c.in-Some.head (length c.asks-asks.result.now + 1) 0 (map replica_of c.self.inside.replicas.items) =
    c.in_ok-extend_from_slice.ensures.items ∙ ap (λ (l : List Sent). c.self.inside.messages.items ++ l) (c.as_slice-6.ensures.value ∙ c.in_ok-sent.ensures ∙ ap (λ (l : List HeldView). sent_to_each c.in-Some.head (length c.asks-asks.result.now + 1) 0 (map replica_of l)) c.as_slice-3.ensures.value) in
    brought-holds c.self.inside.replicas.items c.self.inside.messages.items c.args.ask c.self.inside.replicas.len c.in-Some.head c.index.result.now c.asks-asks.result.now c.in_ok-lacked.lacked.items c.reserve_in_each.new.replicas r c.extend_from_slice.new.self.items c.append_to_each.new.replicas c.as_mut_slice-2.result.now c.as_mut_slice-2.ensures.value c.append_to_each.ensures sends (c.calls_keep_the_chain.ensures.one_call (chain_seen c.self.inside.replicas.items c.self.inside.messages.items) (Settle c.args.ask) c.self.invariant.0 r.may)

pub returns-in-Some-outcome_at_tail-clause-judged : goal.returns-in-Some-outcome_at_tail-clause-judged
returns-in-Some-outcome_at_tail-clause-judged c =
    let r : Reserves c.self.inside.replicas.items c.self.inside.messages.items c.args.ask c.self.inside.replicas.len c.in-Some.head c.index.result.now c.asks-asks.result.now c.in_ok-lacked.lacked.items c.reserve_in_each.new.replicas = record {
      is = c.self.invariant.0;
      kept = c.self.invariant.1;
      few = c.self.invariant.2;
      may = subst (λ (v : ReplicaChainView). MayAsk v c.args.ask) (sym c.self.view_is) c.requires;
      long = c.self.inside.replicas.ok.0;
      is_head = ap (λ (l : List HeldView). head_number (map replica_of l)) (sym c.as_slice.ensures.value) ∙ sym c.head.ensures ∙ c.in-Some.is;
      here = c.index.ensures;
      read = c.asks-asks.ensures;
      lacks = c.in_ok-lacked.ensures ∙ ap (λ (l : List HeldView). map (λ (x : HeldView). lacked_by (c.asks-asks.result.now ++ c.args.ask ∷ []) (replica_of x)) l) c.as_slice-2.ensures.value;
      same = c.in_ok-reserve_in_each.ensures.seen ∙ ap (λ (l : List HeldView). map replica_of l) c.as_mut_slice.ensures.value;
    } in
    let sends : c.extend_from_slice.new.self.items ≡ c.self.inside.messages.items ++ sent_to_each c.in-Some.head (length c.asks-asks.result.now + 1) 0 (map replica_of c.self.inside.replicas.items) =
    c.in_ok-extend_from_slice.ensures.items ∙ ap (λ (l : List Sent). c.self.inside.messages.items ++ l) (c.as_slice-6.ensures.value ∙ c.in_ok-sent.ensures ∙ ap (λ (l : List HeldView). sent_to_each c.in-Some.head (length c.asks-asks.result.now + 1) 0 (map replica_of l)) c.as_slice-3.ensures.value) in
    let settles = c.a_chain_settles_as_a_judge.ensures.settles (chain_seen c.self.inside.replicas.items c.self.inside.messages.items) c.args.ask c.self.invariant.0 r.may in
    let gives = brought-gives c.self.inside.replicas.items c.self.inside.messages.items c.args.ask c.self.inside.replicas.len c.in-Some.head c.index.result.now c.asks-asks.result.now c.in_ok-lacked.lacked.items c.reserve_in_each.new.replicas r c.extend_from_slice.new.self.items c.append_to_each.new.replicas c.as_mut_slice-2.result.now c.as_mut_slice-2.ensures.value c.append_to_each.ensures sends settles c.as_slice-7.result.now c.as_slice-7.ensures.value in
    judged-is (chain_seen c.self.inside.replicas.items c.self.inside.messages.items) c.args.self.now _ c.args.ask c.copy_into.result settles c.self.view_is (brought-is c.self.inside.replicas.items c.self.inside.messages.items c.args.ask c.self.inside.replicas.len c.in-Some.head c.index.result.now c.asks-asks.result.now c.in_ok-lacked.lacked.items c.reserve_in_each.new.replicas r c.extend_from_slice.new.self.items c.append_to_each.new.replicas c.as_mut_slice-2.result.now c.as_mut_slice-2.ensures.value c.append_to_each.ensures sends)
    (c.copy_into.ensures ∙ same_Some c.in-Some-outcome_at_tail.outcome.now (outcome_by (pairs_of_chain (chain_seen c.self.inside.replicas.items c.self.inside.messages.items)) c.args.ask) (c.in-Some-outcome_at_tail.ensures ∙ gives))

pub returns-in-Some-outcome_at_tail-clause-settled : goal.returns-in-Some-outcome_at_tail-clause-settled
returns-in-Some-outcome_at_tail-clause-settled c =
    let r : Reserves c.self.inside.replicas.items c.self.inside.messages.items c.args.ask c.self.inside.replicas.len c.in-Some.head c.index.result.now c.asks-asks.result.now c.in_ok-lacked.lacked.items c.reserve_in_each.new.replicas = record {
      is = c.self.invariant.0;
      kept = c.self.invariant.1;
      few = c.self.invariant.2;
      may = subst (λ (v : ReplicaChainView). MayAsk v c.args.ask) (sym c.self.view_is) c.requires;
      long = c.self.inside.replicas.ok.0;
      is_head = ap (λ (l : List HeldView). head_number (map replica_of l)) (sym c.as_slice.ensures.value) ∙ sym c.head.ensures ∙ c.in-Some.is;
      here = c.index.ensures;
      read = c.asks-asks.ensures;
      lacks = c.in_ok-lacked.ensures ∙ ap (λ (l : List HeldView). map (λ (x : HeldView). lacked_by (c.asks-asks.result.now ++ c.args.ask ∷ []) (replica_of x)) l) c.as_slice-2.ensures.value;
      same = c.in_ok-reserve_in_each.ensures.seen ∙ ap (λ (l : List HeldView). map replica_of l) c.as_mut_slice.ensures.value;
    } in
    let sends : c.extend_from_slice.new.self.items ≡ c.self.inside.messages.items ++ sent_to_each c.in-Some.head (length c.asks-asks.result.now + 1) 0 (map replica_of c.self.inside.replicas.items) =
    c.in_ok-extend_from_slice.ensures.items ∙ ap (λ (l : List Sent). c.self.inside.messages.items ++ l) (c.as_slice-6.ensures.value ∙ c.in_ok-sent.ensures ∙ ap (λ (l : List HeldView). sent_to_each c.in-Some.head (length c.asks-asks.result.now + 1) 0 (map replica_of l)) c.as_slice-3.ensures.value) in
    brought-is c.self.inside.replicas.items c.self.inside.messages.items c.args.ask c.self.inside.replicas.len c.in-Some.head c.index.result.now c.asks-asks.result.now c.in_ok-lacked.lacked.items c.reserve_in_each.new.replicas r c.extend_from_slice.new.self.items c.append_to_each.new.replicas c.as_mut_slice-2.result.now c.as_mut_slice-2.ensures.value c.append_to_each.ensures sends ∙ ap (λ (v : ReplicaChainView). after_settle v c.args.ask) c.self.view_is

pub returns-clause-as_before : goal.returns-clause-as_before
returns-clause-as_before c =
    let r : Reserves c.self.inside.replicas.items c.self.inside.messages.items c.args.ask c.self.inside.replicas.len c.in-Some.head c.index.result.now c.asks-asks.result.now c.in_ok-lacked.lacked.items c.reserve_in_each.new.replicas = record {
      is = c.self.invariant.0;
      kept = c.self.invariant.1;
      few = c.self.invariant.2;
      may = subst (λ (v : ReplicaChainView). MayAsk v c.args.ask) (sym c.self.view_is) c.requires;
      long = c.self.inside.replicas.ok.0;
      is_head = ap (λ (l : List HeldView). head_number (map replica_of l)) (sym c.as_slice.ensures.value) ∙ sym c.head.ensures ∙ c.in-Some.is;
      here = c.index.ensures;
      read = c.asks-asks.ensures;
      lacks = c.in_ok-lacked.ensures ∙ ap (λ (l : List HeldView). map (λ (x : HeldView). lacked_by (c.asks-asks.result.now ++ c.args.ask ∷ []) (replica_of x)) l) c.as_slice-2.ensures.value;
      same = c.in_ok-reserve_in_each.ensures.seen ∙ ap (λ (l : List HeldView). map replica_of l) c.as_mut_slice.ensures.value;
    } in
    let sends : c.extend_from_slice.new.self.items ≡ c.self.inside.messages.items ++ sent_to_each c.in-Some.head (length c.asks-asks.result.now + 1) 0 (map replica_of c.self.inside.replicas.items) =
    c.in_ok-extend_from_slice.ensures.items ∙ ap (λ (l : List Sent). c.self.inside.messages.items ++ l) (c.as_slice-6.ensures.value ∙ c.in_ok-sent.ensures ∙ ap (λ (l : List HeldView). sent_to_each c.in-Some.head (length c.asks-asks.result.now + 1) 0 (map replica_of l)) c.as_slice-3.ensures.value) in
    let settles = c.a_chain_settles_as_a_judge.ensures.settles (chain_seen c.self.inside.replicas.items c.self.inside.messages.items) c.args.ask c.self.invariant.0 r.may in
    let gives = brought-gives c.self.inside.replicas.items c.self.inside.messages.items c.args.ask c.self.inside.replicas.len c.in-Some.head c.index.result.now c.asks-asks.result.now c.in_ok-lacked.lacked.items c.reserve_in_each.new.replicas r c.extend_from_slice.new.self.items c.append_to_each.new.replicas c.as_mut_slice-2.result.now c.as_mut_slice-2.ensures.value c.append_to_each.ensures sends settles c.as_slice-7.result.now c.as_slice-7.ensures.value in
    absurd (none-some (outcome_by (pairs_of_chain (chain_seen c.self.inside.replicas.items c.self.inside.messages.items)) c.args.ask) (c.in-None.ensures ∙ gives))
