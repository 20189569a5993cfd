use Rattle.std.proofs.Common.{◌≡◌, ◌<◌, ◌⊎◌, ◌∷◌, ◌++◌, ℕ, length, map, take, drop, List, Some, None, slice_get, Result, Ok, Err, inr, refl, sym, ap, subst, ◌∙◌}
use Rattle.std.specs.Prelude.{IfErr, IsErrAnd}
use Rattle.std.specs.List.{flat_map}
use Rattle.std.proofs.lemmas.List.{length-set}
use Rattle.std.proofs.lemmas.Option.{slice_get_read, slice_get_within, get_or_from_slice_get}
use Rattle.vector_stamp.specs.Coherence.{AreCoherent}
use Rattle.oracle_chain.specs.declared.ask.Ask.{Ask}
use Rattle.oracle_chain.specs.declared.ask.ChainFault.{ChainFault}
use Rattle.oracle_chain.specs.declared.ask.ChainFault.TheVariants.{Memory, Unknown}
use Rattle.oracle_chain.specs.declared.ask.Delivered.TheVariants.{Taken}
use Rattle.oracle_chain.specs.declared.message.Sent.{Sent}
use Rattle.oracle_chain.specs.Replay.{ask_stamps}
use Rattle.oracle_chain.specs.Chain.{ReplicaView, ReplicaChainView, asks_at}
use Rattle.oracle_chain.specs.Calls.{with_ask, delivery_of, delivered_at, after_delivery, Deliver}
use Rattle.oracle_chain.specs.IsReplicaChain.{IsAsk}
use Rattle.oracle_chain.specs.Held.{HeldView, replica_of, message_seen, chain_seen, AreKept}
use Rattle.oracle_chain.proofs.Views.{held-length, written-is}
use Rattle.oracle_chain.proofs.Conditions.{sent-is-ask, sent-coherent}
use Rattle.oracle_chain.proofs.Changed.{became-is, taken-seen, taken-holds, same-holds, left-alone}
use Rattle.oracle_chain.proofs.chain.ReplicaChain.deliver.Goals as goal

-- a message that is there is kept
kept-at : (rs : List ReplicaView) (messages : List Sent) (number : ℕ) (one : Sent) → AreKept rs messages → slice_get messages number ≡ Some one → one.position < length (asks_at rs one.kept_by)
kept-at rs messages number one kept at = kept one (number, slice_get_within messages number one at, get_or_from_slice_get messages number one one at)

-- the ask that was copied, and what became of the message, of the chain's replicas
copied-is : (held lent : List HeldView) (one : Sent) (ask : Ask) → ask ≡ (message_seen (map replica_of lent) one).ask → lent ≡ held → ask ≡ (message_seen (map replica_of held) one).ask
copied-is held lent one ask is same = is ∙ ap (λ (l : List HeldView). (message_seen (map replica_of l) one).ask) same

full : {A : Type 0} (result : Result A ChainFault) (P Q : Type 0) → IsErrAnd result (λ fault. fault ≡ Memory) → Q → IfErr result (λ fault. ((fault ≡ Unknown) × P) ⊎ ((fault ≡ Memory) × Q))
full (Ok a) P Q is q = absurd is
full (Err fault) P Q is q = inr (is, q)

pub append_at-requires-clause-is_ask : goal.append_at-requires-clause-is_ask
append_at-requires-clause-is_ask c =
    let at = c.in-Some.ensures.lookup.3 in
    let here : slice_get c.self.inside.messages.items c.args.message ≡ Some c.in-Some.sent.now =
    subst (λ (l : List Sent). slice_get l c.args.message ≡ Some c.in-Some.sent.now) c.as_slice.ensures.value (slice_get_read c.as_slice.result.now _ c.args.message c.in-Some.sent.now refl at.0 (at.1 c.in-Some.sent.now)) in
    let kept = kept-at (map replica_of c.self.inside.replicas.items) c.self.inside.messages.items c.args.message c.in-Some.sent.now c.self.invariant.1 here in
    subst (λ (a : Ask). IsAsk a) (sym (copied-is c.self.inside.replicas.items c.as_slice-in-Taken.result.now c.in-Some.sent.now c.in_ok-ask.ask c.in_ok-ask.ensures c.as_slice-in-Taken.ensures.value))
    (sent-is-ask (chain_seen c.self.inside.replicas.items c.self.inside.messages.items) c.in-Some.sent.now c.self.invariant.0 kept)

pub append_at-requires-clause-coherent : goal.append_at-requires-clause-coherent
append_at-requires-clause-coherent c =
    let at = c.in-Some.ensures.lookup.3 in
    let here : slice_get c.self.inside.messages.items c.args.message ≡ Some c.in-Some.sent.now =
    subst (λ (l : List Sent). slice_get l c.args.message ≡ Some c.in-Some.sent.now) c.as_slice.ensures.value (slice_get_read c.as_slice.result.now _ c.args.message c.in-Some.sent.now refl at.0 (at.1 c.in-Some.sent.now)) in
    let kept = kept-at (map replica_of c.self.inside.replicas.items) c.self.inside.messages.items c.args.message c.in-Some.sent.now c.self.invariant.1 here in
    subst (λ (a : Ask). AreCoherent (a.later ∷ a.earlier ++ flat_map ask_stamps (asks_at (map replica_of c.as_mut_slice.result.now) c.in-Some.sent.now.addressee)))
    (sym (copied-is c.self.inside.replicas.items c.as_slice-in-Taken.result.now c.in-Some.sent.now c.in_ok-ask.ask c.in_ok-ask.ensures c.as_slice-in-Taken.ensures.value)) (
    subst (λ (l : List HeldView). AreCoherent ((message_seen (map replica_of c.self.inside.replicas.items) c.in-Some.sent.now).ask.later ∷ (message_seen (map replica_of c.self.inside.replicas.items) c.in-Some.sent.now).ask.earlier
    ++ flat_map ask_stamps (asks_at (map replica_of l) c.in-Some.sent.now.addressee))) (sym c.as_mut_slice.ensures.value)
    (sent-coherent c.parts_and_unions_are_coherent.ensures.part (chain_seen c.self.inside.replicas.items c.self.inside.messages.items) c.in-Some.sent.now c.in-Some.sent.now.addressee c.self.invariant.0 kept))

pub invariant_of-self : goal.invariant_of-self
invariant_of-self c =
    let at = c.in-Some.ensures.lookup.3 in
    let here : slice_get c.self.inside.messages.items c.args.message ≡ Some c.in-Some.sent.now =
    subst (λ (l : List Sent). slice_get l c.args.message ≡ Some c.in-Some.sent.now) c.as_slice.ensures.value (slice_get_read c.as_slice.result.now _ c.args.message c.in-Some.sent.now refl at.0 (at.1 c.in-Some.sent.now)) in
    let ask-is = copied-is c.self.inside.replicas.items c.as_slice-in-Taken.result.now c.in-Some.sent.now c.in_ok-ask.ask c.in_ok-ask.ensures c.as_slice-in-Taken.ensures.value in
    let taken : delivery_of (map replica_of c.self.inside.replicas.items) (message_seen (map replica_of c.self.inside.replicas.items) c.in-Some.sent.now) ≡ Taken =
    ap (λ (l : List HeldView). delivery_of (map replica_of l) (message_seen (map replica_of l) c.in-Some.sent.now)) (sym c.as_slice-2.ensures.value) ∙ sym c.delivery-became.ensures ∙ c.in-Taken.is in
    let seen : map replica_of (take c.self.inside.replicas.len (c.append_at.new.replicas ++ drop (length c.append_at.new.replicas) c.self.inside.replicas.items))
    ≡ with_ask (map replica_of c.self.inside.replicas.items) c.in-Some.sent.now.addressee (message_seen (map replica_of c.self.inside.replicas.items) c.in-Some.sent.now).ask =
    written-is c.self.inside.replicas.items c.append_at.new.replicas c.self.inside.replicas.len _ c.self.inside.replicas.ok.0
    (c.in_ok-append_at.ensures.appended ∙ (λ i. with_ask (map replica_of (c.as_mut_slice.ensures.value i)) c.in-Some.sent.now.addressee (ask-is i)))
    (length-set (map replica_of c.self.inside.replicas.items) c.in-Some.sent.now.addressee _ ∙ held-length c.self.inside.replicas.items) in
    taken-holds c.self.inside.replicas.items _ c.self.inside.messages.items c.self.invariant.1 c.args.message c.in-Some.sent.now here taken seen c.self.invariant.2
    (c.calls_keep_the_chain.ensures.one_call _ (Deliver c.args.message) c.self.invariant.0 tt)

pub invariant_of-self-in_err-append_at : goal.invariant_of-self-in_err-append_at
invariant_of-self-in_err-append_at c =
    let seen : map replica_of (take c.self.inside.replicas.len (c.append_at.new.replicas ++ drop (length c.append_at.new.replicas) c.self.inside.replicas.items)) ≡ map replica_of c.self.inside.replicas.items =
    written-is c.self.inside.replicas.items c.append_at.new.replicas c.self.inside.replicas.len (map replica_of c.self.inside.replicas.items) c.self.inside.replicas.ok.0
    (c.in_err-append_at.ensures.as_before ∙ ap (λ (l : List HeldView). map replica_of l) c.as_mut_slice.ensures.value) (held-length c.self.inside.replicas.items) in
    same-holds c.self.inside.replicas.items _ c.self.inside.messages.items c.self.invariant.1 seen c.self.invariant.2 c.self.invariant.0

pub returns-in_err-append_at-clause-fault : goal.returns-in_err-append_at-clause-fault
returns-in_err-append_at-clause-fault c =
    let at = c.in-Some.ensures.lookup.3 in
    let here : slice_get c.self.inside.messages.items c.args.message ≡ Some c.in-Some.sent.now =
    subst (λ (l : List Sent). slice_get l c.args.message ≡ Some c.in-Some.sent.now) c.as_slice.ensures.value (slice_get_read c.as_slice.result.now _ c.args.message c.in-Some.sent.now refl at.0 (at.1 c.in-Some.sent.now)) in
    let taken : delivery_of (map replica_of c.self.inside.replicas.items) (message_seen (map replica_of c.self.inside.replicas.items) c.in-Some.sent.now) ≡ Taken =
    ap (λ (l : List HeldView). delivery_of (map replica_of l) (message_seen (map replica_of l) c.in-Some.sent.now)) (sym c.as_slice-2.ensures.value) ∙ sym c.delivery-became.ensures ∙ c.in-Taken.is in
    full c.from_residual-in_err-append_at.result (delivered_at c.args.self.now c.args.message ≡ None) (delivered_at c.args.self.now c.args.message ≡ Some Taken) c.from_residual-in_err-append_at.ensures.1
    (ap (λ (v : ReplicaChainView). delivered_at v c.args.message) (sym c.self.view_is) ∙ became-is c.self.inside.replicas.items c.self.inside.messages.items c.args.message c.in-Some.sent.now here ∙ ap Some taken)

pub returns-in_ok-append_at-clause-became : goal.returns-in_ok-append_at-clause-became
returns-in_ok-append_at-clause-became c =
    let at = c.in-Some.ensures.lookup.3 in
    let here : slice_get c.self.inside.messages.items c.args.message ≡ Some c.in-Some.sent.now =
    subst (λ (l : List Sent). slice_get l c.args.message ≡ Some c.in-Some.sent.now) c.as_slice.ensures.value (slice_get_read c.as_slice.result.now _ c.args.message c.in-Some.sent.now refl at.0 (at.1 c.in-Some.sent.now)) in
    let became : delivery_of (map replica_of c.self.inside.replicas.items) (message_seen (map replica_of c.self.inside.replicas.items) c.in-Some.sent.now) ≡ c.delivery-became.result =
    ap (λ (l : List HeldView). delivery_of (map replica_of l) (message_seen (map replica_of l) c.in-Some.sent.now)) (sym c.as_slice-2.ensures.value) ∙ sym c.delivery-became.ensures in
    ap (λ (v : ReplicaChainView). delivered_at v c.args.message) (sym c.self.view_is) ∙ became-is c.self.inside.replicas.items c.self.inside.messages.items c.args.message c.in-Some.sent.now here ∙ ap Some became

pub returns-in_ok-append_at-clause-delivered : goal.returns-in_ok-append_at-clause-delivered
returns-in_ok-append_at-clause-delivered c =
    let at = c.in-Some.ensures.lookup.3 in
    let here : slice_get c.self.inside.messages.items c.args.message ≡ Some c.in-Some.sent.now =
    subst (λ (l : List Sent). slice_get l c.args.message ≡ Some c.in-Some.sent.now) c.as_slice.ensures.value (slice_get_read c.as_slice.result.now _ c.args.message c.in-Some.sent.now refl at.0 (at.1 c.in-Some.sent.now)) in
    let ask-is = copied-is c.self.inside.replicas.items c.as_slice-in-Taken.result.now c.in-Some.sent.now c.in_ok-ask.ask c.in_ok-ask.ensures c.as_slice-in-Taken.ensures.value in
    let taken : delivery_of (map replica_of c.self.inside.replicas.items) (message_seen (map replica_of c.self.inside.replicas.items) c.in-Some.sent.now) ≡ Taken =
    ap (λ (l : List HeldView). delivery_of (map replica_of l) (message_seen (map replica_of l) c.in-Some.sent.now)) (sym c.as_slice-2.ensures.value) ∙ sym c.delivery-became.ensures ∙ c.in-Taken.is in
    let seen : map replica_of (take c.self.inside.replicas.len (c.append_at.new.replicas ++ drop (length c.append_at.new.replicas) c.self.inside.replicas.items))
    ≡ with_ask (map replica_of c.self.inside.replicas.items) c.in-Some.sent.now.addressee (message_seen (map replica_of c.self.inside.replicas.items) c.in-Some.sent.now).ask =
    written-is c.self.inside.replicas.items c.append_at.new.replicas c.self.inside.replicas.len _ c.self.inside.replicas.ok.0
    (c.in_ok-append_at.ensures.appended ∙ (λ i. with_ask (map replica_of (c.as_mut_slice.ensures.value i)) c.in-Some.sent.now.addressee (ask-is i)))
    (length-set (map replica_of c.self.inside.replicas.items) c.in-Some.sent.now.addressee _ ∙ held-length c.self.inside.replicas.items) in
    taken-seen c.self.inside.replicas.items _ c.self.inside.messages.items c.self.invariant.1 c.args.message c.in-Some.sent.now here taken seen
    ∙ ap (λ (v : ReplicaChainView). after_delivery v c.args.message) c.self.view_is

pub returns-in_default-became : goal.returns-in_default-became
returns-in_default-became c =
    let at = c.in-Some.ensures.lookup.3 in
    let here : slice_get c.self.inside.messages.items c.args.message ≡ Some c.in-Some.sent.now =
    subst (λ (l : List Sent). slice_get l c.args.message ≡ Some c.in-Some.sent.now) c.as_slice.ensures.value (slice_get_read c.as_slice.result.now _ c.args.message c.in-Some.sent.now refl at.0 (at.1 c.in-Some.sent.now)) in
    let became : delivery_of (map replica_of c.self.inside.replicas.items) (message_seen (map replica_of c.self.inside.replicas.items) c.in-Some.sent.now) ≡ c.delivery-became.result =
    ap (λ (l : List HeldView). delivery_of (map replica_of l) (message_seen (map replica_of l) c.in-Some.sent.now)) (sym c.as_slice-2.ensures.value) ∙ sym c.delivery-became.ensures in
    record {
      became = ap (λ (v : ReplicaChainView). delivered_at v c.args.message) (sym c.self.view_is) ∙ became-is c.self.inside.replicas.items c.self.inside.messages.items c.args.message c.in-Some.sent.now here ∙ ap Some became;
      fault = tt;
      delivered = sym c.self.view_is
          ∙ sym (left-alone c.self.inside.replicas.items c.self.inside.replicas.items c.self.inside.messages.items c.self.invariant.1 c.args.message c.in-Some.sent.now here (λ is. c.in_default-became.not-Taken (sym became ∙ is)))
          ∙ ap (λ (v : ReplicaChainView). after_delivery v c.args.message) c.self.view_is;
      as_before = tt;
    }
