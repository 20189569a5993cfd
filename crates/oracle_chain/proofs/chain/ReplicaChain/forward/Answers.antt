use Rattle.std.proofs.Common.{◌≡◌, ◌<◌, ◌∷◌, ◌++◌, [], true, length, map, List, Some, sym, ap, subst, ◌∙◌, arith}
use Rattle.std.proofs.lemmas.List.{length-map}
use Rattle.oracle_chain.specs.declared.ask.Ask.{Ask}
use Rattle.oracle_chain.specs.declared.message.Sent.{Sent}
use Rattle.oracle_chain.specs.Chain.{ReplicaView, ReplicaChainView, is_live, asks_at, number_after}
use Rattle.oracle_chain.specs.Calls.{after_forward, Forward}
use Rattle.oracle_chain.specs.IsReplicaChain.{IsReplicaChain}
use Rattle.oracle_chain.specs.Held.{HeldView, replica_of, chain_seen, AreKept}
use Rattle.oracle_chain.proofs.Views.{held-read, next-here, forwarded-is, forwarded-kept}
use Rattle.oracle_chain.proofs.chain.ReplicaChain.forward.Goals as goal
use Rattle.oracle_chain.proofs.chain.ReplicaChain.forward.Goals.{After-push_reserved}

pub overflow_cast-addressee : goal.overflow_cast-addressee
overflow_cast-addressee c =
    let next : number_after (map replica_of c.self.inside.replicas.items) c.args.replica ≡ Some c.in-Some.addressee =
    ap (λ (l : List HeldView). number_after (map replica_of l) c.args.replica) (sym c.as_slice.ensures.value) ∙ sym c.next_live.ensures ∙ c.in-Some.is in
    let here = next-here c.self.inside.replicas.items c.args.replica c.in-Some.addressee next in
    let few = c.self.invariant.2 in
    omega (arith, here, few)

-- who sends, to whom, and what

within : (c : After-push_reserved) → c.args.replica < length c.self.inside.replicas.items
within c =
    let seen : c.args.replica < length (map replica_of c.self.inside.replicas.items) = subst (λ (v : ReplicaChainView). c.args.replica < length v.replicas) (sym c.self.view_is) c.requires in
    let long = length-map c.self.inside.replicas.items replica_of in
    omega (arith, seen, long)

live : (c : After-push_reserved) → is_live (map replica_of c.self.inside.replicas.items) c.args.replica ≡ true
live c =
    ap (λ (r : ReplicaView). r.live) (held-read c.self.inside.replicas.items c.args.replica c.index-sender.result.now (within c) c.index-sender.ensures)
    ∙ sym c.is_live.ensures ∙ c.if-not-is_live.false

next : (c : After-push_reserved) → number_after (map replica_of c.self.inside.replicas.items) c.args.replica ≡ Some c.in-Some.addressee
next c = ap (λ (l : List HeldView). number_after (map replica_of l) c.args.replica) (sym c.as_slice.ensures.value) ∙ sym c.next_live.ensures ∙ c.in-Some.is

has-position : (c : After-push_reserved) → c.args.position < length (asks_at (map replica_of c.self.inside.replicas.items) c.args.replica)
has-position c =
    let less = c.if-position-asks.false in
    let asks = ap (λ (l : List Ask). length l) c.asks.ensures in
    let seen = ap (λ (r : ReplicaView). length r.asks) (held-read c.self.inside.replicas.items c.args.replica c.index-sender.result.now (within c) c.index-sender.ensures) in
    omega (arith, less, asks, seen)

abbrev sent : (c : After-push_reserved) → Sent
sent c = record { addressee = c.in-Some.addressee; position = c.args.position; kept_by = c.args.replica }

messages : (c : After-push_reserved) → c.push_reserved.new.self.items ≡ c.self.inside.messages.items ++ sent c ∷ []
messages c = c.push_reserved.ensures.items ∙ ap (λ (l : List Sent). l ++ sent c ∷ []) c.reserve.ensures.items

seen-is : (c : After-push_reserved) → chain_seen c.self.inside.replicas.items c.push_reserved.new.self.items ≡ after_forward (chain_seen c.self.inside.replicas.items c.self.inside.messages.items) c.args.replica c.args.position
seen-is c =
    ap (λ (l : List Sent). chain_seen c.self.inside.replicas.items l) (messages c)
    ∙ forwarded-is c.self.inside.replicas.items c.self.inside.messages.items c.args.replica c.args.position c.in-Some.addressee (live c) (next c) (has-position c)

pub invariant_of-self-2 : goal.invariant_of-self-2
invariant_of-self-2 c = (
  subst (λ (v : ReplicaChainView). IsReplicaChain v) (sym (seen-is c)) (c.calls_keep_the_chain.ensures.one_call (chain_seen c.self.inside.replicas.items c.self.inside.messages.items) (Forward c.args.replica c.args.position) c.self.invariant.0
      (subst (λ (v : ReplicaChainView). c.args.replica < length v.replicas) (sym c.self.view_is) c.requires)),
  subst (λ (l : List Sent). AreKept (map replica_of c.self.inside.replicas.items) l) (sym (messages c))
      (forwarded-kept c.self.inside.replicas.items c.self.inside.messages.items c.args.replica c.args.position c.in-Some.addressee (live c) (next c) (has-position c) c.self.invariant.1),
  c.self.invariant.2,
)

pub returns-clause-sent : goal.returns-clause-sent
returns-clause-sent c = seen-is c ∙ ap (λ (v : ReplicaChainView). after_forward v c.args.replica c.args.position) c.self.view_is
