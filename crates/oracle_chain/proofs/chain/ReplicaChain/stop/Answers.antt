use Rattle.std.proofs.Common.{◌≡◌, ◌<◌, ◌++◌, false, length, map, set, take, drop, List, sym, ap, subst, ◌∙◌, arith}
use Rattle.std.proofs.lemmas.List.{length-set}
use Rattle.oracle_chain.specs.Chain.{ReplicaView, ReplicaChainView, asks_at, live_count}
use Rattle.oracle_chain.specs.Calls.{after_stop, Stop}
use Rattle.oracle_chain.specs.Held.{HeldView, replica_of}
use Rattle.oracle_chain.proofs.Views.{held-length, held-read, written-is}
use Rattle.oracle_chain.proofs.Changed.{may-stop, stopped-seen, stopped-holds}
use Rattle.oracle_chain.proofs.chain.ReplicaChain.stop.Goals as goal

pub invariant_of-self : goal.invariant_of-self
invariant_of-self c =
    let within : c.args.replica < length (map replica_of c.self.inside.replicas.items) = subst (λ (v : ReplicaChainView). c.args.replica < length v.replicas) (sym c.self.view_is) c.requires in
    let long = held-length c.self.inside.replicas.items in
    let live = ap (λ (r : ReplicaView). r.live) (held-read c.self.inside.replicas.items c.args.replica c.index.result.now (omega (arith, within, long)) c.index.ensures) ∙ sym c.is_live.ensures ∙ c.if-not-is_live.false in
    let counted = c.count_live.ensures ∙ ap (λ (l : List HeldView). live_count (map replica_of l)) c.as_slice.ensures.value in
    let none-here = may-stop c.self.inside.replicas.items c.self.inside.replicas.items c.self.inside.messages.items c.self.invariant.1 c.args.replica live (λ one. omega (arith, one, counted)) in
    let seen : map replica_of (take c.self.inside.replicas.len (c.stop_at.new.replicas ++ drop (length c.stop_at.new.replicas) c.self.inside.replicas.items))
    ≡ set (map replica_of c.self.inside.replicas.items) c.args.replica (record { live = false; asks = asks_at (map replica_of c.self.inside.replicas.items) c.args.replica }) =
    written-is c.self.inside.replicas.items c.stop_at.new.replicas c.self.inside.replicas.len _ c.self.inside.replicas.ok.0
    (c.stop_at.ensures ∙ ap (λ (l : List HeldView). set (map replica_of l) c.args.replica (record { live = false; asks = asks_at (map replica_of l) c.args.replica })) c.as_mut_slice.ensures.value)
    (length-set (map replica_of c.self.inside.replicas.items) c.args.replica _ ∙ held-length c.self.inside.replicas.items) in
    stopped-holds c.self.inside.replicas.items _ c.self.inside.messages.items c.self.invariant.1 c.args.replica within none-here seen c.self.invariant.2
    (c.calls_keep_the_chain.ensures.one_call _ (Stop c.args.replica) c.self.invariant.0 within)

pub returns-clause-after : goal.returns-clause-after
returns-clause-after c =
    let within : c.args.replica < length (map replica_of c.self.inside.replicas.items) = subst (λ (v : ReplicaChainView). c.args.replica < length v.replicas) (sym c.self.view_is) c.requires in
    let long = held-length c.self.inside.replicas.items in
    let live = ap (λ (r : ReplicaView). r.live) (held-read c.self.inside.replicas.items c.args.replica c.index.result.now (omega (arith, within, long)) c.index.ensures) ∙ sym c.is_live.ensures ∙ c.if-not-is_live.false in
    let counted = c.count_live.ensures ∙ ap (λ (l : List HeldView). live_count (map replica_of l)) c.as_slice.ensures.value in
    let none-here = may-stop c.self.inside.replicas.items c.self.inside.replicas.items c.self.inside.messages.items c.self.invariant.1 c.args.replica live (λ one. omega (arith, one, counted)) in
    let seen : map replica_of (take c.self.inside.replicas.len (c.stop_at.new.replicas ++ drop (length c.stop_at.new.replicas) c.self.inside.replicas.items))
    ≡ set (map replica_of c.self.inside.replicas.items) c.args.replica (record { live = false; asks = asks_at (map replica_of c.self.inside.replicas.items) c.args.replica }) =
    written-is c.self.inside.replicas.items c.stop_at.new.replicas c.self.inside.replicas.len _ c.self.inside.replicas.ok.0
    (c.stop_at.ensures ∙ ap (λ (l : List HeldView). set (map replica_of l) c.args.replica (record { live = false; asks = asks_at (map replica_of l) c.args.replica })) c.as_mut_slice.ensures.value)
    (length-set (map replica_of c.self.inside.replicas.items) c.args.replica _ ∙ held-length c.self.inside.replicas.items) in
    stopped-seen c.self.inside.replicas.items _ c.self.inside.messages.items c.self.invariant.1 c.args.replica within none-here seen
    ∙ ap (λ (v : ReplicaChainView). after_stop v c.args.replica) c.self.view_is
