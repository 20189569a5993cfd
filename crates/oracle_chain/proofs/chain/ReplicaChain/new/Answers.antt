use Rattle.std.proofs.Common.{◌≡◌, List, length, map, sym, ap, subst, ◌∙◌, Contains, arith}
use Rattle.weave_data.proofs.Members.{has_none}
use Rattle.oracle_chain.specs.declared.message.Sent.{Sent}
use Rattle.oracle_chain.specs.Chain.{ReplicaView, ReplicaChainView}
use Rattle.oracle_chain.specs.Calls.{new_replicas}
use Rattle.oracle_chain.specs.IsReplicaChain.{IsReplicaChain}
use Rattle.oracle_chain.specs.Held.{HeldView, replica_of}
use Rattle.oracle_chain.proofs.Views.{held-length, one-more-new, new-seen, new-length}
use Rattle.oracle_chain.proofs.chain.ReplicaChain.new.Goals as goal

pub loop-preserved : goal.loop-preserved
loop-preserved c =
    ap (λ (l : List HeldView). map replica_of l) c.in_ok-push.ensures.items
    ∙ one-more-new c.loop.counter c.loop.made.items c.new.result c.loop.invariant c.new.ensures.live c.new.ensures.asks

pub invariant_of-result : goal.invariant_of-result
invariant_of-result c =
    let over = c.loop-test.false in
    let end : c.loop.counter ≡ c.args.replicas = omega arith in
    let seen : map replica_of c.loop.made.items ≡ new_replicas c.args.replicas = c.loop.invariant ∙ ap new_replicas end in
    let none = c.new-2.ensures.items in (
      subst (λ (v : ReplicaChainView). IsReplicaChain v) (sym (new-seen c.loop.made.items c.new-2.result.items c.args.replicas seen none)) (c.calls_keep_the_chain.ensures.new c.args.replicas c.requires.some),
      (λ one has. absurd (has_none one (subst (λ (l : List Sent). Contains l one) none has))),
      (let long = held-length c.loop.made.items in
          let same = ap (λ (l : List ReplicaView). length l) seen in
          let many = new-length c.args.replicas in
          let few = c.requires.few in
          omega (arith, long, same, many, few)),
    )
