use Rattle.std.proofs.Common.{arith, ◌+◌, List, length, sym, ap, ◌∙◌, subst}
use Rattle.weave_entries.specs.declared.gate_log.GateDeed.{GateDeed}
use Rattle.weave_entries.specs.declared.shard_log.ShardDeed.{ShardDeed}
use Rattle.chronicle.specs.declared.chronicle.Chronicle.{Chronicle}
use Rattle.chronicle.specs.Locks.{lock_of}
use Rattle.lock_row.specs.Hands.{AreDealt, HavePasses}
use Rattle.lock_row.proofs.Hands.{first_popped}
use Rattle.gate_lock.specs.declared.noted_gate.NotedGate.{NotedGate}
use Rattle.shard_lock.specs.declared.noted_shard.NotedShard.{NotedShard}
use Rattle.weaver_locks.proofs.dealing.deal_last.Goals as goal

pub deal_hand-requires-clause-left : goal.deal_hand-requires-clause-left
deal_hand-requires-clause-left c = subst (λ (ls : List (Chronicle NotedGate GateDeed)). HavePasses (c.args.number + 1) ls c.args.passes.now.gates.items)
    (sym c.deref.ensures.value) c.requires.left.gates

pub deal_hand-requires-2-clause-left : goal.deal_hand-requires-2-clause-left
deal_hand-requires-2-clause-left c = subst (λ (ls : List (Chronicle NotedShard ShardDeed)). HavePasses (c.args.number + 1) ls c.args.passes.now.shards.items)
    (sym c.deref-2.ensures.value) c.requires.left.shards

pub take_last-store-requires : goal.take_last-store-requires
take_last-store-requires c = omega (arith, c.requires.left.store.count_is, c.args.passes.now.store.ok.0)

pub take_last-oracle-requires : goal.take_last-oracle-requires
take_last-oracle-requires c = omega (arith, c.requires.left.oracle.count_is, c.args.passes.now.oracle.ok.0)

pub returns-clause-left : goal.returns-clause-left
returns-clause-left c =
    let locks = c.args.locks.now in
    let n = c.args.number in
    let gates = c.deref.ensures.value in
    let shards = c.deref-2.ensures.value in
    record {
      gate_count = c.deal_hand.ensures.count ∙ ap (λ (ls : List (Chronicle NotedGate GateDeed)). length ls) gates;
      gates = subst (λ (ls : List (Chronicle NotedGate GateDeed)). HavePasses n ls c.deal_hand.new.passes.items) gates c.in_ok-gates.ensures.left;
      store = (first_popped n (lock_of locks.store) c.args.passes.now.store.items c.take_last-store.new.self.items c.take_last-store.result
          c.requires.left.store c.take_last-store.ensures.items).0;
      oracle = (first_popped n (lock_of locks.oracle) c.args.passes.now.oracle.items c.take_last-oracle.new.self.items c.take_last-oracle.result
          c.requires.left.oracle c.take_last-oracle.ensures.items).0;
      shard_count = c.deal_hand-2.ensures.count ∙ ap (λ (ls : List (Chronicle NotedShard ShardDeed)). length ls) shards;
      shards = subst (λ (ls : List (Chronicle NotedShard ShardDeed)). HavePasses n ls c.deal_hand-2.new.passes.items) shards c.in_ok-shards.ensures.left;
    }

pub returns-clause-hand : goal.returns-clause-hand
returns-clause-hand c =
    let locks = c.args.locks.now in
    let n = c.args.number in
    let gates = c.deref.ensures.value in
    let shards = c.deref-2.ensures.value in
    record {
      gate_count = sym c.in_ok-gates.gates.ok.0 ∙ (c.in_ok-gates.ensures.hand_count ∙ ap (λ (ls : List (Chronicle NotedGate GateDeed)). length ls) gates);
      gates = subst (λ (ls : List (Chronicle NotedGate GateDeed)). AreDealt n ls c.in_ok-gates.gates.items) gates c.in_ok-gates.ensures.dealt;
      store = (first_popped n (lock_of locks.store) c.args.passes.now.store.items c.take_last-store.new.self.items c.take_last-store.result
          c.requires.left.store c.take_last-store.ensures.items).1;
      oracle = (first_popped n (lock_of locks.oracle) c.args.passes.now.oracle.items c.take_last-oracle.new.self.items c.take_last-oracle.result
          c.requires.left.oracle c.take_last-oracle.ensures.items).1;
      shard_count = sym c.in_ok-shards.shards.ok.0 ∙ (c.in_ok-shards.ensures.hand_count ∙ ap (λ (ls : List (Chronicle NotedShard ShardDeed)). length ls) shards);
      shards = subst (λ (ls : List (Chronicle NotedShard ShardDeed)). AreDealt n ls c.in_ok-shards.shards.items) shards c.in_ok-shards.ensures.dealt;
    }
