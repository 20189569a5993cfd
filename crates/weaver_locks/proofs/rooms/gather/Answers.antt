use Rattle.std.proofs.Common.{rules, arith, ◌≡◌, [], ◌∷◌, ◌++◌, List, length, map, refl, sym, ap, ◌∙◌, subst, vec_len}
use Rattle.weaver_locks.specs.declared.hand.Hand.{Hand}
use Rattle.weaver_locks.specs.Rooms.{HaveGathered}
use Rattle.weaver_locks.proofs.Lists.{of_next, one_is_left, one_done, all_done}
use Rattle.weaver_locks.proofs.Gathering.{gathered_none, gathered_more, has_space, row_gathered_none, row_gathered_more, row_has_space}
use Rattle.weaver_locks.proofs.rooms.gather.Goals as goal

pub loop-hand-init : goal.loop-hand-init
loop-hand-init c = record {
  done = [];
  hands = search rules;
  long = search rules;
  gate_count = refl;
  shard_count = refl;
  gates = row_gathered_none (λ (h : Hand). h.gates.items) (vec_len c.args.hands) c.args.rooms.now.gates.items c.requires.gates;
  store = gathered_none (λ (h : Hand). h.store) (vec_len c.args.hands) c.args.rooms.now.store c.requires.store;
  oracle = gathered_none (λ (h : Hand). h.oracle) (vec_len c.args.hands) c.args.rooms.now.oracle c.requires.oracle;
  shards = row_gathered_none (λ (h : Hand). h.shards.items) (vec_len c.args.hands) c.args.rooms.now.shards.items c.requires.shards;
}

pub put_row-requires-clause-count : goal.put_row-requires-clause-count
put_row-requires-clause-count c =
    let was = c.loop-hand.invariant in
    let hand = c.in-Some.hand in
    let long = of_next (λ (h : Hand). length h.gates.items ≡ length c.args.rooms.now.gates.items) c.args.hands.items was.done _ _ hand
    c.requires.gate_count was.hands c.in-Some.ensures.steps.0 in
    omega (arith, long, was.gate_count, hand.gates.ok.0)

pub put_row-requires-clause-space : goal.put_row-requires-clause-space
put_row-requires-clause-space c =
    let was = c.loop-hand.invariant in
    let hand = c.in-Some.hand in
    let next = c.in-Some.ensures.steps.0 in
    let long = of_next (λ (h : Hand). length h.gates.items ≡ length c.args.rooms.now.gates.items) c.args.hands.items was.done _ _ hand
    c.requires.gate_count was.hands next in
    let few = one_is_left c.args.hands.items was.done _ _ hand was.hands next in
    row_has_space (λ (h : Hand). h.gates.items) (vec_len c.args.hands) was.done hand c.loop-hand.rooms.gates.items
    (omega (arith, few, c.args.hands.ok.0)) (omega (arith, long, was.gate_count)) was.gates

pub push_reserved-requires : goal.push_reserved-requires
push_reserved-requires c =
    let was = c.loop-hand.invariant in
    let few = one_is_left c.args.hands.items was.done _ _ c.in-Some.hand was.hands c.in-Some.ensures.steps.0 in
    has_space (λ (h : Hand). h.store) (vec_len c.args.hands) was.done c.loop-hand.rooms.store (omega (arith, few, c.args.hands.ok.0)) was.store

pub push_reserved-requires-in-loop-hand : goal.push_reserved-requires-in-loop-hand
push_reserved-requires-in-loop-hand c =
    let was = c.loop-hand.invariant in
    let few = one_is_left c.args.hands.items was.done _ _ c.in-Some.hand was.hands c.in-Some.ensures.steps.0 in
    has_space (λ (h : Hand). h.oracle) (vec_len c.args.hands) was.done c.loop-hand.rooms.oracle (omega (arith, few, c.args.hands.ok.0)) was.oracle

pub put_row-requires-in-loop-hand-clause-count : goal.put_row-requires-in-loop-hand-clause-count
put_row-requires-in-loop-hand-clause-count c =
    let was = c.loop-hand.invariant in
    let hand = c.in-Some.hand in
    let long = of_next (λ (h : Hand). length h.shards.items ≡ length c.args.rooms.now.shards.items) c.args.hands.items was.done _ _ hand
    c.requires.shard_count was.hands c.in-Some.ensures.steps.0 in
    omega (arith, long, was.shard_count, hand.shards.ok.0)

pub put_row-requires-in-loop-hand-clause-space : goal.put_row-requires-in-loop-hand-clause-space
put_row-requires-in-loop-hand-clause-space c =
    let was = c.loop-hand.invariant in
    let hand = c.in-Some.hand in
    let next = c.in-Some.ensures.steps.0 in
    let long = of_next (λ (h : Hand). length h.shards.items ≡ length c.args.rooms.now.shards.items) c.args.hands.items was.done _ _ hand
    c.requires.shard_count was.hands next in
    let few = one_is_left c.args.hands.items was.done _ _ hand was.hands next in
    row_has_space (λ (h : Hand). h.shards.items) (vec_len c.args.hands) was.done hand c.loop-hand.rooms.shards.items
    (omega (arith, few, c.args.hands.ok.0)) (omega (arith, long, was.shard_count)) was.shards

pub loop-hand-preserved : goal.loop-hand-preserved
loop-hand-preserved c =
    let was = c.loop-hand.invariant in
    let hand = c.in-Some.hand in
    let steps = c.in-Some.ensures.steps in
    let some = steps.1 in
    let next = steps.0 in
    let count = vec_len c.args.hands in
    let rooms = c.loop-hand.rooms in
    let long = ap (λ l. length l) (sym next) in record {
      done = was.done ++ hand ∷ [];
      hands = one_done c.args.hands.items was.done _ _ hand was.hands next;
      long = omega (arith, was.long, some, long);
      gate_count = c.put_row.ensures.count ∙ was.gate_count;
      shard_count = c.put_row-in-loop-hand.ensures.count ∙ was.shard_count;
      gates = row_gathered_more (λ (h : Hand). h.gates.items) count was.done hand rooms.gates.items c.put_row.new.rooms.items
          c.put_row.ensures.count c.put_row.ensures.taken was.gates;
      store = gathered_more (λ (h : Hand). h.store) count was.done hand rooms.store c.push_reserved.new.self
          record { items = c.push_reserved.ensures.items; space = c.push_reserved.ensures.capacity } was.store;
      oracle = gathered_more (λ (h : Hand). h.oracle) count was.done hand rooms.oracle c.push_reserved-in-loop-hand.new.self
          record { items = c.push_reserved-in-loop-hand.ensures.items; space = c.push_reserved-in-loop-hand.ensures.capacity } was.oracle;
      shards = row_gathered_more (λ (h : Hand). h.shards.items) count was.done hand rooms.shards.items c.put_row-in-loop-hand.new.rooms.items
          c.put_row-in-loop-hand.ensures.count c.put_row-in-loop-hand.ensures.taken was.shards;
    }

pub returns-clause-gates : goal.returns-clause-gates
returns-clause-gates c =
    let was = c.loop-hand.invariant in
    let all = all_done c.args.hands.items was.done _ _ was.hands was.long c.in-None.ensures.steps.0 in
    subst (λ (hs : List Hand). HaveGathered (λ hand. hand.gates.items) (vec_len c.args.hands) hs c.loop-hand.rooms.gates.items) all was.gates

pub returns-clause-store : goal.returns-clause-store
returns-clause-store c =
    let was = c.loop-hand.invariant in
    let all = all_done c.args.hands.items was.done _ _ was.hands was.long c.in-None.ensures.steps.0 in
    was.store.items ∙ ap (map (λ (h : Hand). h.store)) all

pub returns-clause-oracle : goal.returns-clause-oracle
returns-clause-oracle c =
    let was = c.loop-hand.invariant in
    let all = all_done c.args.hands.items was.done _ _ was.hands was.long c.in-None.ensures.steps.0 in
    was.oracle.items ∙ ap (map (λ (h : Hand). h.oracle)) all

pub returns-clause-shards : goal.returns-clause-shards
returns-clause-shards c =
    let was = c.loop-hand.invariant in
    let all = all_done c.args.hands.items was.done _ _ was.hands was.long c.in-None.ensures.steps.0 in
    subst (λ (hs : List Hand). HaveGathered (λ hand. hand.shards.items) (vec_len c.args.hands) hs c.loop-hand.rooms.shards.items) all was.shards
