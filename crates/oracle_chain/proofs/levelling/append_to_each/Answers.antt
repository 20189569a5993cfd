use Rattle.std.proofs.Common.{◌≡◌, ◌<◌, ◌≤◌, ◌++◌, ℕ, List, [], length, get_or, set, take, drop, map, sym, ap, subst, ◌∙◌, arith, get_or-set_other}
use Rattle.std.specs.List.{flat_map}
use Rattle.std.proofs.lemmas.List.{get_or_default}
use Rattle.std.specs.Vec.Iter.{into_iter_items}
use Rattle.vector_stamp.specs.Coherence.{AreCoherent}
use Rattle.oracle_chain.specs.declared.ask.Ask.{Ask}
use Rattle.oracle_chain.specs.Replay.{ask_stamps}
use Rattle.oracle_chain.specs.Held.{HeldView, replica_of, no_held, with_more}
use Rattle.oracle_chain.proofs.Rooms.{left-next, more-seen}
use Rattle.oracle_chain.proofs.levelling.append_to_each.Goals as goal

-- the replica of a number that has not appended yet
still : (held first : List HeldView) (count number : ℕ) (one : HeldView) → number ≡ count → count < length held → ((i : ℕ) → count ≤ i → get_or held i no_held ≡ get_or first i no_held) → get_or held number one ≡ get_or first count no_held
still held first count number one at within before = ap (λ k. get_or held k one) at ∙ get_or_default held count one no_held within ∙ before count (omega arith)

pub append_all-requires-clause-coherent : goal.append_all-requires-clause-coherent
append_all-requires-clause-coherent c =
    let count = c.loop-number.number-iterator.count in
    let steps = c.in-Some.ensures.steps in
    let next = left-next c.args.lacked.items (into_iter_items c.next.new.self.iter) c.loop-number.number-iterator.count c.in-Some.asks [] (sym steps.0.0 ∙ c.loop-number.invariant.left) in
    let below = next.0 in
    let each = c.requires.a_list_each in
    let long = c.loop-number.auto.replicas in
    let within : c.loop-number.number-iterator.count < length c.loop-number.replicas = omega (arith, below, each, long) in
    let here = still c.loop-number.replicas c.args.replicas.now c.loop-number.number-iterator.count c.in-Some.number c.index-replicas-number.result steps.1 within c.loop-number.invariant.as_before in
    let may = c.requires.may_append c.loop-number.number-iterator.count below in
    subst (λ (h : HeldView). AreCoherent (flat_map ask_stamps (h.asks ++ c.in-Some.asks))) (sym here) (
    subst (λ (more : List Ask). AreCoherent (flat_map ask_stamps ((get_or c.args.replicas.now c.loop-number.number-iterator.count no_held).asks ++ more))) (sym next.1) may.coherent)

pub loop-number-preserved : goal.loop-number-preserved
loop-number-preserved c =
    let count : ℕ = c.loop-number.number-iterator.count in
    let steps = c.in-Some.ensures.steps in
    let next = left-next c.args.lacked.items (into_iter_items c.next.new.self.iter) c.loop-number.number-iterator.count c.in-Some.asks [] (sym steps.0.0 ∙ c.loop-number.invariant.left) in
    let below = next.0 in
    let each = c.requires.a_list_each in
    let long = c.loop-number.auto.replicas in
    let number = steps.1 in
    let counted = steps.2 in
    let first-within : c.loop-number.number-iterator.count < length c.args.replicas.now = omega (arith, below, each) in
    let within : c.loop-number.number-iterator.count < length c.loop-number.replicas = omega (arith, below, each, long) in
    let here = still c.loop-number.replicas c.args.replicas.now c.loop-number.number-iterator.count c.in-Some.number c.index-replicas-number.result steps.1 within c.loop-number.invariant.as_before in
    record {
      seen = ap (λ k. map replica_of (set c.loop-number.replicas k c.append_all.new.replica)) steps.1
          ∙ more-seen c.args.replicas.now c.loop-number.replicas c.args.lacked.items c.loop-number.number-iterator.count (get_or c.loop-number.replicas c.in-Some.number c.index-replicas-number.result) c.append_all.new.replica c.in-Some.asks first-within below next.1
          c.loop-number.invariant.seen here c.append_all.ensures.live c.append_all.ensures.asks
          ∙ ap (λ k. with_more (map replica_of c.args.replicas.now) (take k c.args.lacked.items)) (sym steps.2);
      left = next.2 ∙ ap (λ k. drop k c.args.lacked.items) (sym steps.2);
      long =
          let was = c.loop-number.invariant.long in
          let gone = steps.0.1 in
          let short = ap length steps.0.0 in
          omega arith;
      as_before = λ i above. get_or-set_other c.loop-number.replicas c.in-Some.number i c.append_all.new.replica no_held (λ same. omega (arith, above, same, number, counted)) ∙ c.loop-number.invariant.as_before i (omega (arith, above, counted));
      within = omega (arith, counted, below);
    }
