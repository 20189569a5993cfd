use Rattle.std.specs.Vec.Iter.{into_iter_items}
use Rattle.std.proofs.Common.{ℕ, ◌<◌, List, ◌++◌, Contains, drop, length, map, slice_get, sym, ap, subst, ◌∙◌, arith}
use Rattle.std.proofs.lemmas.Option.{get_or_from_slice_get, slice_get_within}
use Rattle.weaver_locks.specs.declared.hand.Hand.{Hand}
use Rattle.weave_phase.specs.declared.seats.Seat.{Seat}
use Rattle.weave_phase.specs.OneSeat.{IsUnseated}
use Rattle.weave_phase.specs.Seats.{hand_in}
use Rattle.weave_phase.proofs.Placed.{all_gone, map_more, next_at}
use Rattle.weave_phase.proofs.SoFar.{UnseatedSoFar, all_back, unseated_more}
use Rattle.weave_phase.proofs.seats.unseat_all.Goals as goal

pub hand_of-requires-clause-client : goal.hand_of-requires-clause-client
hand_of-requires-clause-client c =
    let steps = c.in-Some.ensures.steps in
    let next = next_at c.args.seats.items c.loop-k.k-iterator.count c.in-Some.seat _ (sym steps.0.0 ∙ c.loop-k.invariant.left) in
    c.requires.clients c.in-Some.k c.in-Some.seat (ap (slice_get c.args.seats.items) steps.1 ∙ next.0)

pub hand_of-requires-clause-other : goal.hand_of-requires-clause-other
hand_of-requires-clause-other c =
    let steps = c.in-Some.ensures.steps in
    let next = next_at c.args.seats.items c.loop-k.k-iterator.count c.in-Some.seat _ (sym steps.0.0 ∙ c.loop-k.invariant.left) in
    c.requires.others c.in-Some.k c.in-Some.seat (ap (slice_get c.args.seats.items) steps.1 ∙ next.0)

pub hand_of-requires-clause-there : goal.hand_of-requires-clause-there
hand_of-requires-clause-there c = λ session at.
    let sessions = c.args.sessions.now in
    let place = c.in-Some.k in
    let low = c.requires.there session (place, slice_get_within sessions place session at, get_or_from_slice_get sessions place session session at) in
    let long = c.loop-k.invariant.so_far.long in
    let old = c.args.slots.now.ok.0 in
    let now = c.loop-k.slots.ok.0 in
    omega (arith, low, long, old, now)

pub loop-k-preserved : goal.loop-k-preserved
loop-k-preserved c =
    let seats = c.args.seats.items in
    let sessions = c.args.sessions.now in
    let old = c.args.slots.now.items in
    let now = c.loop-k.slots.items in
    let then_slots = c.hand_of.new.slots.items in
    let place = c.loop-k.k-iterator.count in
    let steps = c.in-Some.ensures.steps in
    let next = next_at seats place c.in-Some.seat _ (sym steps.0.0 ∙ c.loop-k.invariant.left) in
    let unseated = subst (λ n. IsUnseated sessions n c.in-Some.seat.worker now then_slots) steps.1 c.hand_of.ensures.back in
    let rest = into_iter_items c.next.new.self.iter in
    let hand_of_seat : Seat → Hand = λ seat. hand_in seat.worker in
    let there : (session : ℕ) → Contains sessions session → session < length old =
    λ session has. let low = c.requires.there session has in let long = c.args.slots.now.ok.0 in omega (arith, low, long) in
    record {
      left = next.1 ∙ ap (λ n. drop n seats) (sym steps.2);
      long =
          let was = c.loop-k.invariant.long in
          let gone = steps.0.1 in
          let short = ap length steps.0.0 in
          omega arith;
      hands = ap (λ (l : List Hand). l ++ map hand_of_seat rest) c.in_ok-push.ensures.items
          ∙ map_more hand_of_seat c.loop-k.hands.items (map hand_of_seat seats) (into_iter_items c.loop-k.k-iterator.iter) c.in-Some.seat rest
          c.hand_of.result c.loop-k.invariant.hands (sym steps.0.0) c.hand_of.ensures.hand;
      within = let low = slice_get_within seats place c.in-Some.seat next.0 in omega (arith, low, steps.2);
      so_far = subst (λ n. UnseatedSoFar sessions n seats old then_slots) (sym steps.2)
          (unseated_more sessions place seats old now then_slots c.requires.rising there c.loop-k.invariant.so_far c.in-Some.seat next.0 unseated);
    }

pub returns-clause-back : goal.returns-clause-back
returns-clause-back c =
    let place = c.loop-k.k-iterator.count in
    let none = c.in-None.ensures.steps in
    let over = all_gone c.args.seats.items place _ c.loop-k.invariant.left (sym c.loop-k.invariant.long ∙ none.0.0) in
    let long = c.args.seats.ok.0 in
    all_back c.args.sessions.now place c.args.seats.items c.args.slots.now.items c.loop-k.slots.items c.loop-k.invariant.so_far
    (omega (arith, long, c.requires.enough, over))
