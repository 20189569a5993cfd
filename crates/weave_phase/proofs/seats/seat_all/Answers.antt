use Rattle.std.proofs.Common.{◌≡◌, ℕ, List, drop, length, slice_get, sym, ap, subst, ◌∙◌, arith}
use Rattle.std.proofs.lemmas.Option.{slice_get_within}
use Rattle.weave_phase.specs.declared.seats.Seat.{Seat}
use Rattle.weave_phase.specs.OneSeat.{IsSeated}
use Rattle.weave_phase.proofs.Placed.{all_gone, next_at}
use Rattle.weave_phase.proofs.SoFar.{SeatedSoFar, all_dealt, all_taken, seated_more, still_there}
use Rattle.weave_phase.proofs.seats.seat_all.Goals as goal

pub worker_of-worker-requires-clause-there : goal.worker_of-worker-requires-clause-there
worker_of-worker-requires-clause-there c = λ session at.
    still_there c.args.sessions.now c.args.gates c.loop-k.k-iterator.count c.args.hands.items c.args.slots.now.items c.loop-k.slots.items c.loop-k.seats.items
    c.requires.rising c.loop-k.invariant.so_far c.requires.there session (ap (slice_get c.args.sessions.now) (sym c.in-Some.ensures.steps.1) ∙ at)

pub loop-k-preserved : goal.loop-k-preserved
loop-k-preserved c =
    let hands = c.args.hands.items in
    let sessions = c.args.sessions.now in
    let old = c.args.slots.now.items in
    let now = c.loop-k.slots.items in
    let then_slots = c.worker_of-worker.new.slots.items in
    let place = c.loop-k.k-iterator.count in
    let steps = c.in-Some.ensures.steps in
    let next = next_at hands place c.in-Some.hand _ (sym steps.0.0 ∙ c.loop-k.invariant.left) in
    let seated = subst (λ n. IsSeated sessions c.args.gates n c.in-Some.hand now then_slots c.worker_of-worker.result) steps.1 c.worker_of-worker.ensures in
    record {
      left = next.1 ∙ ap (λ n. drop n hands) (sym steps.2);
      long =
          let was = c.loop-k.invariant.long in
          let gone = steps.0.1 in
          let short = ap length steps.0.0 in
          omega arith;
      within = let low = slice_get_within hands place c.in-Some.hand next.0 in omega (arith, low, steps.2);
      so_far = subst (λ (z : ℕ × List Seat). SeatedSoFar sessions c.args.gates z.0 hands old then_slots z.1) (λ i. (sym steps.2 i, sym {A = List Seat} c.in_ok-push.ensures.items i))
          (seated_more sessions c.args.gates place hands old now then_slots c.loop-k.seats.items c.requires.rising c.loop-k.invariant.so_far c.in-Some.hand next.0 c.worker_of-worker.result seated);
    }

pub returns-clause-dealt : goal.returns-clause-dealt
returns-clause-dealt c =
    let place = c.loop-k.k-iterator.count in
    let none = c.in-None.ensures.steps in
    let over = all_gone c.args.hands.items place _ c.loop-k.invariant.left (sym c.loop-k.invariant.long ∙ none.0.0) in
    let end : place ≡ length c.args.hands.items = omega (arith, over, c.loop-k.invariant.within) in
    let long = c.args.hands.ok.0 in
    all_dealt c.args.sessions.now c.args.gates place c.args.hands.items c.args.slots.now.items c.loop-k.slots.items c.loop-k.seats.items c.loop-k.invariant.so_far
    (omega (arith, long, c.requires.enough, over)) end

pub returns-clause-taken : goal.returns-clause-taken
returns-clause-taken c =
    let place = c.loop-k.k-iterator.count in
    let none = c.in-None.ensures.steps in
    let over = all_gone c.args.hands.items place _ c.loop-k.invariant.left (sym c.loop-k.invariant.long ∙ none.0.0) in
    let long = c.args.hands.ok.0 in
    all_taken c.args.sessions.now c.args.gates place c.args.hands.items c.args.slots.now.items c.loop-k.slots.items c.loop-k.seats.items c.loop-k.invariant.so_far
    (omega (arith, long, c.requires.enough, over))
