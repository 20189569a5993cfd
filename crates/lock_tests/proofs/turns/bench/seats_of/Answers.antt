use Rattle.std.proofs.Common.{rules, ◌≡◌, ◌+◌, ◌++◌, ◌∷◌, [], ◌∙◌, length, sym, ap, subst, arith}
use Rattle.std.specs.List.{All}
use Rattle.std.specs.Vec.Iter.{into_iter_items, into_iter_len}
use Rattle.std.proofs.lemmas.List.{length_push}
use Rattle.lock_tests.specs.Turns.{IsHandOfNewLocks, IsReadySeat}
use Rattle.lock_tests.proofs.Seated.{all-more, all-next}
use Rattle.lock_tests.proofs.turns.bench.seats_of.Goals as goal

pub loop-hand-init : goal.loop-hand-init
loop-hand-init g c =
    let left = c.into_iter-hand-iterator.result in
    let none : length c.new-seats.result.items ≡ 0 = ap (λ l. length l) c.new-seats.ensures.items in
    let same : into_iter_items left ≡ c.args.hands.items = search rules in
    let long : into_iter_len left ≡ length (into_iter_items left) = search rules in
    let many : length (into_iter_items left) ≡ length c.args.hands.items = ap (λ l. length l) same in
    record {
      ready = λ k d low. absurd (omega (arith, low, none));
      new = subst (All (IsHandOfNewLocks c.args.shared.now)) (sym same) c.requires.new;
      long = long;
      count = omega (arith, none, long, many);
    }

pub seat_of-seat-requires-clause-new : goal.seat_of-seat-requires-clause-new
seat_of-seat-requires-clause-new g c =
    (all-next (IsHandOfNewLocks c.args.shared.now) _ _ c.in-Some.hand c.in-Some.ensures.steps.0 c.loop-hand.invariant.new).0

pub loop-hand-preserved : goal.loop-hand-preserved
loop-hand-preserved g c =
    let was = c.loop-hand.invariant in
    let steps = c.in-Some.ensures.steps in
    let some = steps.1 in
    let long = ap (λ l. length l) (sym steps.0) in
    let seats = c.loop-hand.seats.items in
    let seat = c.seat_of-seat.result in
    let more : c.push.new.self.items ≡ seats ++ seat ∷ [] = rw c.expect.ensures at c.push.ensures.items in
    let longer : length c.push.new.self.items ≡ length seats + 1 = ap (λ l. length l) more ∙ length_push seats seat in
    record {
      ready = all-more (IsReadySeat c.args.script.now c.args.shared.now) seats c.push.new.self.items seat more was.ready c.seat_of-seat.ensures;
      new = (all-next (IsHandOfNewLocks c.args.shared.now) _ _ c.in-Some.hand steps.0 was.new).1;
      long = omega (arith, was.long, some, long);
      count = omega (arith, was.count, some, longer);
    }
