use Rattle.std.proofs.Common.{◌≡◌, ℕ, ◌+◌, ◌∙◌, length, refl, sym, ap, arith}
use Rattle.std.proofs.lemmas.List.{length_push}
use Rattle.weaver_locks.specs.declared.hand.Hand.{Hand}
use Rattle.weaver_locks.specs.Hands.{hand_number}
use Rattle.weaver_locks.proofs.Lists.{pushed}
use Rattle.lock_tests.proofs.Seated.{hands-more}
use Rattle.lock_tests.proofs.turns.bench.hands_in.Goals as goal

pub loop-seat-preserved : goal.loop-seat-preserved
loop-seat-preserved g c =
    let was = c.loop-seat.invariant in
    let steps = c.in-Some.ensures.steps in
    let some = steps.1 in
    let long = ap (λ l. length l) (sym steps.0) in
    let hands = c.loop-seat.hands.items in
    let hand = c.hand_of-hand.result in
    let more = rw c.expect.ensures at c.push.ensures.items in
    let longer : length c.push.new.self.items ≡ length hands + 1 = ap (λ l. length l) more ∙ length_push hands hand in
    let number : hand_number hand ≡ length hands =
    omega (arith, c.number.ensures, c.if-number-len.false, c.len.ensures, c.loop-seat.hands.ok.0) in
    record {
      all = hands-more hands c.push.new.self.items hand _ _ c.in-Some.seat _ more steps.0 c.hand_of-hand.ensures was.all;
      long = omega (arith, was.long, some, long);
      numbers = pushed (λ (k : ℕ) (h : Hand). hand_number h ≡ k) hands c.push.new.self.items hand (length hands)
          (length c.push.new.self.items) more refl longer was.numbers number;
    }
