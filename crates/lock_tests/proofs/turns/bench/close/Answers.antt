use Rattle.std.proofs.Common.{◌≡◌, ◌∙◌, get_or, length, sym, ap, subst, arith}
use Rattle.std.specs.List.{All}
use Rattle.std.proofs.lemmas.List.{length-map}
use Rattle.weaver_locks.specs.Hands.{hand_number, IsHand}
use Rattle.weaver_locks.proofs.Lists.{all-images, has-images}
use Rattle.lock_tests.specs.Turns.{hand_of_seat}
use Rattle.lock_tests.proofs.Seated.{seat-hand}
use Rattle.lock_tests.proofs.turns.bench.close.Goals as goal

pub close-requires-clause-each : goal.close-requires-clause-each
close-requires-clause-each g c =
    let seats = c.args.seats.items in
    subst (All (IsHand c.args.shared)) (sym c.hands_in-hands.ensures.hands)
    (all-images (IsHand c.args.shared) hand_of_seat seats (λ k d low.
    seat-hand c.args.script.now c.args.shared (get_or seats k d) (c.requires.ready k d low)))

pub close-requires-clause-all : goal.close-requires-clause-all
close-requires-clause-all g c number low =
    let hands = c.hands_in-hands.result in
    let seats = c.args.seats.items in
    let many : length hands.items ≡ length seats = ap (λ l. length l) c.hands_in-hands.ensures.hands ∙ length-map seats hand_of_seat in
    has-images hand_number hands.items (λ k d less. c.hands_in-hands.ensures.numbers k d (omega (arith, less, hands.ok.0))) number
    (omega (arith, low, c.requires.count, c.args.seats.ok.0, many))
