use Rattle.lock_tests.proofs.Seated.{idle-on}
use Rattle.lock_tests.proofs.turns.play.take_gates_turn.Goals as goal

pub returns : goal.returns
returns g c = idle-on c.args.shared.now c.args.hand.now c.turn_gate-done.new.hand c.turn_gate-done.ensures.there.carries c.requires.idle
