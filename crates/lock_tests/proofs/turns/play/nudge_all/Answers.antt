use Rattle.lock_tests.proofs.Seated.{idle-on}
use Rattle.lock_tests.proofs.turns.play.nudge_all.Goals as goal

pub returns : goal.returns
returns g c = idle-on c.args.shared.now c.args.hand.now c.nudge-done.new.hand c.nudge-done.ensures.carries c.requires.idle
