use Rattle.lock_tests.specs.Turns.{IsReadySeat}
use Rattle.lock_tests.proofs.turns.side_by_side.play_own.Given as goal

abbrev pub invariant-loop-who : goal.invariant-loop-who
invariant-loop-who g l = IsReadySeat l.fn.script l.fn.shared l.seat
