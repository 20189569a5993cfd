use Rattle.order_witness.specs.Rising.{AreInTurnTo, session_comes_before}
use Rattle.order_witness.proofs.rising.sessions_rise.Given as goal

abbrev pub invariant-loop-next : goal.invariant-loop-next
invariant-loop-next l = AreInTurnTo (session_comes_before l.script l.replies) l.places l.next
