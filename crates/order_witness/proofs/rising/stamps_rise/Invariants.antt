use Rattle.order_witness.specs.Rising.{AreInTurnTo, request_comes_before}
use Rattle.order_witness.proofs.rising.stamps_rise.Given as goal

abbrev pub invariant-loop-next : goal.invariant-loop-next
invariant-loop-next l = AreInTurnTo (request_comes_before l.replies) l.places l.next
