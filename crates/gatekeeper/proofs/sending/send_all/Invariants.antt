use Rattle.std.proofs.Common.{drop}
use Rattle.gatekeeper.proofs.Delivery.{GoesOn}
use Rattle.gatekeeper.proofs.sending.send_all.Given as goal

abbrev pub invariant-loop-at : goal.invariant-loop-at
invariant-loop-at l = GoesOn l.fn.channels.items l.channels.items l.entry l.messages l.at (drop l.at l.messages)
