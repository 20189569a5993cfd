use Rattle.std.proofs.Common.{take}
use Rattle.order_witness.proofs.Visiting.{AreMarkedAmong}
use Rattle.order_witness.proofs.replay.mark_all.Given as goal

abbrev pub invariant-loop-place : goal.invariant-loop-place
invariant-loop-place l = AreMarkedAmong l.pairs l.visits l.initial.marks.items (take l.place-index l.places) l.marks.items
