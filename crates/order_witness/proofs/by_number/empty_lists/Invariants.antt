use Rattle.order_witness.proofs.Numbered.{AreEmptySoFar}
use Rattle.order_witness.proofs.by_number.empty_lists.Given as goal

abbrev pub invariant-loop : goal.invariant-loop
invariant-loop l = AreEmptySoFar l.counter l.lists.items
