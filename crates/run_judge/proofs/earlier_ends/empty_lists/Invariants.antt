use Rattle.order_witness.proofs.Numbered.{AreEmptySoFar}
use Rattle.run_judge.proofs.earlier_ends.empty_lists.Given as goal

abbrev pub invariant-loop : goal.invariant-loop
invariant-loop l = AreEmptySoFar l.counter l.lists.items
