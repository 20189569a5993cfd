use Rattle.order_witness.specs.Heads.{AreCut}
use Rattle.order_witness.proofs.heads.runs_of.Given as goal

abbrev pub invariant-loop-place : goal.invariant-loop-place
invariant-loop-place l = AreCut l.report l.line l.place l.start l.runs.items
