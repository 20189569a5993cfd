use Rattle.priced_path.specs.Tables.{IsLooking}
use Rattle.priced_path.proofs.least.look.Given as goal

abbrev pub invariant-loop-target : goal.invariant-loop-target
invariant-loop-target l = IsLooking l.rows l.v l.label l.target-index l.initial.labels l.labels l.initial.opened l.opened
