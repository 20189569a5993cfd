use Rattle.std.proofs.Common.{take}
use Rattle.weave_data.specs.Facts.{AllHold, facts_of_each}
use Rattle.report_rules.specs.RightReport.{IsPairInPlace}
use Rattle.order_witness.proofs.pairs.first_fault.Given as goal

abbrev pub invariant-loop-place : goal.invariant-loop-place
invariant-loop-place l = AllHold (facts_of_each (IsPairInPlace l.script l.report) (take l.place l.pair-items))
