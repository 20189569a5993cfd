use Rattle.std.proofs.Common.{take}
use Rattle.report_rules.specs.declared.report.Reply.{Reply}
use Rattle.weave_data.specs.Facts.{AllHold, facts_of_each}
use Rattle.report_rules.specs.RightReport.{IsConflictInPlace}
use Rattle.order_witness.proofs.conflicts.first_out_of_place.Given as goal

abbrev pub invariant-loop-place : goal.invariant-loop-place
invariant-loop-place l = AllHold (facts_of_each (λ (reply : Reply). IsConflictInPlace l.script l.report reply.request reply.state) (take l.place l.reply-items))
