use Rattle.std.proofs.Common.{IsTrue, take}
use Rattle.report_rules.specs.declared.report.Reply.{Reply}
use Rattle.weave_data.specs.Facts.{AllHold, facts_of_each}
use Rattle.report_rules.specs.Lookups.{is_final}
use Rattle.run_judge.proofs.finals.first_open_reply.Given as goal

abbrev pub invariant-loop-place : goal.invariant-loop-place
invariant-loop-place l = AllHold (facts_of_each (λ (reply : Reply). IsTrue (is_final reply.state)) (take l.place l.reply-items))
