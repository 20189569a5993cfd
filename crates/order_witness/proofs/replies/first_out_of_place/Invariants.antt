use Rattle.std.proofs.Common.{IsTrue, take}
use Rattle.report_rules.specs.declared.report.Reply.{Reply}
use Rattle.weave_data.specs.Facts.{AllHold, facts_in_turn}
use Rattle.report_rules.specs.RightReport.{is_reply_in_place}
use Rattle.order_witness.proofs.replies.first_out_of_place.Given as goal

abbrev pub invariant-loop-place : goal.invariant-loop-place
invariant-loop-place l = AllHold (facts_in_turn (λ before (reply : Reply). IsTrue (is_reply_in_place l.script before reply)) (take l.place l.replies))
