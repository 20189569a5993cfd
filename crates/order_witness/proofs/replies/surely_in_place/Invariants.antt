use Rattle.std.proofs.Common.{◌≤◌, ◌-◌, IsTrue, length, take}
use Rattle.report_rules.specs.declared.report.Reply.{Reply}
use Rattle.weave_data.specs.Facts.{AllHold, facts_in_turn}
use Rattle.report_rules.specs.RightReport.{is_reply_in_place}
use Rattle.order_witness.proofs.replies.surely_in_place.Given as goal

abbrev pub invariant-loop-count : goal.invariant-loop-count
invariant-loop-count l = record {
  within : l.count ≤ l.most;
  most : l.most ≤ length l.replies;
  hold : AllHold (facts_in_turn (λ before (reply : Reply). IsTrue (is_reply_in_place l.script before reply)) (take l.count l.replies));
}

abbrev pub decreases-loop-count : goal.decreases-loop-count
decreases-loop-count l = l.most - l.count
