use Rattle.std.proofs.Common.{◌≡◌, IsTrue, take, length}
use Rattle.report_rules.specs.declared.report.Reply.{Reply}
use Rattle.weave_data.specs.Facts.{AllHold, facts_in_turn}
use Rattle.report_rules.specs.RightReport.{is_number_in_place}
use Rattle.report_rules.specs.Lookups.{committed_number}
use Rattle.order_witness.specs.Seen.{AreNumbersSeen}
use Rattle.order_witness.proofs.numbers.first_out_of_place.Given as goal

abbrev pub invariant-loop-place : goal.invariant-loop-place
invariant-loop-place l = record {
  hold : AllHold (facts_in_turn (λ before (reply : Reply). IsTrue (is_number_in_place l.count before (committed_number reply.state))) (take l.place l.replies));
  size : length l.seen ≡ length l.initial.seen;
  seen : AreNumbersSeen (take l.place l.replies) l.seen;
}
