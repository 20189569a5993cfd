use Rattle.std.proofs.Common.{◌≡◌, ◌++◌, drop}
use Rattle.std.specs.List.{AllByRecursion}
use Rattle.report_rules.specs.declared.report.Reply.{Reply}
use Rattle.weave_report.specs.TextOf.{IsTypedReplyState}
use Rattle.std.specs.List.{flat_map}
use Rattle.weave_text.specs.Lines.{lines_text}
use Rattle.weave_report.specs.ReportText.{reply_lines}
use Rattle.weave_report.proofs.print.print_replies.Given as goal

abbrev pub invariant-loop-reply : goal.invariant-loop-reply
invariant-loop-reply l = record {
  text : l.text ++ lines_text (flat_map (reply_lines l.script) (drop l.reply-index l.replies)) ≡ l.initial.text ++ lines_text (flat_map (reply_lines l.script) l.replies);
  typed : AllByRecursion (λ (reply : Reply). IsTypedReplyState reply.state) (drop l.reply-index l.replies) → AllByRecursion (λ (reply : Reply). IsTypedReplyState reply.state) l.replies;
}
