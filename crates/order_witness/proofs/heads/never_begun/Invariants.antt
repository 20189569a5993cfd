use Rattle.std.proofs.Common.{◌≡◌, map, not, take}
use Rattle.std.specs.Prelude.{is_some}
use Rattle.report_rules.specs.declared.report.Reply.{Reply}
use Rattle.order_witness.proofs.heads.never_begun.Given as goal

abbrev pub invariant-loop-reply : goal.invariant-loop-reply
invariant-loop-reply l = l.done.items ≡ map (λ (reply : Reply). not (is_some reply.stamp)) (take l.reply-index l.replies)
