use Rattle.std.proofs.Common.{◌≡◌, map, take}
use Rattle.report_rules.specs.declared.report.Reply.{Reply}
use Rattle.run_judge.specs.Promises.{commits_before_refusal}
use Rattle.run_judge.proofs.phases.refusal_numbers.Given as goal

abbrev pub invariant-loop-reply : goal.invariant-loop-reply
invariant-loop-reply l = l.numbers.items ≡ map (λ (reply : Reply). commits_before_refusal reply.state) (take l.reply-index l.replies)
