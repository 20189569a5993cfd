use Rattle.std.proofs.Common.{◌≡◌, map, take}
use Rattle.report_rules.specs.declared.report.Reply.{Reply}
use Rattle.report_rules.specs.Lookups.{committed_number}
use Rattle.run_judge.proofs.phases.commit_numbers.Given as goal

abbrev pub invariant-loop-reply : goal.invariant-loop-reply
invariant-loop-reply l = l.numbers.items ≡ map (λ (reply : Reply). committed_number reply.state) (take l.reply-index l.replies)
