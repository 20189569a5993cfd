use Rattle.std.proofs.Common.{IsTrue}
use Rattle.report_rules.specs.declared.report.Reply.{Reply}
use Rattle.report_rules.specs.Lookups.{is_final}
use Rattle.run_judge.proofs.PromiseLaws.{each_of_facts, facts_of_all, meetings_so, phases_so, printed_so, steps_so}
use Rattle.run_judge.proofs.laws.clauses_say_what_run_promises.Goals as goal

pub returns-clause-printed_order : goal.returns-clause-printed_order
returns-clause-printed_order c = printed_so

pub returns-clause-meetings : goal.returns-clause-meetings
returns-clause-meetings c = meetings_so

pub returns-clause-phases : goal.returns-clause-phases
returns-clause-phases c = phases_so

pub returns-clause-final_replies : goal.returns-clause-final_replies
returns-clause-final_replies c report = (
  each_of_facts (λ (reply : Reply). IsTrue (is_final reply.state)) report.replies,
  facts_of_all (λ (reply : Reply). IsTrue (is_final reply.state)) report.replies,
)

pub returns-clause-no_steps : goal.returns-clause-no_steps
returns-clause-no_steps c = steps_so
