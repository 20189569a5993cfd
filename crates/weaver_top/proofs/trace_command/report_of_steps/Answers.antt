use Rattle.weaver_top.proofs.Tracing.{account_of_steps, report_of_steps}
use Rattle.weaver_top.proofs.trace_command.report_of_steps.Goals as goal

pub returns-clause-report : goal.returns-clause-report
returns-clause-report c =
    let script = c.args.core.now.script in
    let same = c.in_ok-answers.ensures.script in
    let left = c.in_ok-answers.ensures.state in
    record {
      is_account = account_of_steps script _ _ same left c.script.ensures.core;
      by_steps = report_of_steps script _ _ same left c.orders_are_of_replies_and_pairs.ensures c.in_ok-report.report c.in_ok-answers.answers c.in_ok-report.ensures.report;
      answers = c.in_ok-answers.ensures.answers;
    }
