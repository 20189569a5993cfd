-- The headlines: what the text is that a command wrote when it ended with status 0, for the input that it read.
use Rattle.std.specs.Prelude.{◌≡◌, ℕ, List, []}
use Rattle.program_defs.specs.declared.script.Script.{Script}
use Rattle.report_rules.specs.declared.report.Report.{Report}
use Rattle.report_rules.specs.Lookups.{EveryReplyIsFinal}
use Rattle.report_rules.specs.Meetings.{MeetingsAreOrdered, PhasesAreKept}
use Rattle.report_rules.specs.PrintedOrder.{IsPrintedOrder}
use Rattle.report_rules.specs.ReportOf.{IsReportOf}
use Rattle.report_rules.specs.RightReport.{IsRightReport}
use Rattle.step_rules.specs.Finishing.{RepliesFinishPrograms}
use Rattle.step_rules.specs.Trace.{trace_of}
use Rattle.weave_account.specs.Report.{IsReportOfAccount}
use Rattle.weave_report.specs.ReportText.{report_text}
use Rattle.weave_script.specs.CheckText.{IsCheckTextOf}
use Rattle.weave_script.specs.ScriptLines.{IsTextOf}
use Rattle.weave_script.specs.Scripts.{steps_of}
use Rattle.weaver_top.specs.VerdictLines.{yes_line}
use Rattle.weave_script.specs.Limits.{IsShort}

-- `run`: the input is a valid script, and the text is a right report for it, printed. The report's order is the printed
-- order; of two requests that meet at a vertex one precedes the other, and the script's phases are kept; every request
-- has its final reply, and there are no answers of steps.
pub record TellsRightReport (input text : List ℕ) : Type 0 where
  pub input_is_short : IsShort input
  pub script : Script
  pub input_is_its_text : IsTextOf input script
  pub report : Report
  pub report_is_of_script : IsReportOf script report
  pub report_is_right : IsRightReport script report
  pub order_is_printed_order : IsPrintedOrder report report.order
  pub meetings_are_ordered : MeetingsAreOrdered script report
  pub phases_are_kept : PhasesAreKept script report
  pub every_reply_is_final : EveryReplyIsFinal report
  pub no_steps : report.answers ≡ []
  pub text_is_printed : text ≡ report_text script report

-- `trace`: the input is a valid script, and the text is the printed report of its steps, one after another from the
-- empty logs. It is the report of the logs that the steps leave, with their answers in order, so stamps, verdicts,
-- pairs and answers are those of the definition of steps. A program is finished in it exactly if a `reply` of it
-- answered `ok`. It is a right report for the script, in the printed order; of two requests that meet at a vertex one
-- precedes the other.
pub record TellsTrace (input text : List ℕ) : Type 0 where
  pub input_is_short : IsShort input
  pub script : Script
  pub input_is_its_text : IsTextOf input script
  pub report : Report
  pub by_steps : IsReportOfAccount script (trace_of script (steps_of script.steps)).state.account report
  pub answers_of_steps : report.answers ≡ (trace_of script (steps_of script.steps)).answers
  pub replies_finish_programs : RepliesFinishPrograms script (steps_of script.steps) report
  pub report_is_of_script : IsReportOf script report
  pub report_is_right : IsRightReport script report
  pub order_is_printed_order : IsPrintedOrder report report.order
  pub meetings_are_ordered : MeetingsAreOrdered script report
  pub text_is_printed : text ≡ report_text script report

-- `check`: the input is a valid script and then a report for it, the report is right for the script, and the text is
-- `yes`
pub record TellsYes (input text : List ℕ) : Type 0 where
  pub input_is_short : IsShort input
  pub script : Script
  pub report : Report
  pub input_is_their_text : IsCheckTextOf input script report
  pub report_is_right : IsRightReport script report
  pub line : text ≡ yes_line
