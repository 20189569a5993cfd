-- Texts that `run` may write, by clauses that are judged place by place.
use Rattle.std.specs.Prelude.{◌≡◌, ℕ, List}
use Rattle.program_defs.specs.declared.script.Script.{Script}
use Rattle.report_rules.specs.declared.report.Report.{Report}
use Rattle.report_rules.specs.ReportOf.{IsReportOf}
use Rattle.report_rules.specs.RightReport.{IsRightReport}
use Rattle.weave_report.specs.ReportText.{report_text}
use Rattle.weave_script.specs.Limits.{IsShort}
use Rattle.weave_script.specs.ScriptLines.{IsTextOf}
use Rattle.run_judge.specs.Promises.{KeepsPromises}

-- the input is a valid script, and the text is the printed text of a report of it that is right and keeps what `run`
-- promises
pub record IsKeptText (input text : List ℕ) : Type 0 where
  pub input_is_short : IsShort input
  pub script : Script
  pub input_is_its_text : IsTextOf input script
  pub report : Report
  pub report_is_of_script : IsReportOf script report
  pub report_is_right : IsRightReport script report
  pub promises_are_kept : KeepsPromises script report
  pub text_is_printed : text ≡ report_text script report
