-- The report of the steps of a script. No public contract cites this.
use Rattle.std.specs.Prelude.{◌≡◌}
use Rattle.program_defs.specs.declared.script.Script.{Script}
use Rattle.report_rules.specs.declared.report.Report.{Report}
use Rattle.step_rules.specs.Trace.{trace_of}
use Rattle.weave_account.specs.IsAccount.{IsAccount}
use Rattle.weave_account.specs.Report.{IsReportOfAccount}
use Rattle.weave_script.specs.Scripts.{steps_of}

-- the logs that the steps leave are an account, the report is theirs, and it has the answers of the steps
pub record IsReportOfSteps (script : Script) (report : Report) : Type 0 where
  pub is_account : IsAccount script (trace_of script (steps_of script.steps)).state.account
  pub by_steps : IsReportOfAccount script (trace_of script (steps_of script.steps)).state.account report
  pub answers : report.answers ≡ (trace_of script (steps_of script.steps)).answers
