-- The logs of which `run` prints the report.
use Rattle.std.specs.Prelude.{◌≡◌, ℕ, List, [], IsTrue, Some}
use Rattle.program_defs.specs.declared.script.Request.{Request}
use Rattle.program_defs.specs.declared.script.Script.{Script}
use Rattle.weave_entries.specs.SessionReplay.{has_reply_in}
use Rattle.report_rules.specs.declared.report.Report.{Report}
use Rattle.report_rules.specs.Lookups.{request_at}
use Rattle.weave_account.specs.declared.account.Account.{Account}
use Rattle.weave_account.specs.Account.{session_log}
use Rattle.weave_account.specs.Clocks.{is_raised}
use Rattle.weave_account.specs.IsAccount.{IsAccount}
use Rattle.weave_account.specs.Phases.{IsRunByPhases}
use Rattle.weave_account.specs.Report.{IsReportOfAccount}
use Rattle.weave_report.specs.ReportText.{report_text}
use Rattle.weave_script.specs.ScriptLines.{IsTextOf}

-- The input is a valid script, and there are logs of gatekeepers, store, oracle, shards and sessions, an account of the
-- script, of which the text is the printed report: its stamps, verdicts and answers are those of the logs, its pairs
-- those that the oracle added, in that order, and its order is the printed order. By the logs each request has its
-- reply, a phase began only once all before it had their replies, and no epoch was raised.
pub record TellsByLogs (input text : List ℕ) : Type 0 where
  pub script : Script
  pub input_is_its_text : IsTextOf input script
  pub report : Report
  pub no_steps : report.answers ≡ []
  pub text_is_printed : text ≡ report_text script report
  pub logs : Account
  pub is_account : IsAccount script logs
  pub by_logs : IsReportOfAccount script logs report
  pub by_phases : IsRunByPhases script logs
  pub replied : (r : ℕ) (request : Request) → request_at script r ≡ Some request
      → IsTrue (has_reply_in r (session_log logs request.session))
  pub no_epoch : (epoch : ℕ) → ¬ IsTrue (is_raised logs epoch)
