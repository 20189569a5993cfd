-- The headline of `load`: what the text is that it wrote when it ended with status 0.
use Rattle.std.specs.Prelude.{◌≡◌, ◌+◌, ◌*◌, ℕ, List, length, IsTrue, Some}
use Rattle.vector_stamp.specs.declared.clock.Stamp.{Stamp}
use Rattle.program_defs.specs.declared.script.Request.{Request}
use Rattle.program_defs.specs.declared.script.Script.{Script}
use Rattle.weave_entries.specs.SessionReplay.{has_reply_in}
use Rattle.report_rules.specs.declared.report.Reply.{Reply}
use Rattle.report_rules.specs.declared.report.Report.{Report}
use Rattle.report_rules.specs.Lookups.{EveryReplyIsFinal, is_final, reply_at, request_at, stamp_at}
use Rattle.report_rules.specs.Meetings.{MeetingsAreOrdered}
use Rattle.report_rules.specs.PrintedOrder.{IsPrintedOrder}
use Rattle.report_rules.specs.ReportOf.{IsReportOf}
use Rattle.report_rules.specs.RightReport.{IsRightReport}
use Rattle.step_rules.specs.Trace.{trace_of}
use Rattle.weave_account.specs.declared.account.Account.{Account}
use Rattle.weave_account.specs.Account.{session_log}
use Rattle.weave_account.specs.GoesOn.{GoesOn, IsBeginningOf}
use Rattle.weave_account.specs.IsAccount.{IsAccount}
use Rattle.weave_account.specs.Report.{IsReportOfAccount}
use Rattle.weave_drive.specs.Staying.{ReportStays}
use Rattle.weave_io.specs.Told.{ToldBytes, Appends, AppendsPrefix}
use Rattle.weave_script.specs.Scripts.{steps_of}
use Rattle.load_maker.specs.Generated.{script_of}
use Rattle.weaver_top.specs.Summaries.{committed_count, conflict_count, program_count, refused_count, summary_text}

-- the second report keeps what the first one says: each stamp, each final state with its answers, and the pairs, which
-- come first in its list
pub record KeepsReport (first second : Report) : Type 0 where
  pub stamps : (r : ℕ) (stamp : Stamp) → stamp_at first r ≡ Some stamp → stamp_at second r ≡ Some stamp
  pub states : (r : ℕ) (old new : Reply) → reply_at first r ≡ Some old → reply_at second r ≡ Some new
      → IsTrue (is_final old.state) → new.state ≡ old.state
  pub pairs : IsBeginningOf first.pairs second.pairs

-- the report keeps what the report of the script's own steps says, done one after another from the empty logs
abbrev pub KeepsStepReport : Script → Report → Type 0
KeepsStepReport script report =
    (first : Report) → IsReportOfAccount script (trace_of script (steps_of script.steps)).state.account first
    → KeepsReport first report

-- `load`: the text is the summary of a report for the script of the seed, which has `size` requests and four times as
-- many steps. The report is right, in the printed order; of two requests that meet at a vertex one precedes the other.
-- Every request has its final reply. The report is that of logs: an account of the script, which goes on from the logs
-- of the script's own steps and keeps what those say; by it each request has its reply. The report keeps what the
-- report of those steps says. So the four counts add up to the number of requests.
pub record TellsLoad (seed size : ℕ) (text : List ℕ) : Type 0 where
  pub requests : length (script_of seed size).requests ≡ size
  pub steps : length (steps_of (script_of seed size).steps) ≡ 4 * size
  pub report : Report
  pub report_is_of_script : IsReportOf (script_of seed size) report
  pub report_is_right : IsRightReport (script_of seed size) report
  pub order_is_printed_order : IsPrintedOrder report report.order
  pub meetings_are_ordered : MeetingsAreOrdered (script_of seed size) report
  pub every_reply_is_final : EveryReplyIsFinal report
  pub logs : Account
  pub is_account : IsAccount (script_of seed size) logs
  pub by_logs : IsReportOfAccount (script_of seed size) logs report
  pub replied : (r : ℕ) (request : Request) → request_at (script_of seed size) r ≡ Some request
      → IsTrue (has_reply_in r (session_log logs request.session))
  pub logs_go_on : GoesOn (trace_of (script_of seed size) (steps_of (script_of seed size).steps)).state.account logs
  pub logs_stay : ReportStays (script_of seed size)
      (trace_of (script_of seed size) (steps_of (script_of seed size).steps)).state.account logs
  pub steps_are_kept : KeepsStepReport (script_of seed size) report
  pub counts_add_up : committed_count report + conflict_count report + refused_count report + program_count report
      ≡ size
  pub text_is_summary : text ≡ summary_text seed size (4 * size) report

-- such a text was put at the end of what was written
abbrev pub WritesLoad : ℕ → ℕ → ToldBytes → ToldBytes → Type 0
WritesLoad seed size before after = (text : List ℕ) × TellsLoad seed size text × Appends before after text

-- or some of such a text, from its start
abbrev pub WritesLoadPrefix : ℕ → ℕ → ToldBytes → ToldBytes → Type 0
WritesLoadPrefix seed size before after = (text : List ℕ) × TellsLoad seed size text × AppendsPrefix before after text
