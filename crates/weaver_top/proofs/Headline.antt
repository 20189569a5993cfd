-- A run prints a right report.
-- Used by `answer_of` and `answer_of_steps`.
use Rattle.std.proofs.Common.{◌≡◌, ℕ, ◌≤◌, List, [], ◌∷◌, ◌++◌, length, refl, sym, ap, ◌∙◌, subst, append_assoc}
use Rattle.program_defs.specs.declared.script.Script.{Script}
use Rattle.report_rules.specs.declared.report.Report.{Report}
use Rattle.report_rules.specs.Lookups.{EveryReplyIsFinal}
use Rattle.report_rules.specs.ReportOf.{IsReportOf}
use Rattle.report_rules.specs.RightReport.{IsRightReport}
use Rattle.report_rules.specs.Meetings.{MeetingsAreOrdered, PhasesAreKept}
use Rattle.report_rules.specs.PrintedOrder.{IsPrintedOrder}
use Rattle.weave_account.specs.declared.account.Account.{Account}
use Rattle.weave_account.specs.Report.{IsReportOfAccount}
use Rattle.weave_report.specs.ReportText.{report_text}
use Rattle.weave_script.specs.ScriptLines.{IsTextOf}
use Rattle.weave_report.specs.TextOf.{IsReportTextOf}
use Rattle.weave_script.specs.CheckText.{IsCheckTextOf}
use Rattle.weaver_top.specs.Acceptance.{IsAcceptedByCheck}
use Rattle.weaver_top.specs.Answers.{TellsRun}
use Rattle.weaver_top.specs.PhaseByPhase.{IsWholeRun}
use Rattle.weaver_top.specs.RunLogs.{TellsByLogs}
use Rattle.weaver_top.proofs.PhaseEnds.{all-replied}

-- what the laws say of the report of a run
pub record IsWellRun (script : Script) (report : Report) : Type 0 where
  pub of_script : IsReportOf script report
  pub right : IsRightReport script report
  pub in_order : IsPrintedOrder report report.order
  pub meetings : MeetingsAreOrdered script report
  pub phases : PhasesAreKept script report
  pub final : EveryReplyIsFinal report
  pub no_steps : report.answers ≡ []

-- a text of a report, after a text of its script
abbrev pub FollowScripts : Type 0
FollowScripts = (front text : List ℕ) (script : Script) (report : Report) → IsTextOf (front ++ 10 ∷ []) script → IsReportTextOf script text report → IsCheckTextOf (front ++ 10 ∷ text) script report

-- `check` says of it that the report is right
pub accepted : FollowScripts → (input text : List ℕ) (script : Script) (report : Report) → IsTextOf input script → IsReportTextOf script text report → IsRightReport script report → IsAcceptedByCheck input text
accepted follow input text script report is_text is_report right front ends short =
    let together : front ++ 10 ∷ text ≡ input ++ text = sym (ap (λ (bytes : List ℕ). bytes ++ text) ends ∙ append_assoc front (10 ∷ []) text) in
    let both = follow front text script report (subst (λ bytes. IsTextOf bytes script) ends is_text) is_report in
    record {
      input_is_short = short;
      script = script;
      report = report;
      input_is_their_text = subst (λ bytes. IsCheckTextOf bytes script report) together both;
      report_is_right = right;
      line = refl;
    }

-- what `run` writes is the report of the logs that it left
pub told_by_logs : (input : List ℕ) (script : Script) (report : Report) (text : List ℕ) → IsTextOf input script → text ≡ report_text script report → report.answers ≡ []
    → (logs : Account) → IsWholeRun script logs → IsReportOfAccount script logs report → TellsByLogs input text
told_by_logs input script report text is_text printed no_steps logs whole by = record {
  script = script;
  input_is_its_text = is_text;
  report = report;
  no_steps = no_steps;
  text_is_printed = printed;
  logs = logs;
  is_account = whole.is_account;
  by_logs = by;
  by_phases = whole.by_phases;
  replied = all-replied script logs whole;
  no_epoch = whole.epochs;
}

-- and so it is for these logs and this script
pub told_of_logs : (input : List ℕ) (script : Script) (report : Report) (text : List ℕ) → IsTextOf input script → text ≡ report_text script report → report.answers ≡ []
    → (logs : Account) → IsWholeRun script logs → IsReportOfAccount script logs report
    → (told : TellsByLogs input text) × (told.script ≡ script) × (told.logs ≡ logs)
unfolding told_by_logs
told_of_logs input script report text is_text printed no_steps logs whole by =
    (told_by_logs input script report text is_text printed no_steps logs whole by, refl, refl)

-- all that is promised of what `run` writes
pub run_told : (input : List ℕ) (script : Script) (report : Report) (text : List ℕ) → length input ≤ 4194304 → IsTextOf input script → text ≡ report_text script report → IsWellRun script report
    → (logs : Account) → IsWholeRun script logs → IsReportOfAccount script logs report → IsAcceptedByCheck input text → TellsRun input text
run_told input script report text is_short is_text printed run logs whole by accept =
    record {
      by_logs = told_by_logs input script report text is_text printed run.no_steps logs whole by;
      right_report = record {
        input_is_short = is_short;
        script = script;
        input_is_its_text = is_text;
        report = report;
        report_is_of_script = run.of_script;
        report_is_right = run.right;
        order_is_printed_order = run.in_order;
        meetings_are_ordered = run.meetings;
        phases_are_kept = run.phases;
        every_reply_is_final = run.final;
        no_steps = run.no_steps;
        text_is_printed = printed;
      };
      accepted_by_check = accept;
    }
