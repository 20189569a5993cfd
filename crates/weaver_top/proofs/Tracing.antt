-- The steps of a valid script, and what holds of their report.
-- Used by `answer_of_steps`, `load` and `report_of_steps`.
use Rattle.std.proofs.Common.{◌≡◌, ℕ, ◌≤◌, List, [], ◌∷◌, length, refl, subst}
use Rattle.std.specs.List.{AllByRecursion}
use Rattle.program_defs.specs.declared.script.Script.{Script}
use Rattle.program_defs.specs.declared.script.Step.{Step}
use Rattle.program_defs.specs.declared.script.Step.TheVariants.{Begin, Judge, Send, Say, Hear, Nop, Deliver, Apply, Visit, Reply, Collect, Epoch, Restart}
use Rattle.report_rules.specs.Meetings.{MeetingsAreOrdered}
use Rattle.report_rules.specs.PrintedOrder.{IsPrintedOrder}
use Rattle.report_rules.specs.ReportOf.{IsReportOf}
use Rattle.report_rules.specs.RightReport.{IsRightReport}
use Rattle.report_rules.specs.declared.report.Report.{Report}
use Rattle.report_rules.specs.declared.report.StepAnswer.{StepAnswer}
use Rattle.step_rules.specs.CoreState.{CoreState}
use Rattle.step_rules.specs.Finishing.{RepliesFinishPrograms}
use Rattle.step_rules.specs.IsCore.{IsCore, IsStepOf}
use Rattle.step_rules.specs.Trace.{trace_of}
use Rattle.weave_account.specs.declared.account.Account.{Account}
use Rattle.weave_account.specs.IsAccount.{IsAccount}
use Rattle.weave_account.specs.Report.{IsReportOfAccount}
use Rattle.weave_report.specs.ReportText.{report_text}
use Rattle.weave_script.specs.ScriptLines.{IsTextOf}
use Rattle.weave_script.specs.Scripts.{IsScript, IsStep, steps_of}
use Rattle.weaver_top.specs.Acceptance.{IsAcceptedByCheck}
use Rattle.weaver_top.specs.Answers.{TellsTraceAccepted}

-- a step in a script is one of the script
there : (script : Script) (step : Step) → IsStep script.gates script.shards (length script.requests) step → IsStepOf script step
there script (Begin r) is = is
there script (Judge gate) is = is
there script (Send gate) is = is
there script (Say gate) is = is
there script (Hear gate notice) is = (is.0, is.1.0)
there script (Nop gate shard) is = is
there script (Deliver gate shard number) is = (is.0, is.1, is.2.0)
there script (Apply shard gate) is = is
there script (Visit r) is = is
there script (Reply r) is = is
there script (Collect shard) is = is
there script (Epoch gate epoch) is = is
there script (Restart gate epoch) is = is

all_there : (script : Script) (steps : List Step) → AllByRecursion (IsStep script.gates script.shards (length script.requests)) steps → AllByRecursion (IsStepOf script) steps
all_there script [] each = tt
all_there script (step ∷ steps) each = (there script step each.0, all_there script steps each.1)

-- each step of a valid script is one of the script
pub steps_there : (script : Script) → IsScript script → AllByRecursion (IsStepOf script) (steps_of script.steps)
steps_there script is = all_there script (steps_of script.steps) is.steps

-- the printed order depends on replies and pairs alone
abbrev pub AreOfRepliesAndPairs : Type 0
AreOfRepliesAndPairs = (a b : Report) → a.replies ≡ b.replies → a.pairs ≡ b.pairs → (order : List ℕ) → IsPrintedOrder a order → IsPrintedOrder b order

-- with answers the report of an account is one still
pub answered : AreOfRepliesAndPairs → (script : Script) (account : Account) (report : Report) (answers : List StepAnswer) → IsReportOfAccount script account report → IsReportOfAccount script account (record report { answers = answers })
answered same script account report answers is =
    record {
      matches = record { requests = is.matches.requests; replies = is.matches.replies; pairs = is.matches.pairs };
      order = same report (record report { answers = answers }) refl refl report.order is.order;
    }

-- the logs and the notices that a script's steps leave
abbrev pub state_of_steps : Script → CoreState
state_of_steps script = (trace_of script (steps_of script.steps)).state

module _ (script seen : Script) (state : CoreState) (same : seen ≡ script) (left : state ≡ state_of_steps script) where
  -- if a core was left, the logs that the script's steps leave are an account of the script
  pub account_of_steps : IsCore seen state → IsAccount script (state_of_steps script).account
  account_of_steps core =
      subst (λ (s : CoreState). IsAccount script s.account) left (subst (λ (one : Script). IsAccount one state.account) same core.account)

  -- and a report of the core's logs is one of these logs, whatever answers of steps it gets
  pub report_of_steps : AreOfRepliesAndPairs → (report : Report) (answers : List StepAnswer) → IsReportOfAccount seen state.account report → IsReportOfAccount script (state_of_steps script).account (record report { answers = answers })
  report_of_steps orders report answers is =
      answered orders script (state_of_steps script).account report answers
      (subst (λ (s : CoreState). IsReportOfAccount script s.account report) left (subst (λ (one : Script). IsReportOfAccount one state.account report) same is))

-- the report of the steps, and what the laws say of it
pub record IsWellTraced (script : Script) (report : Report) : Type 0 where
  pub by_steps : IsReportOfAccount script (trace_of script (steps_of script.steps)).state.account report
  pub answers : report.answers ≡ (trace_of script (steps_of script.steps)).answers
  pub finished : RepliesFinishPrograms script (steps_of script.steps) report
  pub of_script : IsReportOf script report
  pub right : IsRightReport script report
  pub in_order : IsPrintedOrder report report.order
  pub meetings : MeetingsAreOrdered script report

-- all that is promised of what `trace` writes
pub trace_told : (input : List ℕ) (script : Script) (report : Report) (text : List ℕ) → length input ≤ 4194304 → IsTextOf input script → text ≡ report_text script report → IsWellTraced script report → IsAcceptedByCheck input text → TellsTraceAccepted input text
trace_told input script report text short is_text printed trace accept =
    record {
      traced = record {
        input_is_short = short;
        script = script;
        input_is_its_text = is_text;
        report = report;
        by_steps = trace.by_steps;
        answers_of_steps = trace.answers;
        replies_finish_programs = trace.finished;
        report_is_of_script = trace.of_script;
        report_is_right = trace.right;
        order_is_printed_order = trace.in_order;
        meetings_are_ordered = trace.meetings;
        text_is_printed = printed;
      };
      accepted_by_check = accept;
    }
