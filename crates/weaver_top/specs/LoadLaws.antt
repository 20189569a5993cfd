-- The laws of the crates below that `load` relies on, in one record. No public contract cites this.
use Rattle.std.specs.Prelude.{◌≡◌, ◌≢◌, ℕ, Contains, IsTrue, Some}
use Rattle.vector_stamp.specs.Order.{id_of}
use Rattle.vector_stamp.specs.Precedence.{GivenPair}
use Rattle.graph_ops.specs.PlainGraph.{PlainGraph}
use Rattle.program_defs.specs.declared.program.Answer.{Answer}
use Rattle.program_defs.specs.declared.program.Program.{Program}
use Rattle.program_defs.specs.declared.script.Request.{Request}
use Rattle.program_defs.specs.declared.script.Script.{Script}
use Rattle.program_defs.specs.declared.script.Step.{Step}
use Rattle.program_defs.specs.Limits.{IsWithinLimits}
use Rattle.program_defs.specs.PlainAnswer.{IsPlainAnswer}
use Rattle.report_rules.specs.declared.report.Pair.{Pair}
use Rattle.report_rules.specs.declared.report.Report.{Report}
use Rattle.report_rules.specs.Lookups.{EveryReplyIsFinal, request_at}
use Rattle.report_rules.specs.Meetings.{MeetingsAreOrdered}
use Rattle.report_rules.specs.PrintedOrder.{IsInPrintedOrder}
use Rattle.report_rules.specs.ReportOf.{IsReportOf}
use Rattle.report_rules.specs.RightReport.{IsRightReport}
use Rattle.weave_entries.specs.GateReplay.{BegunRequest}
use Rattle.weave_entries.specs.SessionReplay.{has_reply_in}
use Rattle.weave_account.specs.declared.account.Account.{Account}
use Rattle.weave_account.specs.Account.{all_begun, session_log}
use Rattle.weave_account.specs.Gatekeepers.{BeginEachOnce}
use Rattle.weave_account.specs.GoesOn.{GoesOn}
use Rattle.weave_account.specs.IsAccount.{IsAccount}
use Rattle.weave_account.specs.Pairs.{IsPairInAccount}
use Rattle.weave_account.specs.Report.{IsReportOfAccount, MatchesAccount}
use Rattle.step_rules.specs.CoreState.{CoreState}
use Rattle.step_rules.specs.IsCore.{IsCore, IsStepOf}
use Rattle.step_rules.specs.Trace.{state_after}

-- all of them
pub record LoadLaws : Type 0 where
  -- account_is_right
  pub right : (script : Script) (account : Account) (report : Report) → IsWithinLimits script → IsAccount script account
      → IsReportOfAccount script account report → IsRightReport script report
  pub of_the_script : (script : Script) (account : Account) (report : Report) → IsWithinLimits script
      → IsAccount script account
      → IsReportOfAccount script account report → IsReportOf script report
  pub in_printed_order : (script : Script) (account : Account) (report : Report)
      → IsReportOfAccount script account report → IsInPrintedOrder report
  pub meetings : (script : Script) (account : Account) (report : Report) → IsWithinLimits script
      → IsAccount script account
      → IsReportOfAccount script account report → MeetingsAreOrdered script report
  -- account_has_one_report
  pub pairs : (script : Script) (account : Account) (a b : Report) → IsWithinLimits script → IsAccount script account
      → IsReportOfAccount script account a → IsReportOfAccount script account b → a.pairs ≡ b.pairs
  -- begun_stamps_are_coherent
  pub differ : (script : Script) (account : Account) → IsWithinLimits script → IsAccount script account
      → (a b : BegunRequest) → Contains (all_begun account) a → Contains (all_begun account) b → a.request ≢ b.request
      → id_of a.stamp ≢ id_of b.stamp
  -- facts_stay_true
  pub pairs_stay : (script : Script) (account next : Account) → GoesOn account next → BeginEachOnce next
      → (pair : Pair) (given : GivenPair) → IsPairInAccount account pair given → IsPairInAccount next pair given
  -- plain_answer_is_one
  pub answers : (graph : PlainGraph) (program : Program) (a b : Answer) → IsPlainAnswer graph program a
      → IsPlainAnswer graph program b → a ≡ b
  -- replied_requests_are_final
  pub final : (script : Script) (account : Account) (report : Report) → IsWithinLimits script → IsAccount script account
      → MatchesAccount script account report
      → ((r : ℕ) (request : Request) → request_at script r ≡ Some request
      → IsTrue (has_reply_in r (session_log account request.session)))
      → EveryReplyIsFinal report
  -- steps_keep_the_core
  pub goes_on : (script : Script) (state : CoreState) (step : Step) → IsWithinLimits script → IsStepOf script step
      → IsCore script state
      → GoesOn state.account (state_after script state step).account
