-- What is promised of what `load` writes.
-- Used by `load` and `summary_of_core`.
use Rattle.std.proofs.Common.{◌≡◌, ℕ, ◌*◌, List, length, IsTrue, Some, sym, ap, ◌∙◌, subst}
use Rattle.std.proofs.lemmas.Option.{slice_get_within}
use Rattle.program_defs.specs.Limits.{IsWithinLimits}
use Rattle.program_defs.specs.declared.script.Request.{Request}
use Rattle.program_defs.specs.declared.script.Script.{Script}
use Rattle.weave_entries.specs.SessionReplay.{has_reply_in}
use Rattle.report_rules.specs.Lookups.{EveryReplyIsFinal, request_at}
use Rattle.report_rules.specs.Meetings.{MeetingsAreOrdered}
use Rattle.report_rules.specs.ReportOf.{IsReportOf}
use Rattle.report_rules.specs.RightReport.{IsRightReport}
use Rattle.report_rules.specs.declared.report.Report.{Report}
use Rattle.step_rules.specs.CoreState.{CoreState}
use Rattle.step_rules.specs.IsCore.{IsCore}
use Rattle.step_rules.specs.Trace.{trace_of}
use Rattle.weave_account.specs.declared.account.Account.{Account}
use Rattle.weave_account.specs.Account.{session_log}
use Rattle.weave_account.specs.GoesOn.{GoesOn}
use Rattle.weave_account.specs.IsAccount.{IsAccount}
use Rattle.weave_account.specs.Report.{IsReportOfAccount}
use Rattle.weave_drive.specs.Driving.{AreReplied, IsDriven}
use Rattle.weave_drive.specs.Staying.{ReportStays}
use Rattle.weave_script.specs.Scripts.{steps_of}
use Rattle.load_maker.specs.Generated.{script_of}
use Rattle.weaver_top.specs.LoadLaws.{LoadLaws}
use Rattle.weaver_top.specs.LoadProgress.{IsLoaded, account_of_own_steps}
use Rattle.weaver_top.specs.Loads.{KeepsStepReport, TellsLoad}
use Rattle.weaver_top.specs.Summaries.{summary_text}
use Rattle.weaver_top.proofs.Counted.{counts-add-up}
use Rattle.weaver_top.proofs.GoingOn.{driven-on}
use Rattle.weaver_top.proofs.KeptPairs.{pairs-kept}
use Rattle.weaver_top.proofs.KeptReport.{stamps-kept, states-kept}
use Rattle.weaver_top.proofs.MadeScripts.{requests-made, steps-made}

-- each request of the script has its reply in these logs
abbrev AreAllReplied : Script → Account → Type 0
AreAllReplied script logs = (r : ℕ) (request : Request) → request_at script r ≡ Some request → IsTrue (has_reply_in r (session_log logs request.session))

-- the core of a script, after its own steps and then driven: the script is the same all the way
pub loaded-so : LoadLaws → (first second third : Script) (middle last : CoreState) (upto size : ℕ) → second ≡ first → third ≡ second
    → middle ≡ (trace_of first (steps_of first.steps)).state → IsWithinLimits second → IsCore second middle
    → IsDriven second upto middle last → AreReplied second size last.account → ReportStays second middle.account last.account
    → length second.requests ≡ size → IsLoaded third last
loaded-so laws first second third middle last upto size same still left limits core driven replied stays many =
    let on = driven-on laws.goes_on second limits upto middle last core driven in
    let here : middle ≡ (trace_of second (steps_of second.steps)).state = left ∙ ap (λ (s : Script). (trace_of s (steps_of s.steps)).state) (sym same) in
    subst (λ (s : Script). IsLoaded s last) (sym still) (record {
      goes_on = subst (λ (s : CoreState). GoesOn s.account last.account) here on;
      stays = subst (λ (s : CoreState). ReportStays second s.account last.account) here stays;
      replied = subst (λ n. AreReplied second n last.account) (sym many) replied;
    })

module _ (laws : LoadLaws) (script : Script) (limits : IsWithinLimits script) (state : CoreState) (account : IsAccount script state.account) (loaded : IsLoaded script state) (report : Report) (reported : IsReportOfAccount script state.account report) where
  -- the report of the core's logs is a right one for the script
  pub is-right : IsRightReport script report
  is-right = laws.right script state.account report limits account reported

  each-final : EveryReplyIsFinal report
  each-final =
      laws.final script state.account report limits account reported.matches
      (λ r request there. loaded.replied r request (slice_get_within script.requests r request there) there)

  steps-kept : KeepsStepReport script report
  steps-kept first is = record {
    stamps = stamps-kept laws.answers script _ _ loaded.stays first report is.matches reported.matches;
    states = states-kept laws.answers script _ _ loaded.stays first report is.matches reported.matches;
    pairs =
        pairs-kept script (account_of_own_steps script) state.account
        (laws.pairs_stay script (account_of_own_steps script) state.account loaded.goes_on (account.gatekeepers).once)
        (laws.differ script state.account limits account)
        (λ a b one other. laws.pairs script state.account a b limits account one other)
        first report is.matches reported (loaded.stays).pairs;
  }

  -- if the script is the seed's and the text is the report's summary, all that is promised of the text holds
  pub told : (seed size : ℕ) (text : List ℕ) → script ≡ script_of seed size → text ≡ summary_text seed size (4 * size) report → TellsLoad seed size text
  told seed size text made summed =
      let requests = requests-made seed size in
      let many : length script.requests ≡ size = ap (λ (s : Script). length s.requests) made ∙ requests in
      record {
        requests = requests;
        steps = steps-made seed size;
        report = report;
        report_is_of_script = subst (λ s. IsReportOf s report) made (laws.of_the_script script state.account report limits account reported);
        report_is_right = subst (λ s. IsRightReport s report) made is-right;
        order_is_printed_order = laws.in_printed_order script state.account report reported;
        meetings_are_ordered = subst (λ s. MeetingsAreOrdered s report) made (laws.meetings script state.account report limits account reported);
        every_reply_is_final = each-final;
        logs = state.account;
        is_account = subst (λ s. IsAccount s state.account) made account;
        replied = subst (λ (s : Script). AreAllReplied s state.account) made (λ r request there. loaded.replied r request (slice_get_within script.requests r request there) there);
        logs_go_on = subst (λ (s : Script). GoesOn (account_of_own_steps s) state.account) made loaded.goes_on;
        by_logs = subst (λ s. IsReportOfAccount s state.account report) made reported;
        logs_stay = subst (λ (s : Script). ReportStays s (account_of_own_steps s) state.account) made loaded.stays;
        steps_are_kept = subst (λ s. KeepsStepReport s report) made steps-kept;
        counts_add_up = counts-add-up report (length script.requests) each-final (reported.matches).requests ∙ many;
        text_is_summary = summed;
      }
