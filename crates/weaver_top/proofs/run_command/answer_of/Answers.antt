use Rattle.std.proofs.Common.{◌≡◌, refl, sym, ap, ◌∙◌, subst}
use Rattle.program_defs.specs.declared.script.Script.{Script}
use Rattle.weave_report.specs.ReportText.{report_text}
use Rattle.weave_report.specs.TextOf.{IsReportTextOf}
use Rattle.weaver_top.proofs.Headline.{IsWellRun, accepted, run_told, told_of_logs}
use Rattle.weaver_top.proofs.PhaseEnds.{all-replied}
use Rattle.weaver_top.proofs.run_command.answer_of.Goals as goal

pub returns-clause-right : goal.returns-clause-right
returns-clause-right c = record {
  to_each_text = λ input is_short is_text. record {
    tells =
        let script = c.args.core.now.script in
        let valid = c.requires.valid in
        let run = c.requires.whole in
        let report = c.in_ok-report.report in
        let limits = c.scripts_are_small.ensures.limits script valid in
        let laws = c.account_is_right.ensures in
        let by = c.in_ok-report.ensures.report in
        let well : IsWellRun script report = record {
          of_script = laws.of_the_script script _ report limits run.is_account by;
          right = laws.right script _ report limits run.is_account by;
          in_order = laws.in_printed_order script _ report by;
          meetings = laws.meetings script _ report limits run.is_account by;
          phases = c.phases_are_kept.ensures script _ report limits run.is_account run.by_phases by;
          final = c.replied_requests_are_final.ensures script _ report limits run.is_account by.matches (all-replied script _ run);
          no_steps = c.in_ok-report.ensures.answers;
        } in
        let printed : c.in_ok-text.text.items ≡ report_text script report = c.in_ok-text.ensures.text ∙ ap (λ (s : Script). report_text s report) c.script.ensures.script in
        let names = c.script_names_are_distinct.ensures in
        let told : IsReportTextOf script (report_text script report) report = c.printed_text_is_text.ensures script report (names.told script valid) (names.typed script valid) well.of_script c.in_ok-text.ensures.typed in
        let here = subst (λ bytes. IsReportTextOf script bytes report) (sym printed) told in
        run_told input script report c.in_ok-text.text.items is_short is_text printed well _ run by (accepted c.report_texts_follow_script_texts.ensures input _ script report is_text here well.right);
    ends = refl;
  };
}

pub returns-clause-of_logs : goal.returns-clause-of_logs
returns-clause-of_logs c = λ input is_text.
    let script = c.args.core.now.script in
    let report = c.in_ok-report.report in
    told_of_logs input script report c.in_ok-text.text.items is_text
    (c.in_ok-text.ensures.text ∙ ap (λ (s : Script). report_text s report) c.script.ensures.script) c.in_ok-report.ensures.answers
    c.args.core.now.state.account c.requires.whole c.in_ok-report.ensures.report
