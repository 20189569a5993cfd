use Rattle.std.proofs.Common.{◌≡◌, refl, sym, ap, ◌∙◌, subst}
use Rattle.program_defs.specs.declared.script.Script.{Script}
use Rattle.weave_report.specs.ReportText.{report_text}
use Rattle.weave_report.specs.TextOf.{IsReportTextOf}
use Rattle.weave_script.specs.Scripts.{steps_of}
use Rattle.weaver_top.proofs.Headline.{accepted}
use Rattle.weaver_top.proofs.Tracing.{IsWellTraced, steps_there, trace_told}
use Rattle.weaver_top.proofs.trace_command.answer_of_steps.Goals as goal

pub report_of_steps-requires : goal.report_of_steps-requires
report_of_steps-requires c = record {
  start = c.requires.start;
  steps = steps_there c.args.core.now.script c.requires.valid;
}

pub returns : goal.returns
returns c = record {
  to_each_text = λ input is_short is_text. record {
    tells =
        let script = c.args.core.now.script in
        let valid = c.requires.valid in
        let report = c.in_ok-report.report in
        let steps = c.in_ok-report.ensures.report in
        let limits = c.scripts_are_small.ensures.limits script valid in
        let laws = c.account_is_right.ensures in
        let trace : IsWellTraced script report = record {
          by_steps = steps.by_steps;
          answers = steps.answers;
          finished = c.replies_finish_programs.ensures.reported script (steps_of script.steps) report limits steps.is_account steps.by_steps steps.answers;
          of_script = laws.of_the_script script _ report limits steps.is_account steps.by_steps;
          right = laws.right script _ report limits steps.is_account steps.by_steps;
          in_order = laws.in_printed_order script _ report steps.by_steps;
          meetings = laws.meetings script _ report limits steps.is_account steps.by_steps;
        } in
        let printed : c.in_ok-text.text.items ≡ report_text script report = c.in_ok-text.ensures.text ∙ ap (λ (s : Script). report_text s report) (c.script.ensures.script ∙ c.in_ok-report.ensures.script) in
        let names = c.script_names_are_distinct.ensures in
        let told : IsReportTextOf script (report_text script report) report = c.printed_text_is_text.ensures script report (names.told script valid) (names.typed script valid) trace.of_script c.in_ok-text.ensures.typed in
        let here = subst (λ bytes. IsReportTextOf script bytes report) (sym printed) told in
        trace_told input script report c.in_ok-text.text.items is_short is_text printed trace (accepted c.report_texts_follow_script_texts.ensures input _ script report is_text here trace.right);
    ends = refl;
  };
}
