-- A text of a report is read as it, so a refused text is a text of none, and a printed report comes back.
-- Used by `printed_reports_come_back` and `read_texts_are_texts`.
use Rattle.std.proofs.Common.{◌≡◌, ℕ, ap, ◌∙◌, sym}
use Rattle.std.specs.Prelude.{Result, Ok, Err}
use Rattle.program_defs.specs.declared.script.Script.{Script}
use Rattle.weave_text.specs.Cutting.{kept_lines, lines_of}
use Rattle.weave_text.specs.Lines.{Bytes}
use Rattle.report_rules.specs.declared.report.Report.{Report}
use Rattle.weave_report.specs.Reading.{Refusal, report_in, report_start}
use Rattle.report_rules.specs.ReportOf.{IsReportOf}
use Rattle.weave_report.specs.ReportText.{report_lines, report_text}
use Rattle.weave_report.specs.TextOf.{IsReportTextOf, IsTypedReport, IsTypedScript, HasDistinctNames}
use Rattle.weave_report.proofs.ReportRead.{after_kept, lines_of_kept}
use Rattle.weave_report.proofs.ReportAgain.{report_again}
use Rattle.weave_report.proofs.ReportClean.{lines_of_report}
use Rattle.weave_report.specs.TextLaws.{TextLaws}

module _ (laws : TextLaws) where
  -- a text whose lines are those of the report
  pub comes_back : (script : Script) (first_line : ℕ) (bytes : Bytes) (report : Report) → HasDistinctNames script → IsTypedScript script → IsReportOf script report → IsTypedReport report
      → kept_lines (lines_of bytes) ≡ report_lines script report → report_in script first_line bytes ≡ Ok report
  unfolding report_in
  comes_back script first_line bytes report tells typed_script of typed lines =
      (lines_of_kept laws) script first_line report_start (lines_of bytes) report (ap ((after_kept laws) script report_start) lines ∙ (report_again laws) script report tells typed_script of typed)

  -- the printed text of a valid report of the script is read as this report
  pub printed_comes_back : (script : Script) (report : Report) (first_line : ℕ) → HasDistinctNames script → IsTypedScript script → IsReportOf script report → IsTypedReport report → report_in script first_line (report_text script report) ≡ Ok report
  printed_comes_back script report first_line tells typed_script of typed =
      comes_back script first_line (report_text script report) report tells typed_script of typed ((lines_of_report laws) script report typed_script of typed)

  not_both : (report : Report) (refusal : Refusal) → ◌≡◌ {A = Result Report Refusal} (Ok report) (Err refusal) → ⊥
  not_both report refusal e = cc

  -- a text that is refused is one of no report of the script
  pub refused_is_no_text : (script : Script) (first_line : ℕ) (bytes : Bytes) (refusal : Refusal) (report : Report) → HasDistinctNames script → IsTypedScript script → report_in script first_line bytes ≡ Err refusal
      → ¬ IsReportTextOf script bytes report
  refused_is_no_text script first_line bytes refusal report tells typed e text =
      not_both report refusal (sym (comes_back script first_line bytes report tells typed text.of_script text.typed text.lines) ∙ e)
