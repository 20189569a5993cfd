-- What a reader's answer says of a text.
-- Used by `read_report`.
use Rattle.std.proofs.Common.{◌≡◌, ℕ, sym, ◌∙◌}
use Rattle.std.specs.Prelude.{Result, Ok, Err, IfOk}
use Rattle.weave_text.specs.Lines.{Bytes}
use Rattle.program_defs.specs.declared.script.Script.{Script}
use Rattle.weave_report.specs.declared.fault.ReportCause.{ReportCause}
use Rattle.weave_report.specs.declared.fault.ReportFault.{ReportFault}
use Rattle.weave_report.specs.declared.fault.ReportFault.TheVariants.{Refused, Memory}
use Rattle.report_rules.specs.declared.report.Report.{Report}
use Rattle.weave_report.specs.ReadAnswers.{Answers, IfLineRefused, IfRefusedAs, IsReadAs}
use Rattle.weave_report.specs.TextOf.{IsReportTextOf}

-- what reading a text gives
abbrev Given : Type 0
Given = Result Report (ℕ × ReportCause)

same_report : (a b : Report) → ◌≡◌ {A = Given} (Ok a) (Ok b) → a ≡ b
same_report a b e = cc

no_report : (why : ℕ × ReportCause) (report : Report) → ◌≡◌ {A = Given} (Err why) (Ok report) → ⊥
no_report why report e = cc

module _ (script : Script) (bytes : Bytes) (given : Given) where
  -- if a text is one of the report that it is read as, it is one of the report that the reader answers
  pub text_of_read : (result : Result Report ReportFault) → ((report : Report) → given ≡ Ok report → IsReportTextOf script bytes report) → Answers result given → IfOk result (λ report. IsReportTextOf script bytes report)
  text_of_read (Ok report) law h = law report h
  text_of_read (Err fault) law h = tt

  -- if the text is read as each report of which it is one, the reader answers this report or out of memory
  pub read_of_text : (result : Result Report ReportFault) → ((report : Report) → IsReportTextOf script bytes report → given ≡ Ok report) → Answers result given
      → (report : Report) → IsReportTextOf script bytes report → IsReadAs report result
  read_of_text (Ok other) law h report text = same_report other report (sym h ∙ law report text)
  read_of_text (Err (Refused line cause)) law h report text = no_report (line, cause) report (sym h ∙ law report text)
  read_of_text (Err Memory) law h report text = tt

  -- and if the reader refuses a line, it is a text of no report
  pub no_text_of_refused : (result : Result Report ReportFault) → ((report : Report) → IsReportTextOf script bytes report → given ≡ Ok report) → Answers result given
      → IfLineRefused result ((report : Report) → ¬ IsReportTextOf script bytes report)
  no_text_of_refused (Ok other) law h = tt
  no_text_of_refused (Err (Refused line cause)) law h = λ report text. no_report (line, cause) report (sym h ∙ law report text)
  no_text_of_refused (Err Memory) law h = tt

module _ (given : Given) where
  -- what holds of the refusal that reading gives holds of the line that the reader refuses, with its cause
  pub told_of_refused : (P : ℕ × ReportCause → Type 0) (result : Result Report ReportFault) → ((refusal : ℕ × ReportCause) → given ≡ Err refusal → P refusal) → Answers result given → IfRefusedAs result P
  told_of_refused P (Ok other) law h = tt
  told_of_refused P (Err (Refused line cause)) law h = law (line, cause) h
  told_of_refused P (Err Memory) law h = tt

  -- if a text is read as a report, the reader answers this report or out of memory
  pub read_of_given : (report : Report) (result : Result Report ReportFault) → given ≡ Ok report → Answers result given → IsReadAs report result
  read_of_given report (Ok other) law h = same_report other report (sym h ∙ law)
  read_of_given report (Err (Refused line cause)) law h = no_report (line, cause) report (sym h ∙ law)
  read_of_given report (Err Memory) law h = tt
