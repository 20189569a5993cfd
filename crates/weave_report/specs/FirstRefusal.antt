-- The first line of a report's text that can't be accepted.
use Rattle.std.specs.Prelude.{◌≡◌, ◌+◌, ℕ, Bool, true, false, List, [], ◌∷◌, ◌++◌, length, Ok, Err}
use Rattle.weave_text.specs.Cutting.{words_of, is_skipped}
use Rattle.weave_text.specs.Lines.{Bytes}
use Rattle.program_defs.specs.declared.script.Script.{Script}
use Rattle.weave_report.specs.declared.fault.ReportCause.{ReportCause}
use Rattle.weave_report.specs.declared.fault.ReportCause.TheVariants as cause
use Rattle.weave_report.specs.declared.read.parts.Place.{Place}
use Rattle.weave_report.specs.declared.read.parts.Place.TheVariants.{Ended}
use Rattle.weave_report.specs.declared.read.parts.Reading.{Reading}
use Rattle.weave_data.specs.Steps.{◌>>=◌}
use Rattle.weave_report.specs.ReadingFields.{ReadResult}
use Rattle.weave_report.specs.Reading.{Refusal, after_any_line, after_report_line}

-- the reading after these lines, one after another
abbrev pub read_over : Script → Reading → List Bytes → ReadResult Reading
read_over script before [] = Ok before
read_over script before (line ∷ lines) = after_any_line script before line >>= λ next. read_over script next lines

-- the report is whole
abbrev pub is_at_end : Place → Bool
is_at_end Ended = true
is_at_end _ = false

-- after this reading the first of the lines is refused for the cause; or there is none, and the report isn't whole
abbrev pub IsRefusedAt : Script → Reading → List Bytes → ReportCause → Type 0
IsRefusedAt script reading [] why = (is_at_end reading.place ≡ false) × (why ≡ cause.End)
IsRefusedAt script reading (line ∷ lines) why =
    (is_skipped line ≡ false) × (after_report_line script reading (words_of line) ≡ Err why)

-- the refusal is the first one after this reading, with lines numbered from n: those before it are accepted
pub record IsFirstRefusal (script : Script) (n : ℕ) (from : Reading) (lines : List Bytes)
    (refusal : Refusal) : Type 0 where
  pub before : List Bytes
  pub rest : List Bytes
  pub parts : lines ≡ before ++ rest
  pub number : refusal.0 ≡ n + length before
  pub reading : Reading
  pub accepted : read_over script from before ≡ Ok reading
  pub refused : IsRefusedAt script reading rest refusal.1
