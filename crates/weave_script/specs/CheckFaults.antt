-- The first fault of a text that should be a script's text and then a report's.
use Rattle.std.specs.Prelude.{◌≡◌, ◌+◌, ℕ, Bool, true, false, ◌&&◌, List, [], ◌∷◌, length}
use Rattle.program_defs.specs.declared.script.Script.{Script}
use Rattle.weave_report.specs.FirstRefusal.{IsFirstRefusal}
use Rattle.weave_report.specs.Reading.{report_start}
use Rattle.weave_report.specs.declared.fault.ReportCause.{ReportCause}
use Rattle.weave_text.specs.Cutting.{lines_of, words_of}
use Rattle.weave_text.specs.Lines.{Bytes}
use Rattle.weave_script.specs.CheckText.{IsHead}
use Rattle.weave_script.specs.CheckReading.{cause_of}
use Rattle.weave_script.specs.Faults.{IsFirstScriptFault}
use Rattle.weave_script.specs.ReadText.{Fault, is_open, is_report}
use Rattle.weave_script.specs.Reading.{start}
use Rattle.weave_script.specs.ScriptLines.{IsTextOf}
use Rattle.weave_script.specs.declared.fault.Cause.TheVariants as causes

-- the first of the lines has the first word of a report
abbrev pub begins_report : List Bytes → Bool
begins_report [] = false
begins_report (line ∷ lines) = is_report (words_of line)

-- The first fault is one of three: the script's own, at a line that begins no report where one may begin; or the text
-- is a script without a report, and the fault is at the line after its last; or it is the first one of the report after
-- the script, with lines counted from the start of the whole text.
pub data IsFirstCheckFault (bytes : Bytes) : Fault → Type 0 where
  InScript : (fault : Fault) (first : IsFirstScriptFault 1 start (lines_of bytes) fault)
      → (is_open first.reading.place && begins_report first.rest) ≡ false → IsFirstCheckFault bytes fault
  NoReport : (script : Script) → IsTextOf bytes script
      → IsFirstCheckFault bytes (record { line = 1 + length (lines_of bytes); cause = causes.End })
  InReport : (script : Script) (left : List Bytes) (line : ℕ) (cause : ReportCause) (head : IsHead bytes script left)
      → begins_report left ≡ true
      → IsFirstRefusal script (1 + length head.front) report_start left (line, cause)
      → IsFirstCheckFault bytes (record { line = line; cause = cause_of cause })
