-- What a text is read as that is to be a script's and then a report's: both, or the first fault.
use Rattle.std.specs.Prelude.{Result, Ok, Err}
use Rattle.program_defs.specs.declared.script.Script.{Script}
use Rattle.report_rules.specs.declared.report.Report.{Report}
use Rattle.weave_report.specs.declared.fault.ReportCause.{ReportCause}
use Rattle.weave_report.specs.declared.fault.ReportCause.TheVariants as report
use Rattle.weave_report.specs.Reading.{Refusal, after_lines, report_start}
use Rattle.weave_text.specs.Lines.{Bytes}
use Rattle.weave_script.specs.declared.fault.Cause.{Cause}
use Rattle.weave_script.specs.declared.fault.Cause.TheVariants as causes
use Rattle.weave_data.specs.Steps.{◌>>=◌}
use Rattle.weave_script.specs.ReadText.{Fault, head_of_text}

-- a report's cause, as one of the whole input
abbrev pub cause_of : ReportCause → Cause
cause_of report.Line = causes.Line
cause_of report.Name = causes.Name
cause_of report.Number = causes.Number
cause_of report.Request = causes.Request
cause_of report.Stamp = causes.Stamp
cause_of report.End = causes.End

-- the report's text was read, or is refused at a line of the whole input
abbrev pub with_script_read : Script → Result Report Refusal → Result (Script × Report) Fault
with_script_read script (Ok told) = Ok (script, told)
with_script_read script (Err (line, cause)) = Err (record { line = line; cause = cause_of cause })

-- the script and the report after it of a text, whose lines are counted from its first one
abbrev pub check_text : Bytes → Result (Script × Report) Fault
check_text bytes =
    head_of_text bytes >>= λ head.
    with_script_read head.script (after_lines head.script head.line report_start head.left)
