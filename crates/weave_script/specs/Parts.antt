-- What the reader answers of a part of a text. No public contract cites this.
use Rattle.std.specs.Prelude.{◌≡◌, Bool, true, false, ◌&&◌, Result, Ok, Err}
use Rattle.weave_text.specs.Cutting.{lines_of}
use Rattle.weave_text.specs.Lines.{Line}
use Rattle.weave_script.specs.declared.fault.LineFault.{LineFault}
use Rattle.weave_script.specs.declared.fault.LineFault.TheVariants as line_fault
use Rattle.weave_script.specs.declared.fault.ScriptFault.{ScriptFault}
use Rattle.weave_script.specs.declared.fault.ScriptFault.TheVariants.{Refused, Memory}
use Rattle.weave_script.specs.declared.read.before_report.Head.{Head}
use Rattle.weave_script.specs.declared.read.part.Part.{Part}
use Rattle.weave_script.specs.declared.read.part.Taken.{Taken}
use Rattle.weave_script.specs.declared.read.part.Taken.TheVariants as taken
use Rattle.weave_script.specs.declared.read.lines.Reader.{Reader}
use Rattle.weave_script.specs.declared.read.partial_script.Reading.{Reading}
use Rattle.weave_script.specs.Indexed.{IsReaderReady}
use Rattle.weave_script.specs.ReadText.{Fault, is_open, is_report}
use Rattle.weave_script.specs.ReadText as text
use Rattle.weave_script.specs.Reading.{after_line}

-- the part that was read, or its fault, unless memory runs out
abbrev pub GivesPart : Result Part ScriptFault → Result text.Part Fault → Type 0
GivesPart (Ok part) read =
    read ≡ Ok (record { reading = part.reader.reading; line = part.line; left = lines_of part.left.now })
GivesPart (Err (Refused line cause)) read = read ≡ Err (record { line = line; cause = cause })
GivesPart (Err Memory) read = Unit {0}

-- the line of these words is the first one of a report that may begin there
abbrev pub ends_before : Bool → Reading → Line → Bool
ends_before report reading line = report && is_open reading.place && is_report line

-- what a line of these words that isn't skipped is taken as, and the reader after it, unless memory runs out
abbrev pub TakesLine : Bool → Reading → Line → Reader → Result Taken LineFault → Type 0
TakesLine report reading line reader (Ok taken.Line) =
    IsReaderReady reader × (ends_before report reading line ≡ false) × (after_line reading line ≡ Ok reader.reading)
TakesLine report reading line reader (Ok taken.Nothing) =
    IsReaderReady reader × (reader.reading ≡ reading) × (ends_before report reading line ≡ true)
TakesLine report reading line reader (Err (line_fault.Refused cause)) =
    (ends_before report reading line ≡ false) × (after_line reading line ≡ Err cause)
TakesLine report reading line reader (Err line_fault.Memory) = Unit {0}

-- the script before a report, or the fault of the text, unless memory runs out
abbrev pub GivesHead : Result Head ScriptFault → Result text.Head Fault → Type 0
GivesHead (Ok head) read = read ≡ Ok (record { script = head.script; line = head.line; left = lines_of head.left.now })
GivesHead (Err (Refused line cause)) read = read ≡ Err (record { line = line; cause = cause })
GivesHead (Err Memory) read = Unit {0}
