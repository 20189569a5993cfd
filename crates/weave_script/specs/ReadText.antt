-- What a text is read as: its script, or its first fault.
use Rattle.std.specs.Prelude.{ℕ, suc, Bool, true, false, ◌&&◌, List, [], ◌∷◌, length, Option, Some, None, Result, Ok, Err, nat_lt, codes, if◌then◌else◌}
use Rattle.std.specs.Str.{bytes_eq}
use Rattle.program_defs.specs.declared.script.Script.{Script}
use Rattle.program_defs.specs.declared.script.Step.{Step}
use Rattle.weave_text.specs.Cutting.{lines_of, words_of, is_skipped}
use Rattle.weave_text.specs.Lines.{Bytes, Line}
use Rattle.weave_script.specs.declared.fault.Cause.{Cause}
use Rattle.weave_script.specs.declared.fault.Cause.TheVariants as causes
use Rattle.weave_script.specs.declared.read.partial_script.Place.{Place}
use Rattle.weave_script.specs.declared.read.partial_script.Place.TheVariants.{Start, Between, Inside, Behind}
use Rattle.weave_script.specs.declared.read.partial_script.Reading.{Reading}
use Rattle.weave_data.specs.Steps.{◌>>=◌}
use Rattle.weave_script.specs.Fields.{ReadOrCause}
use Rattle.weave_script.specs.Reading.{start, after_line}
use Rattle.weave_data.specs.Limits.{most_bytes}

-- a line, by its number from 1, or 0 for the whole text, and what is wrong with it
pub record Fault : Type 0 where
  pub line : ℕ
  pub cause : Cause

-- how far a text was read: the script so far, the number of the next line, and the lines that are left
pub record Part : Type 0 where
  pub reading : Reading
  pub line : ℕ
  pub left : List Bytes

-- what is reported of line n
abbrev pub at_line : {A : Type 0} → ℕ → ReadOrCause A → Result A Fault
at_line n (Ok value) = Ok value
at_line n (Err cause) = Err (record { line = n; cause = cause })

-- the line's first word is `report`
abbrev pub is_report : Line → Bool
is_report [] = false
is_report (word ∷ words) = bytes_eq word (codes "report")

-- a request or a step may come next
abbrev pub is_open : Place → Bool
is_open Start = false
is_open Between = true
is_open (Inside opening ops) = false
is_open (Behind steps) = true

-- The lines from line n on; skipped ones count. If a report is to follow, the script ends before its first line.
abbrev pub read_on : Bool → ℕ → Reading → List Bytes → Result Part Fault
read_on report n reading [] = Ok (record { reading = reading; line = n; left = [] })
read_on report n reading (line ∷ lines) =
    if is_skipped line then read_on report (suc n) reading lines
    else if report && is_open reading.place && is_report (words_of line)
    then Ok (record { reading = reading; line = n; left = line ∷ lines })
    else (at_line n (after_line reading (words_of line)) >>= λ next. read_on report (suc n) next lines)

-- the script so far, with these steps
abbrev pub script_with : Option (List Step) → Reading → Script
script_with steps reading = record {
  gates = reading.gates;
  shards = reading.shards;
  requests = reading.requests;
  phases = reading.phases;
  steps = steps;
}

-- the script that ends there: not before its header, nor inside a transaction
abbrev pub script_at : Place → Reading → ReadOrCause Script
script_at Start reading = Err causes.Header
script_at Between reading = Ok (script_with None reading)
script_at (Inside opening ops) reading = Err causes.End
script_at (Behind steps) reading = Ok (script_with (Some steps) reading)

-- how far a text of at most 4,194,304 bytes is read
abbrev pub read_part : Bool → Bytes → Result Part Fault
read_part report bytes =
    if nat_lt most_bytes (length bytes) then Err (record { line = 0; cause = causes.TooLong })
    else read_on report 1 start (lines_of bytes)

-- the script of a text
abbrev pub read_text : Bytes → Result Script Fault
read_text bytes = read_part false bytes >>= λ part. at_line part.line (script_at part.reading.place part.reading)

-- a script that a report follows: the script, the number of the report's first line, and the lines from there on
pub record Head : Type 0 where
  pub script : Script
  pub line : ℕ
  pub left : List Bytes

-- the script, if lines are left
abbrev pub head_before : ℕ → Script → List Bytes → Result Head Fault
head_before n script [] = Err (record { line = n; cause = causes.End })
head_before n script (line ∷ lines) = Ok (record { script = script; line = n; left = line ∷ lines })

-- the script before a report
abbrev pub head_of_text : Bytes → Result Head Fault
head_of_text bytes =
    read_part true bytes >>= λ part.
    at_line part.line (script_at part.reading.place part.reading) >>= λ script.
    head_before part.line script part.left
