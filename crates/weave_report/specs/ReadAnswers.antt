-- What a reader of reports answers. No public contract cites the first five.
use Rattle.std.specs.Prelude.{◌≡◌, ℕ, Result, Ok, Err, ⊤}
use Rattle.weave_report.specs.declared.fault.LineFault.{LineFault}
use Rattle.weave_report.specs.declared.fault.LineFault.TheVariants as line
use Rattle.weave_report.specs.declared.fault.ReportCause.{ReportCause}
use Rattle.weave_report.specs.declared.fault.ReportFault.{ReportFault}
use Rattle.weave_report.specs.declared.fault.ReportFault.TheVariants.{Refused, Memory}
use Rattle.report_rules.specs.declared.report.Report.{Report}

-- a function answers what reading a line or a part of it gives, unless memory runs out
abbrev pub Gives : {A : Type 0} → Result A LineFault → Result A ReportCause → Type 0
Gives (Ok value) read = read ≡ Ok value
Gives (Err (line.Refused cause)) read = read ≡ Err cause
Gives (Err line.Memory) read = ⊤

-- the same of a function that changes a value in its place, which is now this
abbrev pub Changes : {A : Type 0} → Result Unit LineFault → A → Result A ReportCause → Type 0
Changes (Ok done) new read = read ≡ Ok new
Changes (Err (line.Refused cause)) new read = read ≡ Err cause
Changes (Err line.Memory) new read = ⊤

-- the same of the line of this number
abbrev pub GivesAt : {A : Type 0} → ℕ → Result A ReportFault → Result A ReportCause → Type 0
GivesAt number (Ok value) read = read ≡ Ok value
GivesAt number (Err (Refused line cause)) read = (line ≡ number) × (read ≡ Err cause)
GivesAt number (Err Memory) read = ⊤

-- a function that takes no memory answers exactly what reading a line or a part of it gives
abbrev pub GivesExactly : {A : Type 0} → Result A LineFault → Result A ReportCause → Type 0
GivesExactly (Ok value) read = read ≡ Ok value
GivesExactly (Err (line.Refused cause)) read = read ≡ Err cause
GivesExactly (Err line.Memory) read = ⊥

-- a function that takes no memory answers exactly what reading the end of a text gives
abbrev pub AnswersExactly : Result Report ReportFault → Result Report (ℕ × ReportCause) → Type 0
AnswersExactly (Ok report) read = read ≡ Ok report
AnswersExactly (Err (Refused line cause)) read = read ≡ Err (line, cause)
AnswersExactly (Err Memory) read = ⊥

-- the reader answers what reading the text gives, unless memory runs out
abbrev pub Answers : Result Report ReportFault → Result Report (ℕ × ReportCause) → Type 0
Answers (Ok report) read = read ≡ Ok report
Answers (Err (Refused line cause)) read = read ≡ Err (line, cause)
Answers (Err Memory) read = ⊤

-- the report, or out of memory
abbrev pub IsReadAs : Report → Result Report ReportFault → Type 0
IsReadAs report (Ok other) = other ≡ report
IsReadAs report (Err (Refused line cause)) = ⊥
IsReadAs report (Err Memory) = ⊤

-- if a line was refused, this is true
abbrev pub IfLineRefused : Result Report ReportFault → Type 0 → Type 0
IfLineRefused (Err (Refused line cause)) P = P
IfLineRefused _ P = ⊤

-- if a line was refused, this is true of its number with the cause
abbrev pub IfRefusedAs : Result Report ReportFault → (ℕ × ReportCause → Type 0) → Type 0
IfRefusedAs (Err (Refused line cause)) P = P (line, cause)
IfRefusedAs _ P = ⊤
