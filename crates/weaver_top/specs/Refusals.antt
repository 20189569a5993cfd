-- What a command writes for an input that it refuses. It is said once, over what differs between the commands.
use Rattle.std.specs.Prelude.{◌≡◌, ℕ, List, [], ◌∷◌, ◌++◌, codes, Result, Ok, Err}
use Rattle.std.specs.Fmt.{decimal}
use Rattle.program_defs.specs.declared.script.Script.{Script}
use Rattle.report_rules.specs.declared.report.Report.{Report}
use Rattle.weave_script.specs.CauseTexts.{cause_text}
use Rattle.weave_script.specs.CheckText.{IsCheckTextOf}
use Rattle.weave_script.specs.CheckReading.{check_text}
use Rattle.weave_script.specs.ReadText.{Fault, read_text}
use Rattle.weave_script.specs.ScriptLines.{IsTextOf}
use Rattle.weaver_top.specs.declared.command.Command.{Command}
use Rattle.weaver_top.specs.declared.command.Command.TheVariants.{Run, Check, Trace, Load}
use Rattle.weave_script.specs.Limits.{IsShort}

-- what a command reads: the values, when bytes are a text of one, and the value or first fault of each text
pub record InputKind : Type 1 where
  pub Value : Type 0
  pub IsText : List ℕ → Value → Type 0
  pub read : List ℕ → Result Value Fault

-- `run` and `trace` read a script
abbrev pub script_input : InputKind
script_input = record { Value = Script; IsText = IsTextOf; read = read_text }

-- `check` reads a script and then a report for it
abbrev pub check_input : InputKind
check_input = record {
  Value = Script × Report;
  IsText = λ input both. IsCheckTextOf input both.0 both.1;
  read = check_text;
}

-- `load` reads nothing: its input is empty. No public contract cites this.
abbrev pub load_input : InputKind
load_input = record { Value = Unit {0}; IsText = λ input value. input ≡ []; read = λ input. Ok tt }

-- what a command reads. No public contract cites this.
abbrev pub input_of : Command → InputKind
input_of Run = script_input
input_of Check = check_input
input_of Trace = script_input
input_of (Load seed size) = load_input

-- the input isn't too long, and is a text of a value
pub record CanBeTaken (kind : InputKind) (input : List ℕ) : Type 0 where
  pub input_is_short : IsShort input
  pub value : kind.Value
  pub input_is_its_text : kind.IsText input value

-- the line for an input that is refused: the number of a line, or 0 for the whole input, and the cause
abbrev pub refusal_line : ℕ → List ℕ → List ℕ
refusal_line line cause = codes "refused " ++ decimal line ++ codes " " ++ cause ++ 10 ∷ []

-- the input is too long, or a text of no value, and the text names its first fault
pub record TellsFault (kind : InputKind) (input text : List ℕ) : Type 0 where
  pub not_taken : ¬ CanBeTaken kind input
  pub fault : Fault
  pub is_first : kind.read input ≡ Err fault
  pub line : text ≡ refusal_line fault.line (cause_text fault.cause)

-- the text says why the command refuses the input: by its first fault. `load` refuses nothing.
abbrev pub TellsRefusal : Command → List ℕ → List ℕ → Type 0
TellsRefusal Run input text = TellsFault script_input input text
TellsRefusal Check input text = TellsFault check_input input text
TellsRefusal Trace input text = TellsFault script_input input text
TellsRefusal (Load seed size) input text = ⊥
