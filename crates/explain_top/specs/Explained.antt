-- What `explain` writes, and how it ends.
use Rattle.std.specs.Prelude.{◌≡◌, ◌⊎◌, ℕ, List, ◌++◌}
use Rattle.explain_top.specs.declared.command.Command.{Command}
use Rattle.explain_top.specs.declared.command.Command.TheVariants as ways
use Rattle.weaver_top.specs.Answers.{TellsAt}
use Rattle.weaver_top.specs.Refusals.{CanBeTaken, TellsRefusal, check_input, script_input}
use Rattle.weaver_top.specs.declared.command.Command.TheVariants.{Run, Check}
use Rattle.weaver_top.specs.declared.status.Status.{Status}
use Rattle.weaver_top.specs.declared.status.Status.TheVariants.{Done, NotRight, Refused}

-- the text begins with one that fits the input
pub record BeginsWith (Fits : List ℕ → List ℕ → Type 0) (input text : List ℕ) : Type 0 where
  pub line : List ℕ
  pub more : List ℕ
  pub is_line : Fits input line
  pub begins : text ≡ line ++ more

-- the text begins with what `check` has to write for the input when it ends with this status
abbrev pub BeginsAsCheck : Status → List ℕ → List ℕ → Type 0
BeginsAsCheck status input text = BeginsWith (TellsAt Check status) input text

-- the text begins with what `run` has to write for the input when it refuses it
abbrev pub BeginsAsRefusedRun : List ℕ → List ℕ → Type 0
BeginsAsRefusedRun input text = BeginsWith (TellsRefusal Run) input text

-- a text was written: for a report that is right or isn't, or for an input that is refused
abbrev pub IsAnswered : Status → Type 0
IsAnswered status = ((status ≡ Done) ⊎ (status ≡ NotRight)) ⊎ (status ≡ Refused)

-- `script` with this status: the input is a valid script, or the text begins as that of `run` for it
abbrev pub ExplainsScript : Status → List ℕ → List ℕ → Type 0
ExplainsScript Done input text = CanBeTaken script_input input
ExplainsScript Refused input text = BeginsAsRefusedRun input text
ExplainsScript status input text = ⊥

-- `picture` with this status: `check` takes the input, or the text begins as that of `check` for it
abbrev pub ExplainsPicture : Status → List ℕ → List ℕ → Type 0
ExplainsPicture Done input text = CanBeTaken check_input input
ExplainsPicture Refused input text = BeginsAsCheck Refused input text
ExplainsPicture status input text = ⊥

-- what is promised of the text that the command writes for the input when it ends with this status
abbrev pub Explains : Command → Status → List ℕ → List ℕ → Type 0
Explains ways.Check status input text = BeginsAsCheck status input text
Explains ways.Script status input text = ExplainsScript status input text
Explains (ways.Picture window) status input text = ExplainsPicture status input text

-- what is promised of the text that the command writes for the input, at whichever status
abbrev pub IsExplanation : Command → List ℕ → List ℕ → Type 0
IsExplanation command input text = (status : Status) × Explains command status input text

-- the command can end with this status and its text written: only without a word that a report isn't right.
-- No public contract cites this.
abbrev pub CanEnd : Command → Status → Type 0
CanEnd ways.Check status = IsAnswered status
CanEnd ways.Script status = (status ≡ Done) ⊎ (status ≡ Refused)
CanEnd (ways.Picture window) status = (status ≡ Done) ⊎ (status ≡ Refused)
