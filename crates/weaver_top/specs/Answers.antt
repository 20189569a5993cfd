-- What a command answers to an input, before it is written.
use Rattle.std.specs.Prelude.{◌≡◌, ◌⊎◌, ℕ, Bool, true, false, IsTrue, List, [], Some, if◌then◌else◌}
use Rattle.program_defs.specs.declared.script.Script.{Script}
use Rattle.weave_account.specs.declared.account.Account.{Account}
use Rattle.weave_io.specs.Told.{ToldBytes, Appends, AppendsPrefix}
use Rattle.weave_script.specs.Limits.{IsShort}
use Rattle.weave_script.specs.ScriptLines.{IsTextOf}
use Rattle.weaver_top.specs.declared.answer.Answer.{Answer}
use Rattle.weaver_top.specs.declared.command.Command.{Command}
use Rattle.weaver_top.specs.declared.command.Command.TheVariants.{Run, Check, Trace, Load}
use Rattle.weaver_top.specs.declared.status.Status.{Status}
use Rattle.weaver_top.specs.declared.status.Status.TheVariants.{Done, Refused, Write, NotRight}
use Rattle.weaver_top.specs.Acceptance.{IsAcceptedByCheck}
use Rattle.weaver_top.specs.Commands.{reads_input}
use Rattle.weaver_top.specs.Headlines.{TellsRightReport, TellsTrace, TellsYes}
use Rattle.weaver_top.specs.Loads.{TellsLoad}
use Rattle.weaver_top.specs.Refusals.{TellsRefusal}
use Rattle.weaver_top.specs.RunLogs.{TellsByLogs}
use Rattle.weaver_top.specs.VerdictLines.{TellsNo}

-- the text is a right report for the script in the input, the report of logs, and `check` says that it is right
pub record TellsRun (input text : List ℕ) : Type 0 where
  pub right_report : TellsRightReport input text
  pub by_logs : TellsByLogs input text
  pub accepted_by_check : IsAcceptedByCheck input text

-- the text is the report of the steps of the script in the input, and `check` says that it is right
pub record TellsTraceAccepted (input text : List ℕ) : Type 0 where
  pub traced : TellsTrace input text
  pub accepted_by_check : IsAcceptedByCheck input text

-- the text is what the command has to write for the input when it ends with status 0
abbrev pub TellsDone : Command → List ℕ → List ℕ → Type 0
TellsDone Run input text = TellsRun input text
TellsDone Check input text = TellsYes input text
TellsDone Trace input text = TellsTraceAccepted input text
TellsDone (Load seed size) input text = TellsLoad seed size text

-- or when it ends because a report isn't right
abbrev pub TellsNotRight : Command → List ℕ → List ℕ → Type 0
TellsNotRight Run input text = ⊥
TellsNotRight Check input text = TellsNo input text
TellsNotRight Trace input text = ⊥
TellsNotRight (Load seed size) input text = ⊥

-- the text is what the command has to write for the input when it ends with this status
abbrev pub TellsAt : Command → Status → List ℕ → List ℕ → Type 0
TellsAt command Done input text = TellsDone command input text
TellsAt command NotRight input text = TellsNotRight command input text
TellsAt command Refused input text = TellsRefusal command input text
TellsAt command status input text = ⊥

-- the command judges a report. No public contract cites this.
abbrev pub is_judging : Command → Bool
is_judging Run = false
is_judging Check = true
is_judging Trace = false
is_judging (Load seed size) = false

-- the command can end with this status and its text written. No public contract cites this.
abbrev pub can_end : Command → Status → Bool
can_end command Done = true
can_end command Refused = reads_input command
can_end command NotRight = is_judging command
can_end command status = false

-- what is known of the command's input: what the source has left. `load` reads nothing, so its input is empty.
-- No public contract cites this.
abbrev pub input_told : Command → ToldBytes → ToldBytes
input_told command left = if reads_input command then left else Some []

-- the text is what the command has to write for the input
abbrev pub TellsAnswer : Command → List ℕ → List ℕ → Type 0
TellsAnswer command input text = (status : Status) × TellsAt command status input text

-- the answer is right for the input, and the command can end with its status. No public contract cites this.
pub record IsAnswerTo (command : Command) (input : List ℕ) (answer : Answer) : Type 0 where
  pub tells : TellsAt command answer.status input answer.text.items
  pub ends : IsTrue (can_end command answer.status)

-- the answer is right for each text of the script. No public contract cites this.
pub record AnswersScript (command : Command) (script : Script) (answer : Answer) : Type 0 where
  pub to_each_text : (input : List ℕ) → IsShort input → IsTextOf input script → IsAnswerTo command input answer

-- The answer's text is the report of these logs for each text of the script. No public contract cites this.
abbrev pub TellsOfLogs : Script → Account → Answer → Type 0
TellsOfLogs script logs answer = (input : List ℕ) → IsTextOf input script
    → (told : TellsByLogs input answer.text.items) × (told.script ≡ script) × (told.logs ≡ logs)

-- the answer's text was written, or the writing failed and some of it was written, from its start.
-- No public contract cites this.
abbrev pub Delivers : Answer → Status → ToldBytes → ToldBytes → Type 0 → Type 0
Delivers answer status before after Failed =
    ((status ≡ answer.status) × Appends before after answer.text.items)
    ⊎ ((status ≡ Write) × Failed × AppendsPrefix before after answer.text.items)
