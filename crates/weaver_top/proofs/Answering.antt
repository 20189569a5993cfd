-- An answer to each text of a script is one to a text of it that was read.
-- Used by `report_on`, `report_on_threads` and `trace_on`.
use Rattle.std.proofs.Common.{ℕ, List, Result, Ok, Err, IfOk}
use Rattle.program_defs.specs.declared.script.Script.{Script}
use Rattle.weave_script.specs.Limits.{IsShort}
use Rattle.weave_script.specs.ScriptLines.{IsTextOf}
use Rattle.weaver_top.specs.declared.answer.Answer.{Answer}
use Rattle.weaver_top.specs.declared.command.Command.{Command}
use Rattle.weaver_top.specs.Answers.{AnswersScript, IsAnswerTo}

-- what was answered for the script is right for the input, if that is a text of the script
pub answers_input : {E : Type 0} (command : Command) (result : Result Answer E) (script : Script) (input : List ℕ) → IsShort input → IsTextOf input script
    → IfOk result (AnswersScript command script) → IfOk result (IsAnswerTo command input)
answers_input command (Ok answer) script input is_short is_text all = all.to_each_text input is_short is_text
answers_input command (Err error) script input is_short is_text all = tt
