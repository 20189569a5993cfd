-- How a top call ends, as one fact from which its clauses follow. No public contract cites this.
use Rattle.std.specs.Prelude.{◌≡◌, ◌≢◌, ◌⊎◌, ⊤, ℕ, ◌+◌, false, true, IsTrue, List, [], Option, None, Some, Result, Ok, Err, IfSome}
use Rattle.weave_data.specs.Limits.{most_bytes}
use Rattle.weave_io.specs.declared.faults.ReadFault.{ReadFault}
use Rattle.weave_io.specs.declared.faults.ReadFault.TheVariants as fault
use Rattle.weave_io.specs.Told.{ToldBytes, IsReadWhole, TakesAtMost, Tells}
use Rattle.weave_script.specs.Limits.{IsLong}
use Rattle.weaver_top.specs.declared.answer.Answer.{Answer}
use Rattle.weaver_top.specs.declared.command.Command.{Command}
use Rattle.weaver_top.specs.declared.preparing.PrepareError.{PrepareError}
use Rattle.weaver_top.specs.declared.preparing.PrepareError.TheVariants as no_answer
use Rattle.weaver_top.specs.declared.status.Status.{Status}
use Rattle.weaver_top.specs.declared.status.Status.TheVariants.{Done, Read, Refused, Write, Memory, Words, NotRight}
use Rattle.weaver_top.specs.Answers.{Delivers, IsAnswerTo, can_end, input_told}
use Rattle.weaver_top.specs.Commands.{reads_input}

-- What is to be written. `left` and `rest` are what the source had left before and after reading.

-- The answer is one to the command's input. If the command has one, it was read whole, and to its end unless it is
-- refused.
pub record IsAnswerRead (command : Command) (left rest : ToldBytes) (answer : Answer) : Type 0 where
  pub fits : IfSome (input_told command left) (λ input. IsAnswerTo command input answer)
  pub ends : IsTrue (can_end command answer.status)
  pub to_the_end : reads_input command ≡ true → (answer.status ≡ Done) ⊎ (answer.status ≡ NotRight) → Tells rest []
  pub read_first : reads_input command ≡ true → IsReadWhole left rest

-- there is an answer, or the command has an input and reading it failed, or memory ran out
abbrev pub Prepares : Command → Result Answer PrepareError → ToldBytes → ToldBytes → Type 0 → Type 0
Prepares command (Ok answer) left rest ReadFailed = IsAnswerRead command left rest answer
Prepares command (Err no_answer.Read) left rest ReadFailed =
    (reads_input command ≡ true) × ReadFailed × TakesAtMost left rest most_bytes
Prepares command (Err no_answer.Memory) left rest ReadFailed = ⊤

-- and no more was taken of the source than a command reads: nothing if it has no input
pub record IsPrepared (command : Command) (prepared : Result Answer PrepareError) (left rest : ToldBytes)
    (ReadFailed NothingRead : Type 0) : Type 0 where
  pub prepares : Prepares command prepared left rest ReadFailed
  pub within : TakesAtMost left rest (most_bytes + 1)
  pub unread : reads_input command ≡ false → NothingRead

-- what is to be written if reading failed with this fault
abbrev pub AnswersUnread : ReadFault → Result Answer PrepareError → Type 0
AnswersUnread fault.TooLong (Ok answer) = (answer.status ≡ Refused) × ((command : Command) (input : List ℕ)
    → reads_input command ≡ true → IsLong input → IsAnswerTo command input answer)
AnswersUnread fault.TooLong (Err why) = why ≡ no_answer.Memory
AnswersUnread fault.Read prepared = prepared ≡ Err no_answer.Read
AnswersUnread fault.Memory prepared = prepared ≡ Err no_answer.Memory

-- Its delivery. `before` and `after` are what the sink had taken.

-- the answer was delivered, or there was none and nothing was written
abbrev pub EndsDelivery : Result Answer PrepareError → Status → ToldBytes → ToldBytes → Type 0 → Type 0 → Type 0
    → Type 0
EndsDelivery (Ok answer) status before after WriteFailed SinkStalled NoStall =
    Delivers answer status before after (WriteFailed ⊎ SinkStalled) × (status ≢ Write → NoStall)
EndsDelivery (Err no_answer.Read) status before after WriteFailed SinkStalled NoStall =
    (status ≡ Read) × (after ≡ before)
EndsDelivery (Err no_answer.Memory) status before after WriteFailed SinkStalled NoStall =
    (status ≡ Memory) × (after ≡ before)

-- The whole call. The facts are that the source failed, that nothing was read, that the sink failed, that it stalled,
-- and that it did not.

-- how a call with this command ends: what was to be written was found out, and delivered
pub record IsCommandEnd (command : Command) (status : Status) (left rest before after : ToldBytes)
    (ReadFailed NothingRead WriteFailed SinkStalled NoStall : Type 0) : Type 0 where
  pub prepared : Result Answer PrepareError
  pub is_prepared : IsPrepared command prepared left rest ReadFailed NothingRead
  pub delivered : EndsDelivery prepared status before after WriteFailed SinkStalled NoStall

-- how a call ends: the words ask for no command, and nothing is read or written; or with their command
pub record IsCallEnd (asked : Option Command) (status : Status) (left rest before after : ToldBytes)
    (ReadFailed NothingRead WriteFailed SinkStalled NoStall : Type 0) : Type 0 where
  pub no_command : asked ≡ None → (status ≡ Words) × NothingRead × (rest ≡ left) × (after ≡ before)
  pub with_command : (command : Command) → asked ≡ Some command
      → IsCommandEnd command status left rest before after ReadFailed NothingRead WriteFailed SinkStalled NoStall
