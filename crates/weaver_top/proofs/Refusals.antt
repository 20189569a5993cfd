-- Inputs that are refused, by any command.
-- Used by `too_long` and `verdict_on`.
use Rattle.std.proofs.Common.{◌≡◌, ℕ, ◌<◌, List, length, true, nat_lt, Err, refl, sym, subst, arith}
use Rattle.std.proofs.lemmas.Bool.{lt-ltb}
use Rattle.weave_script.specs.declared.fault.Cause.TheVariants.{TooLong}
use Rattle.weave_script.specs.CauseTexts.{cause_text}
use Rattle.weave_script.specs.ReadText.{Fault}
use Rattle.weaver_top.specs.declared.answer.Answer.{Answer}
use Rattle.weaver_top.specs.declared.command.Command.{Command}
use Rattle.weaver_top.specs.declared.command.Command.TheVariants.{Run, Check, Trace, Load}
use Rattle.weaver_top.specs.declared.status.Status.{Status}
use Rattle.weaver_top.specs.declared.status.Status.TheVariants.{Refused}
use Rattle.weaver_top.specs.Answers.{IsAnswerTo, TellsAt, can_end}
use Rattle.weaver_top.specs.Commands.{reads_input}
use Rattle.weaver_top.specs.Refusals.{TellsFault, TellsRefusal, input_of, refusal_line}

-- an answer that refuses an input with such a text
refuses : (command : Command) (input : List ℕ) (answer : Answer) → reads_input command ≡ true → answer.status ≡ Refused → TellsRefusal command input answer.text.items → IsAnswerTo command input answer
refuses command input answer reads status tells =
    let P : Status → Type 0 = λ status. TellsAt command status input answer.text.items in
    let Q : Status → Type 0 = λ status. can_end command status ≡ true in
    record { tells = subst P (sym status) tells; ends = subst Q (sym status) reads }

-- one whose text names the first fault does so
by_fault : (command : Command) (input text : List ℕ) → TellsFault (input_of command) input text → TellsRefusal command input text
by_fault Run input text fault = fault
by_fault Check input text fault = fault
by_fault Trace input text fault = fault
by_fault (Load seed size) input text fault = let read = fault.is_first in cc

-- an input that is too long is read as that fault
too_long_read : (command : Command) (input : List ℕ) → reads_input command ≡ true → 4194304 < length input → (input_of command).read input ≡ Err (record { line = 0; cause = TooLong })
too_long_read Run input reads long = let over : nat_lt 4194304 (length input) ≡ true = lt-ltb 4194304 (length input) long in rw over refl
too_long_read Check input reads long = let over : nat_lt 4194304 (length input) ≡ true = lt-ltb 4194304 (length input) long in rw over refl
too_long_read Trace input reads long = let over : nat_lt 4194304 (length input) ≡ true = lt-ltb 4194304 (length input) long in rw over refl
too_long_read (Load seed size) input reads long = cc

-- an answer that refuses as too long is right if its command reads an input of more than 4194304 bytes
pub too_long : (answer : Answer) → answer.status ≡ Refused → answer.text.items ≡ refusal_line 0 (cause_text TooLong) → (command : Command) (input : List ℕ) → reads_input command ≡ true → 4194304 < length input → IsAnswerTo command input answer
too_long answer status is command input reads long =
    refuses command input answer reads status (by_fault command input answer.text.items (record {
      not_taken = λ taken. (let short = taken.input_is_short in omega (arith, short, long));
      fault = record { line = 0; cause = TooLong };
      is_first = too_long_read command input reads long;
      line = is;
    }))

-- an answer that refuses with the first fault is right if its command reads input that is a text of no value
pub faulty : (command : Command) (input : List ℕ) (answer : Answer) (fault : Fault) → reads_input command ≡ true → ((value : (input_of command).Value) → ¬ (input_of command).IsText input value) → (input_of command).read input ≡ Err fault → answer.status ≡ Refused → answer.text.items ≡ refusal_line fault.line (cause_text fault.cause) → IsAnswerTo command input answer
faulty command input answer fault reads none first status is =
    refuses command input answer reads status (by_fault command input answer.text.items (record { not_taken = λ taken. none taken.value taken.input_is_its_text; fault = fault; is_first = first; line = is }))
