-- What was read, and what was delivered of an answer to it.
-- Used by CallEnds and Unread.
use Rattle.std.proofs.Common.{◌≡◌, ℕ, ◌<◌, ◌≤◌, List, [], length, true, false, IsTrue, Option, Some, None, IfSome, Result, IfOk, ◌⊎◌, inl, inr, refl, sym, ap, ◌∙◌, subst, arith}
use Rattle.weave_io.specs.Told.{ToldBytes, TakesAtMost, Tells, Writes, WritesPrefix}
use Rattle.weaver_top.specs.declared.answer.Answer.{Answer}
use Rattle.weaver_top.specs.declared.status.Status.{Status}
use Rattle.weaver_top.specs.declared.status.Status.TheVariants.{Done, Read, Refused, Write, Memory, Words, NotRight, Disk, Foreign}
use Rattle.weaver_top.specs.declared.command.Command.{Command}
use Rattle.weaver_top.specs.declared.command.Command.TheVariants.{Run, Check, Trace, Load}
use Rattle.weaver_top.specs.Answers.{IsAnswerTo, TellsAt, TellsAnswer, can_end, Delivers, input_told}
use Rattle.weaver_top.specs.Commands.{reads_input}
use Rattle.weaver_top.specs.Loads.{TellsLoad, WritesLoadPrefix}
use Rattle.weaver_top.specs.Refusals.{TellsRefusal}

-- an answer to what was read is one to what the source had
pub fits_told : (command : Command) (left : ToldBytes) (read bytes : List ℕ) (answer : Answer) → Tells left read → bytes ≡ read → IsAnswerTo command bytes answer → IfSome left (λ input. IsAnswerTo command input answer)
fits_told command None read bytes answer tells same fits = tt
fits_told command (Some told) read bytes answer tells same fits = let P : List ℕ → Type 0 = λ input. IsAnswerTo command input answer in subst P (same ∙ sym tells) fits

-- and so is one to an input that is too long
pub too_long_told : (command : Command) (left : ToldBytes) (answer : Answer) → IfSome left (λ input. 4194305 ≤ length input) → ((input : List ℕ) → 4194304 < length input → IsAnswerTo command input answer) → IfSome left (λ input. IsAnswerTo command input answer)
too_long_told command None answer long fits = tt
too_long_told command (Some input) answer long fits = fits input (omega (arith, long))

-- what a command reads is what the source has left, or nothing
pub read_told : (command : Command) (left : ToldBytes) → reads_input command ≡ true → input_told command left ≡ left
read_told Run left reads = refl
read_told Check left reads = refl
read_told Trace left reads = refl
read_told (Load seed size) left reads = absurd (cc)

unread_told : (command : Command) (left : ToldBytes) → reads_input command ≡ false → input_told command left ≡ Some []
unread_told Run left reads = absurd (cc)
unread_told Check left reads = absurd (cc)
unread_told Trace left reads = absurd (cc)
unread_told (Load seed size) left reads = refl

-- of a command that reads, an answer to what the source has left is one to the command's input
pub fits_read : {E : Type 0} (command : Command) (left : ToldBytes) (result : Result Answer E) → reads_input command ≡ true → IfOk result (λ answer. IfSome left (λ input. IsAnswerTo command input answer)) → IfOk result (λ answer. IfSome (input_told command left) (λ input. IsAnswerTo command input answer))
fits_read {E} command left result reads fits =
    let P : ToldBytes → Type 0 = λ told. IfOk result (λ (answer : Answer). IfSome told (λ input. IsAnswerTo command input answer)) in
    subst P (sym (read_told command left reads)) fits

-- and of one that reads nothing an answer to no bytes is
pub fits_unread : (command : Command) (left : ToldBytes) (bytes : List ℕ) (answer : Answer) → reads_input command ≡ false → bytes ≡ [] → IsAnswerTo command bytes answer → IfSome (input_told command left) (λ input. IsAnswerTo command input answer)
fits_unread command left bytes answer reads none fits =
    let P : ToldBytes → Type 0 = λ told. IfSome told (λ input. IsAnswerTo command input answer) in
    let Q : List ℕ → Type 0 = λ input. IsAnswerTo command input answer in
    subst P (sym (unread_told command left reads)) (subst Q none fits)

-- a source that isn't asked gives nothing
pub takes_none : (left : ToldBytes) (most : ℕ) → TakesAtMost left left most
takes_none None most = (0, omega arith, (tt, refl))
takes_none (Some bytes) most = (0, omega arith, (omega arith, refl))

-- no command ends as a failed write does
no_write : (command : Command) → IsTrue (can_end command Write) → ⊥
no_write Run ends = cc
no_write Check ends = cc
no_write Trace ends = cc
no_write (Load seed size) ends = cc

-- so the status of no answer is `Write`
pub not_write : (command : Command) (status : Status) → IsTrue (can_end command status) → status ≡ Write → ⊥
not_write command status ends failed = let P : Status → Type 0 = λ status. IsTrue (can_end command status) in no_write command (subst P failed ends)

-- if a command ended with another status than that, its text was written whole
text_written : (command : Command) (left before after : ToldBytes) (answer : Answer) (status : Status) (Failed : Type 0) → IfSome left (λ input. IsAnswerTo command input answer) → Delivers answer status before after Failed → (status ≡ Write → ⊥) → Writes (TellsAt command status) left before after
text_written command None before after answer status Failed fits ends whole = tt
text_written command (Some input) before after answer status Failed fits (inl (is, appended)) whole =
    let P : Status → Type 0 = λ status. TellsAt command status input answer.text.items in
    (answer.text.items, subst P (sym is) fits.tells, appended)
text_written command (Some input) before after answer status Failed fits (inr (is, failure, prefix)) whole = absurd (whole is)

-- the command that the words ask for is this one, and the status this one
pub ended_so : (command : Command) (end : Status) (asked : Option Command) (other : Command) (left before after : ToldBytes) (answer : Answer) (status : Status) (Failed : Type 0) → (end ≡ Write → ⊥) → Some other ≡ asked → asked ≡ Some command → status ≡ end → IfSome (input_told other left) (λ input. IsAnswerTo other input answer) → Delivers answer status before after Failed → Writes (TellsAt command end) (input_told command left) before after
ended_so command end asked other left before after answer status Failed whole other_is asks is fits ends =
    let same : other ≡ command = cc in
    let P : Command → Type 0 = λ one. IfSome (input_told one left) (λ input. IsAnswerTo one input answer) in
    let Q : Status → Type 0 = λ one. Writes (TellsAt command one) (input_told command left) before after in
    subst Q is (text_written command (input_told command left) before after answer status Failed (subst P same fits) ends (λ failed. whole (sym is ∙ failed)))

-- of a text that fits more, less is true
pub writes_less : (Fits Less : List ℕ → List ℕ → Type 0) → ((input text : List ℕ) → Fits input text → Less input text) → (left before after : ToldBytes) → Writes Fits left before after → Writes Less left before after
writes_less Fits Less less None before after written = tt
writes_less Fits Less less (Some input) before after (text, fits, appended) = (text, less input text fits, appended)

-- `check` alone says that a report isn't right
only_check : (command : Command) → can_end command NotRight ≡ true → command ≡ Check
only_check Run can = absurd (cc)
only_check Check can = refl
only_check Trace can = absurd (cc)
only_check (Load seed size) can = absurd (cc)

-- a command that ends because a report isn't right is `check`, and its text for what the source had left was written
pub not_right : (asked : Option Command) (command : Command) (left before after : ToldBytes) (answer : Answer) (status : Status) (Failed : Type 0) → Some command ≡ asked → status ≡ NotRight → can_end command answer.status ≡ true → IfSome (input_told command left) (λ input. IsAnswerTo command input answer) → Delivers answer status before after Failed → (asked ≡ Some Check) × Writes (TellsAt Check NotRight) left before after
not_right asked command left before after answer status Failed asked_is is can fits ends =
    let R : Status → Type 0 = λ one. can_end command one ≡ true in
    let as_answered : answer.status ≡ NotRight = answered ends in
    let same : command ≡ Check = only_check command (subst R as_answered can) in
    let asks : asked ≡ Some Check = sym asked_is ∙ ap Some same in
    (asks, ended_so Check NotRight asked command left before after answer status Failed (λ wrong. cc) asked_is asks is fits ends)
  where
    answered : Delivers answer status before after Failed → answer.status ≡ NotRight
    answered (inl (same, appended)) = sym same ∙ is
    answered (inr (same, failure, prefix)) = absurd (cc)

-- a command that refuses its input has one
pub reads_to_refuse : (asked : Option Command) (other command : Command) (left before after : ToldBytes) (answer : Answer) (status : Status) (Failed : Type 0) → Some other ≡ asked → asked ≡ Some command → status ≡ Refused → IfSome (input_told other left) (λ input. IsAnswerTo other input answer) → IsTrue (can_end other answer.status) → Delivers answer status before after Failed → IsTrue (reads_input command)
reads_to_refuse asked other command left before after answer status Failed other_is asks is fits can ends =
    let same : other ≡ command = cc in
    let R : Status → Type 0 = λ one. IsTrue (can_end other one) in
    let reads : IsTrue (reads_input other) = subst R (answered ends) can in
    subst (λ (one : Command). IsTrue (reads_input one)) same reads
  where
    answered : Delivers answer status before after Failed → answer.status ≡ Refused
    answered (inl (same, appended)) = sym same ∙ is
    answered (inr (same, failure, prefix)) = absurd (cc)

-- if the writing failed, some of such a text was written
pub some_written : (command : Command) (left before after : ToldBytes) (answer : Answer) (status : Status) (Failed : Type 0) → IfSome left (λ input. IsAnswerTo command input answer) → IsTrue (can_end command answer.status) → Delivers answer status before after Failed → status ≡ Write → WritesPrefix (TellsAnswer command) left before after
some_written command left before after answer status Failed fits ends (inl (is, appended)) failed = absurd (not_write command answer.status ends (sym is ∙ failed))
some_written command None before after answer status Failed fits ends (inr (is, failure, prefix)) failed = tt
some_written command (Some input) before after answer status Failed fits ends (inr (is, failure, prefix)) failed = (answer.text.items, (answer.status, fits.tells), prefix)

-- if the writing failed, some text that tells the answer to the command asked for was written
pub prefix_so : (asked : Option Command) (other command : Command) (left before after : ToldBytes) (answer : Answer) (status : Status) (Failed : Type 0) → Some other ≡ asked → asked ≡ Some command → status ≡ Write → IfSome (input_told other left) (λ input. IsAnswerTo other input answer) → IsTrue (can_end other answer.status) → Delivers answer status before after Failed → WritesPrefix (TellsAnswer command) (input_told command left) before after
prefix_so asked other command left before after answer status Failed other_is asks failed fits can ends =
    let same : other ≡ command = cc in
    let P : Command → Type 0 = λ one. WritesPrefix (TellsAnswer one) (input_told one left) before after in
    subst P same (some_written other (input_told other left) before after answer status Failed fits can ends failed)

-- What `load` writes, whose input is empty

-- it ends with its summary written, and with no other text
load_only : (seed size : ℕ) (status : Status) (input text : List ℕ) → TellsAt (Load seed size) status input text → (status ≡ Done) × TellsLoad seed size text
load_only seed size Done input text tells = (refl, tells)
load_only seed size Read input text tells = absurd tells
load_only seed size Refused input text tells = absurd tells
load_only seed size Write input text tells = absurd tells
load_only seed size Memory input text tells = absurd tells
load_only seed size Words input text tells = absurd tells
load_only seed size Disk input text tells = absurd tells
load_only seed size Foreign input text tells = absurd tells
load_only seed size NotRight input text tells = absurd tells

-- if some of what `load` answers was written, it is some of a summary, from its start
pub load_prefix_so : (seed size : ℕ) (before after : ToldBytes) → WritesPrefix (TellsAnswer (Load seed size)) (Some []) before after → WritesLoadPrefix seed size before after
load_prefix_so seed size before after (text, tells, prefix) = (text, (load_only seed size tells.0 [] text tells.1).1, prefix)

-- if the writing can't have failed, `load` ended as done
pub load_done : (seed size : ℕ) (asked : Option Command) (other : Command) (left before after : ToldBytes) (answer : Answer) (status : Status) (Failed : Type 0) → Some other ≡ asked → asked ≡ Some (Load seed size) → ¬ Failed → IfSome (input_told other left) (λ input. IsAnswerTo other input answer) → Delivers answer status before after Failed → status ≡ Done
load_done seed size asked other left before after answer status Failed other_is asks fine fits (inl (is, appended)) =
    let same : other ≡ Load seed size = cc in
    let P : Command → Type 0 = λ one. IfSome (input_told one left) (λ input. IsAnswerTo one input answer) in
    is ∙ (load_only seed size answer.status [] answer.text.items (subst P same fits).tells).0
load_done seed size asked other left before after answer status Failed other_is asks fine fits (inr (is, failed, prefix)) = absurd (fine failed)

-- a refusal is of an input that was read
pub refusal_read : (command : Command) (left before after : ToldBytes) → Writes (TellsRefusal command) (input_told command left) before after → Writes (TellsRefusal command) left before after
refusal_read Run left before after written = written
refusal_read Check left before after written = written
refusal_read Trace left before after written = written
refusal_read (Load seed size) left before after (text, tells, appended) = absurd tells

-- some of an answer was written, whatever the source had left
pub prefix_read : (command : Command) (left before after : ToldBytes) → WritesPrefix (TellsAnswer command) (input_told command left) before after → WritesPrefix (TellsAnswer command) left before after
prefix_read Run left before after written = written
prefix_read Check left before after written = written
prefix_read Trace left before after written = written
prefix_read (Load seed size) None before after written = tt
prefix_read (Load seed size) (Some input) before after (text, tells, prefix) = (text, (Done, (load_only seed size tells.0 [] text tells.1).1), prefix)

-- what it was answered with is how it ended
pub ended_as : (before after : ToldBytes) (answer : Answer) (status : Status) (Failed : Type 0) → Delivers answer status before after Failed → (status ≡ Done) ⊎ (status ≡ NotRight) → (answer.status ≡ Done) ⊎ (answer.status ≡ NotRight)
ended_as before after answer status Failed (inl (is, appended)) (inl done) = inl (sym is ∙ done)
ended_as before after answer status Failed (inl (is, appended)) (inr wrong) = inr (sym is ∙ wrong)
ended_as before after answer status Failed (inr (is, failed, prefix)) (inl done) = absurd (cc)
ended_as before after answer status Failed (inr (is, failed, prefix)) (inr wrong) = absurd (cc)
