-- What the end of a top call says: each clause of `execute` and `weave` from that one fact.
-- Used by `execute` and `weave`.
use Rattle.std.proofs.Common.{◌≡◌, ◌≢◌, ℕ, ◌+◌, List, [], take, Bool, true, false, IsTrue, Option, None, Some, IfSome, Result, Ok, Err, ◌⊎◌, ◌↔◌, inl, inr, refl, sym, ap, ◌∙◌, subst}
use Rattle.std.proofs.lemmas.Bool.{both_ways}
use Rattle.std.proofs.lemmas.List.{append-nil}
use Rattle.weave_data.specs.Limits.{most_bytes}
use Rattle.weave_io.specs.Told.{ToldBytes, IsReadWhole, KeepsWritten, TakesAtMost, Tells, Writes, WritesPrefix}
use Rattle.weaver_top.specs.declared.answer.Answer.{Answer}
use Rattle.weaver_top.specs.declared.command.Command.{Command}
use Rattle.weaver_top.specs.declared.command.Command.TheVariants.{Run, Check, Trace, Load}
use Rattle.weaver_top.specs.declared.preparing.PrepareError.{PrepareError}
use Rattle.weaver_top.specs.declared.preparing.PrepareError.TheVariants as no_answer
use Rattle.weaver_top.specs.declared.status.Status.{Status}
use Rattle.weaver_top.specs.declared.status.Status.TheVariants.{Done, Read, Refused, Write, Memory, Words, NotRight, Disk, Foreign}
use Rattle.weaver_top.specs.Acceptance.{IsAcceptedByCheck}
use Rattle.weaver_top.specs.Answers.{Delivers, IsAnswerTo, TellsAnswer, TellsAt, TellsRun, TellsTraceAccepted, can_end, input_told}
use Rattle.weaver_top.specs.CallEnds.{EndsDelivery, IsAnswerRead, IsCallEnd, Prepares}
use Rattle.weaver_top.specs.Commands.{reads_input}
use Rattle.weaver_top.specs.Headlines.{TellsRightReport, TellsTrace, TellsYes}
use Rattle.weaver_top.specs.Loads.{WritesLoad, WritesLoadPrefix}
use Rattle.weaver_top.specs.Refusals.{CanBeTaken, TellsRefusal, check_input, script_input}
use Rattle.weaver_top.specs.RunLogs.{TellsByLogs}
use Rattle.weaver_top.specs.VerdictLines.{TellsNo}
use Rattle.weaver_top.proofs.Deliveries.{ended_as, ended_so, load_done, load_prefix_so, not_right, not_write, prefix_read, prefix_so, reads_to_refuse, refusal_read, takes_none, writes_less}

-- a text is written, or some of it, if a call ends with this status
abbrev is_written : Status → Bool
is_written Done = true
is_written NotRight = true
is_written Refused = true
is_written Write = true
is_written Read = false
is_written Memory = false
is_written Words = false
is_written Disk = false
is_written Foreign = false

-- no answer has a status at which nothing is written
no_such_answer : (command : Command) (status : Status) → is_written status ≡ false → IsTrue (can_end command status) → ⊥
no_such_answer command Done un ends = absurd (cc)
no_such_answer command NotRight un ends = absurd (cc)
no_such_answer command Refused un ends = absurd (cc)
no_such_answer command Write un ends = absurd (cc)
no_such_answer Run Read un ends = cc
no_such_answer Check Read un ends = cc
no_such_answer Trace Read un ends = cc
no_such_answer (Load seed size) Read un ends = cc
no_such_answer Run Memory un ends = cc
no_such_answer Check Memory un ends = cc
no_such_answer Trace Memory un ends = cc
no_such_answer (Load seed size) Memory un ends = cc
no_such_answer Run Words un ends = cc
no_such_answer Check Words un ends = cc
no_such_answer Trace Words un ends = cc
no_such_answer (Load seed size) Words un ends = cc
no_such_answer Run Disk un ends = cc
no_such_answer Check Disk un ends = cc
no_such_answer Trace Disk un ends = cc
no_such_answer (Load seed size) Disk un ends = cc
no_such_answer Run Foreign un ends = cc
no_such_answer Check Foreign un ends = cc
no_such_answer Trace Foreign un ends = cc
no_such_answer (Load seed size) Foreign un ends = cc

-- if it is known of a value that is there, so is what follows from it
some_more : {A : Type 0} {P Q : A → Type 0} (o : Option A) → IfSome o P → ((a : A) → P a → Q a) → IfSome o Q
some_more None holds more = tt
some_more (Some a) holds more = more a holds

some_all : {A : Type 0} {Q : A → Type 0} (o : Option A) → ((a : A) → Q a) → IfSome o Q
some_all None all = tt
some_all (Some a) all = all a

-- nothing was put at the end of what was written
keeps_none : (before : ToldBytes) → KeepsWritten before before
keeps_none None = ([], refl)
keeps_none (Some bytes) = ([], ap Some (sym (append-nil bytes)))

-- an input that can be taken is not refused
script_taken : (status : Status) (input text : List ℕ) → TellsAt Run status input text → CanBeTaken script_input input → status ≡ Done
script_taken Done input text tells can = refl
script_taken Refused input text tells can = absurd (tells.not_taken can)
script_taken NotRight input text tells can = absurd tells
script_taken Read input text tells can = absurd tells
script_taken Write input text tells can = absurd tells
script_taken Memory input text tells can = absurd tells
script_taken Words input text tells can = absurd tells
script_taken Disk input text tells can = absurd tells
script_taken Foreign input text tells can = absurd tells

trace_taken : (status : Status) (input text : List ℕ) → TellsAt Trace status input text → CanBeTaken script_input input → status ≡ Done
trace_taken Done input text tells can = refl
trace_taken Refused input text tells can = absurd (tells.not_taken can)
trace_taken NotRight input text tells can = absurd tells
trace_taken Read input text tells can = absurd tells
trace_taken Write input text tells can = absurd tells
trace_taken Memory input text tells can = absurd tells
trace_taken Words input text tells can = absurd tells
trace_taken Disk input text tells can = absurd tells
trace_taken Foreign input text tells can = absurd tells

check_taken : (status : Status) (input text : List ℕ) → TellsAt Check status input text → CanBeTaken check_input input → (status ≡ Done) ⊎ (status ≡ NotRight)
check_taken Done input text tells can = inl refl
check_taken NotRight input text tells can = inr refl
check_taken Refused input text tells can = absurd (tells.not_taken can)
check_taken Read input text tells can = absurd tells
check_taken Write input text tells can = absurd tells
check_taken Memory input text tells can = absurd tells
check_taken Words input text tells can = absurd tells
check_taken Disk input text tells can = absurd tells
check_taken Foreign input text tells can = absurd tells

module _ {asked : Option Command} {status : Status} {left rest before after : ToldBytes} {ReadFailed NothingRead WriteFailed SinkStalled NoStall : Type 0} (end : IsCallEnd asked status left rest before after ReadFailed NothingRead WriteFailed SinkStalled NoStall) where
  -- The cases

  -- an answer was delivered, if the call ended with a status at which a text is written
  written : (command : Command) → asked ≡ Some command → is_written status ≡ true
      → (answer : Answer) × IsAnswerRead command left rest answer × Delivers answer status before after (WriteFailed ⊎ SinkStalled) × (status ≢ Write → NoStall)
  written command asks is = let out = end.with_command command asks in at out.prepared out.is_prepared.prepares out.delivered
    where
      at : (prepared : Result Answer PrepareError) → Prepares command prepared left rest ReadFailed → EndsDelivery prepared status before after WriteFailed SinkStalled NoStall
          → (answer : Answer) × IsAnswerRead command left rest answer × Delivers answer status before after (WriteFailed ⊎ SinkStalled) × (status ≢ Write → NoStall)
      at (Ok answer) read (delivered, whole) = (answer, read, delivered, whole)
      at (Err no_answer.Read) read (same, untouched) = absurd (both_ways (is_written status) (ap is_written same) is)
      at (Err no_answer.Memory) read (same, untouched) = absurd (both_ways (is_written status) (ap is_written same) is)

  -- else there was none, and nothing was written; if the source failed, its failures are counted
  unwritten : (command : Command) → asked ≡ Some command → is_written status ≡ false
      → (after ≡ before) × (((status ≡ Read) × ReadFailed × TakesAtMost left rest most_bytes) ⊎ (status ≡ Memory))
  unwritten command asks not = let out = end.with_command command asks in at out.prepared out.is_prepared.prepares out.delivered
    where
      at : (prepared : Result Answer PrepareError) → Prepares command prepared left rest ReadFailed → EndsDelivery prepared status before after WriteFailed SinkStalled NoStall
          → (after ≡ before) × (((status ≡ Read) × ReadFailed × TakesAtMost left rest most_bytes) ⊎ (status ≡ Memory))
      at (Ok answer) read (inl (same, appended), whole) = absurd (no_such_answer command answer.status (ap is_written (sym same) ∙ not) read.ends)
      at (Ok answer) read (inr (is, failed, prefix), whole) = absurd (both_ways (is_written status) not (ap is_written is))
      at (Err no_answer.Read) (reads, misread, takes) (same, untouched) = (untouched, inl (same, misread, takes))
      at (Err no_answer.Memory) read (same, untouched) = (untouched, inr same)

  -- the words asked for a command, if the call didn't end as one without
  asks_some : (P : Type 0) → (status ≡ Words → ⊥) → ((command : Command) → asked ≡ Some command → P) → P
  asks_some P other holds = at asked refl
    where
      at : (o : Option Command) → asked ≡ o → P
      at None none = absurd (other (end.no_command none).0)
      at (Some command) asks = holds command asks

  -- the text that the command has to write when it ends so was written
  at_end : (command : Command) (one : Status) → (one ≡ Write → ⊥) → is_written one ≡ true → asked ≡ Some command → status ≡ one → Writes (TellsAt command one) (input_told command left) before after
  at_end command one whole writes asks is =
      let wrote = written command asks (ap is_written is ∙ writes) in
      ended_so command one asked command left before after wrote.0 status (WriteFailed ⊎ SinkStalled) whole (sym asks) asks is wrote.1.fits wrote.2

  -- nothing failed, so the command ended with an answer's status, or out of memory
  ends_well : (command : Command) → asked ≡ Some command → ¬ ReadFailed → ¬ WriteFailed → ¬ SinkStalled
      → ((answer : Answer) × (status ≡ answer.status) × IfSome (input_told command left) (λ input. IsAnswerTo command input answer)) ⊎ (status ≡ Memory)
  ends_well command asks read failed stalled = let out = end.with_command command asks in at out.prepared out.is_prepared.prepares out.delivered
    where
      at : (prepared : Result Answer PrepareError) → Prepares command prepared left rest ReadFailed → EndsDelivery prepared status before after WriteFailed SinkStalled NoStall
          → ((answer : Answer) × (status ≡ answer.status) × IfSome (input_told command left) (λ input. IsAnswerTo command input answer)) ⊎ (status ≡ Memory)
      at (Ok answer) is_read (inl (same, appended), whole) = inl (answer, same, is_read.fits)
      at (Ok answer) is_read (inr (is, inl fault, prefix), whole) = absurd (failed fault)
      at (Ok answer) is_read (inr (is, inr stall, prefix), whole) = absurd (stalled stall)
      at (Err no_answer.Read) (reads, misread, takes) (same, untouched) = absurd (read misread)
      at (Err no_answer.Memory) is_read (same, untouched) = inr same

  -- The headlines

  -- `run` ended as done: a right report was written
  pub right_report : asked ≡ Some Run → status ≡ Done → Writes TellsRightReport left before after
  right_report asks is = writes_less TellsRun TellsRightReport (λ input text tells. tells.right_report) left before after (at_end Run Done (λ wrong. cc) refl asks is)

  -- so did `trace`: the report of its steps was written
  pub traced : asked ≡ Some Trace → status ≡ Done → Writes TellsTrace left before after
  traced asks is = writes_less TellsTraceAccepted TellsTrace (λ input text tells. tells.traced) left before after (at_end Trace Done (λ wrong. cc) refl asks is)

  -- so did `check`: `yes` was written
  pub yes : asked ≡ Some Check → status ≡ Done → Writes TellsYes left before after
  yes asks is = at_end Check Done (λ wrong. cc) refl asks is

  -- the report is not right: the command is `check`, and `no` was written
  pub no : status ≡ NotRight → (asked ≡ Some Check) × Writes TellsNo left before after
  no is = asks_some ((asked ≡ Some Check) × Writes TellsNo left before after) (λ words. cc) (λ command asks.
      let wrote = written command asks (ap is_written is) in
      not_right asked command left before after wrote.0 status (WriteFailed ⊎ SinkStalled) (sym asks) is wrote.1.ends wrote.1.fits wrote.2)

  -- `load` ended as done: its summary was written
  pub loaded : (seed size : ℕ) → asked ≡ Some (Load seed size) → status ≡ Done → WritesLoad seed size before after
  loaded seed size asks is = at_end (Load seed size) Done (λ wrong. cc) refl asks is

  -- a command that reads an input and judged it or did its work has read it to the end
  pub all_is_read : (command : Command) → asked ≡ Some command → IsTrue (reads_input command) → (status ≡ Done) ⊎ (status ≡ NotRight) → Tells rest []
  all_is_read command asks reads is =
      let wrote = written command asks (either is) in
      wrote.1.to_the_end reads (ended_as before after wrote.0 status (WriteFailed ⊎ SinkStalled) wrote.2 is)
    where
      either : (status ≡ Done) ⊎ (status ≡ NotRight) → is_written status ≡ true
      either (inl is) = ap is_written is
      either (inr is) = ap is_written is

  -- How `run` comes by its report, and what `check` says of it

  -- `run` wrote the report of the logs that it left
  pub by_logs : asked ≡ Some Run → status ≡ Done → Writes TellsByLogs left before after
  by_logs asks is = writes_less TellsRun TellsByLogs (λ input text tells. tells.by_logs) left before after (at_end Run Done (λ wrong. cc) refl asks is)

  -- `check` accepts what `run` wrote
  pub accepted_by_check : asked ≡ Some Run → status ≡ Done → Writes IsAcceptedByCheck left before after
  accepted_by_check asks is = writes_less TellsRun IsAcceptedByCheck (λ input text tells. tells.accepted_by_check) left before after (at_end Run Done (λ wrong. cc) refl asks is)

  -- and what `trace` wrote
  pub trace_accepted : asked ≡ Some Trace → status ≡ Done → Writes IsAcceptedByCheck left before after
  trace_accepted asks is = writes_less TellsTraceAccepted IsAcceptedByCheck (λ input text tells. tells.accepted_by_check) left before after (at_end Trace Done (λ wrong. cc) refl asks is)

  -- When each other status comes

  -- the words ask for no command exactly if the call says so
  pub words : (status ≡ Words) ↔ (asked ≡ None)
  words = (λ is. at asked refl is, λ none. (end.no_command none).0)
    where
      at : (o : Option Command) → asked ≡ o → status ≡ Words → asked ≡ None
      at None none is = none
      at (Some command) asks is = elim (unwritten command asks (ap is_written is)).1 [
        | inl (is_read, misread, takes) ↦ absurd (cc)
        | inr memory ↦ absurd (cc)
      ]

  -- the source failed, and not too much was taken of it
  pub read : status ≡ Read → ReadFailed × TakesAtMost left rest most_bytes
  read is = asks_some (ReadFailed × TakesAtMost left rest most_bytes) (λ words. cc) (λ command asks. elim (unwritten command asks (ap is_written is)).1 [
    | inl (is_read, misread, takes) ↦ (misread, takes)
    | inr memory ↦ absurd (cc)
  ])

  -- the input was refused: its first fault was written
  pub refused : (command : Command) → asked ≡ Some command → status ≡ Refused → Writes (TellsRefusal command) left before after
  refused command asks is = refusal_read command left before after (at_end command Refused (λ wrong. cc) refl asks is)

  -- only a command that reads an input refuses one
  pub input_refused : (command : Command) → asked ≡ Some command → status ≡ Refused → IsTrue (reads_input command)
  input_refused command asks is =
      let wrote = written command asks (ap is_written is) in
      reads_to_refuse asked command command left before after wrote.0 status (WriteFailed ⊎ SinkStalled) (sym asks) asks is wrote.1.fits wrote.1.ends wrote.2

  -- the sink failed or took nothing
  pub write : status ≡ Write → WriteFailed ⊎ SinkStalled
  write is = asks_some (WriteFailed ⊎ SinkStalled) (λ words. cc) (λ command asks.
      let wrote = written command asks (ap is_written is) in
      at command wrote.0 wrote.1 wrote.2)
    where
      at : (command : Command) (answer : Answer) → IsAnswerRead command left rest answer → Delivers answer status before after (WriteFailed ⊎ SinkStalled) → WriteFailed ⊎ SinkStalled
      at command answer read (inl (same, appended)) = absurd (not_write command answer.status read.ends (sym same ∙ is))
      at command answer read (inr (failed_is, failed, prefix)) = failed

  -- some of an answer was written, from its start
  pub prefix : (command : Command) → asked ≡ Some command → status ≡ Write → WritesPrefix (TellsAnswer command) left before after
  prefix command asks is =
      let wrote = written command asks (ap is_written is) in
      prefix_read command left before after (prefix_so asked command command left before after wrote.0 status (WriteFailed ⊎ SinkStalled) (sym asks) asks is wrote.1.fits wrote.1.ends wrote.2)

  -- some of a summary was written, from its start
  pub load_prefix : (seed size : ℕ) → asked ≡ Some (Load seed size) → status ≡ Write → WritesLoadPrefix seed size before after
  load_prefix seed size asks is =
      let wrote = written (Load seed size) asks (ap is_written is) in
      load_prefix_so seed size before after (prefix_so asked (Load seed size) (Load seed size) left before after wrote.0 status (WriteFailed ⊎ SinkStalled) (sym asks) asks is wrote.1.fits wrote.1.ends wrote.2)

  -- a call that writes nothing ended without a command, with the source's failure, or out of memory
  is_no_other : (one : Status) → is_written one ≡ false → (one ≡ Words → ⊥) → (one ≡ Read → ⊥) → (one ≡ Memory → ⊥) → status ≡ one → ⊥
  is_no_other one not no_words no_read no_memory is = at asked refl
    where
      at : (o : Option Command) → asked ≡ o → ⊥
      at None none = no_words (sym is ∙ (end.no_command none).0)
      at (Some command) asks = elim (unwritten command asks (ap is_written is ∙ not)).1 [
        | inl (is_read, misread, takes) ↦ no_read (sym is ∙ is_read)
        | inr memory ↦ no_memory (sym is ∙ memory)
      ]

  -- so it never ended as only `keep` does
  pub no_others : (status ≢ Disk) × (status ≢ Foreign)
  no_others = (is_no_other Disk refl (λ same. cc) (λ same. cc) (λ same. cc), is_no_other Foreign refl (λ same. cc) (λ same. cc) (λ same. cc))

  -- Reading comes before writing, and a stall ends the writing

  -- what was read before something was written was read whole
  pub read_first : (command : Command) → asked ≡ Some command → IsTrue (reads_input command) → (status ≡ Refused) ⊎ (status ≡ Write) → IsReadWhole left rest
  read_first command asks reads is = (written command asks (either is)).1.read_first reads
    where
      either : (status ≡ Refused) ⊎ (status ≡ Write) → is_written status ≡ true
      either (inl is) = ap is_written is
      either (inr is) = ap is_written is

  -- if the text was written whole, the sink never stalled
  pub without_stall : (status ≡ Done) ⊎ (status ≡ NotRight) ⊎ (status ≡ Refused) → NoStall
  without_stall (inl is) = asks_some NoStall (λ words. cc) (λ command asks. (written command asks (ap is_written is)).3 (λ failed. cc))
  without_stall (inr (inl is)) = asks_some NoStall (λ words. cc) (λ command asks. (written command asks (ap is_written is)).3 (λ failed. cc))
  without_stall (inr (inr is)) = asks_some NoStall (λ words. cc) (λ command asks. (written command asks (ap is_written is)).3 (λ failed. cc))

  -- When nothing is written, and nothing read

  -- nothing was written
  pub nothing_written : (status ≡ Words) ⊎ (status ≡ Read) ⊎ (status ≡ Memory) → after ≡ before
  nothing_written is = at asked refl (unwritten_at is)
    where
      unwritten_at : (status ≡ Words) ⊎ (status ≡ Read) ⊎ (status ≡ Memory) → is_written status ≡ false
      unwritten_at (inl is) = ap is_written is
      unwritten_at (inr (inl is)) = ap is_written is
      unwritten_at (inr (inr is)) = ap is_written is

      at : (o : Option Command) → asked ≡ o → is_written status ≡ false → after ≡ before
      at None none not = (end.no_command none).3
      at (Some command) asks not = (unwritten command asks not).0

  -- without a command nothing was read
  pub nothing_read : status ≡ Words → NothingRead
  nothing_read is = (end.no_command (words.0 is)).1

  -- nor by `load`
  pub load_reads_nothing : (seed size : ℕ) → asked ≡ Some (Load seed size) → NothingRead
  load_reads_nothing seed size asks = (end.with_command (Load seed size) asks).is_prepared.unread refl

  -- no more was taken of the source than an input may have, and one byte
  pub rest_left : TakesAtMost left rest (most_bytes + 1)
  rest_left = at asked refl
    where
      at : (o : Option Command) → asked ≡ o → TakesAtMost left rest (most_bytes + 1)
      at None none = subst (λ (one : ToldBytes). TakesAtMost left one (most_bytes + 1)) (sym (end.no_command none).2) (takes_none left (most_bytes + 1))
      at (Some command) asks = (end.with_command command asks).is_prepared.within

  -- what was written before is still in front
  pub written_stays : KeepsWritten before after
  written_stays = at asked refl
    where
      same : after ≡ before → KeepsWritten before after
      same untouched = subst (λ (one : ToldBytes). KeepsWritten before one) (sym untouched) (keeps_none before)

      finished : (prepared : Result Answer PrepareError) → EndsDelivery prepared status before after WriteFailed SinkStalled NoStall → KeepsWritten before after
      finished (Ok answer) (inl (is, appended), whole) = (answer.text.items, appended)
      finished (Ok answer) (inr (is, failed, (count, appended)), whole) = (take count answer.text.items, appended)
      finished (Err no_answer.Read) (is, untouched) = same untouched
      finished (Err no_answer.Memory) (is, untouched) = same untouched

      at : (o : Option Command) → asked ≡ o → KeepsWritten before after
      at None none = same (end.no_command none).3
      at (Some command) asks = let out = end.with_command command asks in finished out.prepared out.delivered

  -- An input that a command takes gets its answer

  -- `run` does its work on each script that it can take, unless something fails or memory runs out
  pub all_run : asked ≡ Some Run → ¬ ReadFailed → ¬ WriteFailed → ¬ SinkStalled → IfSome left (λ input. CanBeTaken script_input input → (status ≡ Done) ⊎ (status ≡ Memory))
  all_run asks read failed stalled = elim (ends_well Run asks read failed stalled) [
    | inl (answer, is, fits) ↦ some_more left fits (λ input fits can. inl (is ∙ script_taken answer.status input answer.text.items fits.tells can))
    | inr memory ↦ some_all left (λ input can. inr memory)
  ]

  -- `check` judges each report that it can take
  pub all_judged : asked ≡ Some Check → ¬ ReadFailed → ¬ WriteFailed → ¬ SinkStalled
      → IfSome left (λ input. CanBeTaken check_input input → ((status ≡ Done) ⊎ (status ≡ NotRight)) ⊎ (status ≡ Memory))
  all_judged asks read failed stalled = elim (ends_well Check asks read failed stalled) [
    | inl (answer, is, fits) ↦ some_more left fits (λ input fits can. inl (as_answered answer is (check_taken answer.status input answer.text.items fits.tells can)))
    | inr memory ↦ some_all left (λ input can. inr memory)
  ]
    where
      as_answered : (answer : Answer) → status ≡ answer.status → (answer.status ≡ Done) ⊎ (answer.status ≡ NotRight) → (status ≡ Done) ⊎ (status ≡ NotRight)
      as_answered answer is (inl done) = inl (is ∙ done)
      as_answered answer is (inr wrong) = inr (is ∙ wrong)

  -- `trace` does the steps of each script that it can take
  pub all_traced : asked ≡ Some Trace → ¬ ReadFailed → ¬ WriteFailed → ¬ SinkStalled → IfSome left (λ input. CanBeTaken script_input input → (status ≡ Done) ⊎ (status ≡ Memory))
  all_traced asks read failed stalled = elim (ends_well Trace asks read failed stalled) [
    | inl (answer, is, fits) ↦ some_more left fits (λ input fits can. inl (is ∙ trace_taken answer.status input answer.text.items fits.tells can))
    | inr memory ↦ some_all left (λ input can. inr memory)
  ]

  -- `load` does its work, unless writing fails or memory runs out
  pub all_loaded : (seed size : ℕ) → asked ≡ Some (Load seed size) → ¬ WriteFailed → ¬ SinkStalled → (status ≡ Done) ⊎ (status ≡ Memory)
  all_loaded seed size asks failed stalled = let out = end.with_command (Load seed size) asks in at out.prepared out.is_prepared.prepares out.delivered
    where
      fine : WriteFailed ⊎ SinkStalled → ⊥
      fine (inl fault) = failed fault
      fine (inr stall) = stalled stall

      at : (prepared : Result Answer PrepareError) → Prepares (Load seed size) prepared left rest ReadFailed → EndsDelivery prepared status before after WriteFailed SinkStalled NoStall → (status ≡ Done) ⊎ (status ≡ Memory)
      at (Ok answer) read (delivered, whole) = inl (load_done seed size asked (Load seed size) left before after answer status (WriteFailed ⊎ SinkStalled) (sym asks) asks fine read.fits delivered)
      at (Err no_answer.Read) (reads, misread, takes) (is, untouched) = absurd (cc)
      at (Err no_answer.Memory) read (is, untouched) = inr is
