-- What is prepared if the input was not read.
-- Used by `prepare_from_input` and `prepare_run`.
use Rattle.std.proofs.Common.{◌≡◌, ◌+◌, [], true, Result, Ok, Err, IfSome, ◌⊎◌, inl, inr, refl, sym, subst}
use Rattle.weave_data.specs.Limits.{most_bytes}
use Rattle.weave_io.specs.declared.faults.ReadFault.{ReadFault}
use Rattle.weave_io.specs.declared.faults.ReadFault.TheVariants as fault
use Rattle.weave_io.specs.Told.{ToldBytes, TakesAtMost, TakesCount, Tells}
use Rattle.weaver_top.specs.declared.answer.Answer.{Answer}
use Rattle.weaver_top.specs.declared.command.Command.{Command}
use Rattle.weaver_top.specs.declared.preparing.PrepareError.{PrepareError}
use Rattle.weaver_top.specs.declared.preparing.PrepareError.TheVariants as no_answer
use Rattle.weaver_top.specs.declared.status.Status.{Status}
use Rattle.weaver_top.specs.declared.status.Status.TheVariants.{Done, Refused, NotRight}
use Rattle.weaver_top.specs.Answers.{IsAnswerTo, can_end}
use Rattle.weaver_top.specs.CallEnds.{AnswersUnread, IsAnswerRead, IsPrepared, Prepares}
use Rattle.weaver_top.specs.Commands.{reads_input}
use Rattle.weaver_top.proofs.Deliveries.{read_told, too_long_told}

module _ (command : Command) (left rest : ToldBytes) (ReadFailed NothingRead : Type 0) (reads : reads_input command ≡ true) where
  -- the answer to an input that is too long
  too_long : (answer : Answer) → TakesCount left rest (most_bytes + 1) → AnswersUnread fault.TooLong (Ok answer) → IsAnswerRead command left rest answer
  too_long answer takes (refused, fits) =
      let Q : Status → Type 0 = λ status. can_end command status ≡ true in
      let P : ToldBytes → Type 0 = λ told. IfSome told (λ input. IsAnswerTo command input answer) in
      record {
        fits = subst P (sym (read_told command left reads)) (too_long_told command left answer takes.0 (λ input long. fits command input reads long));
        ends = subst Q (sym refused) reads;
        to_the_end = λ is_read done. unended refused done;
        read_first = λ is_read. inr takes;
      }
    where
      unended : answer.status ≡ Refused → (answer.status ≡ Done) ⊎ (answer.status ≡ NotRight) → Tells rest []
      unended is (inl done) = absurd (cc)
      unended is (inr wrong) = absurd (cc)

  -- what is prepared for this reason is prepared for the command
  pub answers_unread : (why : ReadFault) (prepared : Result Answer PrepareError) → AnswersUnread why prepared
      → (why ≡ fault.TooLong → TakesCount left rest (most_bytes + 1)) → (why ≡ fault.Read → ReadFailed × TakesAtMost left rest most_bytes)
      → TakesAtMost left rest (most_bytes + 1) → IsPrepared command prepared left rest ReadFailed NothingRead
  answers_unread why prepared answered long failed within = record {
    prepares = at why prepared answered long failed;
    within = within;
    unread = λ none. (absurd (cc));
  }
    where
      at : (why : ReadFault) (prepared : Result Answer PrepareError) → AnswersUnread why prepared
          → (why ≡ fault.TooLong → TakesCount left rest (most_bytes + 1)) → (why ≡ fault.Read → ReadFailed × TakesAtMost left rest most_bytes)
          → Prepares command prepared left rest ReadFailed
      at fault.TooLong (Ok answer) answered long failed = too_long answer (long refl) answered
      at fault.TooLong (Err no_answer.Read) answered long failed = absurd (cc)
      at fault.TooLong (Err no_answer.Memory) answered long failed = tt
      at fault.Read (Ok answer) answered long failed = absurd (cc)
      at fault.Read (Err no_answer.Read) answered long failed = (reads, (failed refl).0, (failed refl).1)
      at fault.Read (Err no_answer.Memory) answered long failed = tt
      at fault.Memory (Ok answer) answered long failed = absurd (cc)
      at fault.Memory (Err no_answer.Read) answered long failed = absurd (cc)
      at fault.Memory (Err no_answer.Memory) answered long failed = tt
