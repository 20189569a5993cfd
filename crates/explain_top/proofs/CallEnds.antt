-- What follows from how a call ends. Used by `explain`.
use Rattle.std.proofs.Common.{◌≡◌, ◌≢◌, ◌⊎◌, ◌↔◌, ℕ, List, Option, Some, None, IfSome, inl, inr, refl, sym, ap, subst}
use Rattle.explain_top.specs.CallEnds.{EndsAsked, EndsCommand, EndsExplaining}
use Rattle.explain_top.specs.Explained.{BeginsAsCheck, BeginsAsRefusedRun, CanEnd, Explains, IsAnswered, IsExplanation}
use Rattle.explain_top.specs.declared.command.Command.{Command}
use Rattle.explain_top.specs.declared.command.Command.TheVariants as ways
use Rattle.explain_picture.specs.declared.sheet.Window.{Window}
use Rattle.weave_io.specs.Told.{ToldBytes, Writes, WritesPrefix}
use Rattle.weaver_top.specs.Refusals.{CanBeTaken, check_input, script_input}
use Rattle.weaver_top.specs.declared.status.Status.{Status}
use Rattle.weaver_top.specs.declared.status.Status.TheVariants.{Done, Read, Refused, Write, Memory, Words, NotRight, Disk, Foreign}

-- How a call ends at each status.

at_words : (asked : Option Command) (left before after : ToldBytes) (NothingRead ReadFailed WriteFailed : Type 0) → EndsAsked asked Words left before after NothingRead ReadFailed WriteFailed → (asked ≡ None) × NothingRead × (after ≡ before)
at_words None left before after NothingRead ReadFailed WriteFailed ends = (refl, ends.0, ends.1)
at_words (Some command) left before after NothingRead ReadFailed WriteFailed ends = absurd ends

at_read : (asked : Option Command) (left before after : ToldBytes) (NothingRead ReadFailed WriteFailed : Type 0) → EndsAsked asked Read left before after NothingRead ReadFailed WriteFailed → ReadFailed × (after ≡ before)
at_read None left before after NothingRead ReadFailed WriteFailed ends = absurd ends
at_read (Some command) left before after NothingRead ReadFailed WriteFailed ends = ends

at_memory : (asked : Option Command) (left before after : ToldBytes) (NothingRead ReadFailed WriteFailed : Type 0) → EndsAsked asked Memory left before after NothingRead ReadFailed WriteFailed → after ≡ before
at_memory None left before after NothingRead ReadFailed WriteFailed ends = absurd ends
at_memory (Some command) left before after NothingRead ReadFailed WriteFailed ends = ends

at_write : (asked : Option Command) (left before after : ToldBytes) (NothingRead ReadFailed WriteFailed : Type 0) → EndsAsked asked Write left before after NothingRead ReadFailed WriteFailed → WriteFailed
at_write None left before after NothingRead ReadFailed WriteFailed ends = absurd ends
at_write (Some command) left before after NothingRead ReadFailed WriteFailed ends = ends.0

by_check : (command : Command) → CanEnd command NotRight → command ≡ ways.Check
by_check ways.Check ends = refl
by_check ways.Script (inl is) = absurd (cc)
by_check ways.Script (inr is) = absurd (cc)
by_check (ways.Picture window) (inl is) = absurd (cc)
by_check (ways.Picture window) (inr is) = absurd (cc)

at_not_right : (asked : Option Command) (left before after : ToldBytes) (NothingRead ReadFailed WriteFailed : Type 0) → EndsAsked asked NotRight left before after NothingRead ReadFailed WriteFailed → asked ≡ Some ways.Check
at_not_right None left before after NothingRead ReadFailed WriteFailed ends = absurd ends
at_not_right (Some command) left before after NothingRead ReadFailed WriteFailed ends = ap Some (by_check command ends.0)

at_disk : (asked : Option Command) (left before after : ToldBytes) (NothingRead ReadFailed WriteFailed : Type 0) → EndsAsked asked Disk left before after NothingRead ReadFailed WriteFailed → ⊥
at_disk None left before after NothingRead ReadFailed WriteFailed ends = ends
at_disk (Some command) left before after NothingRead ReadFailed WriteFailed ends = ends

at_foreign : (asked : Option Command) (left before after : ToldBytes) (NothingRead ReadFailed WriteFailed : Type 0) → EndsAsked asked Foreign left before after NothingRead ReadFailed WriteFailed → ⊥
at_foreign None left before after NothingRead ReadFailed WriteFailed ends = ends
at_foreign (Some command) left before after NothingRead ReadFailed WriteFailed ends = ends

no_command : (status : Status) (left before after : ToldBytes) (NothingRead ReadFailed WriteFailed : Type 0) → EndsAsked None status left before after NothingRead ReadFailed WriteFailed → status ≡ Words
no_command Words left before after NothingRead ReadFailed WriteFailed ends = refl
no_command Done left before after NothingRead ReadFailed WriteFailed ends = absurd ends
no_command Read left before after NothingRead ReadFailed WriteFailed ends = absurd ends
no_command Refused left before after NothingRead ReadFailed WriteFailed ends = absurd ends
no_command Write left before after NothingRead ReadFailed WriteFailed ends = absurd ends
no_command Memory left before after NothingRead ReadFailed WriteFailed ends = absurd ends
no_command NotRight left before after NothingRead ReadFailed WriteFailed ends = absurd ends
no_command Disk left before after NothingRead ReadFailed WriteFailed ends = absurd ends
no_command Foreign left before after NothingRead ReadFailed WriteFailed ends = absurd ends

-- what holds of the input alone
of_input : (P : List ℕ → Type 0) (left before after : ToldBytes) → Writes (λ input text. P input) left before after → IfSome left P
of_input P (Some input) before after told = told.1
of_input P None before after told = tt

module _ {asked : Option Command} {status : Status} {left before after : ToldBytes} {NothingRead ReadFailed WriteFailed : Type 0} (end : EndsExplaining asked status left before after NothingRead ReadFailed WriteFailed) where
  -- how a call with this command, and this status, ends
  with_command : (command : Command) (known : Status) → asked ≡ Some command → status ≡ known → EndsCommand command known left before after ReadFailed WriteFailed
  with_command command known is ended =
      let P : Option Command → Type 0 = λ o. EndsAsked o status left before after NothingRead ReadFailed WriteFailed in
      let Q : Status → Type 0 = λ s. EndsCommand command s left before after ReadFailed WriteFailed in
      subst Q ended (subst P is end.ends)

  with_status : (known : Status) → status ≡ known → EndsAsked asked known left before after NothingRead ReadFailed WriteFailed
  with_status known ended = let P : Status → Type 0 = λ s. EndsAsked asked s left before after NothingRead ReadFailed WriteFailed in subst P ended end.ends

  -- what was written with one of the three statuses
  written : (command : Command) → asked ≡ Some command → IsAnswered status → Writes (Explains command status) left before after
  written command is (inl (inl ended)) =
      let P : Status → Type 0 = λ s. Writes (Explains command s) left before after in subst P (sym ended) (with_command command Done is ended).1
  written command is (inl (inr ended)) =
      let P : Status → Type 0 = λ s. Writes (Explains command s) left before after in subst P (sym ended) (with_command command NotRight is ended).1
  written command is (inr ended) =
      let P : Status → Type 0 = λ s. Writes (Explains command s) left before after in subst P (sym ended) (with_command command Refused is ended).1

  -- without a word, the first line is that of `check`
  pub first_line : asked ≡ Some ways.Check → IsAnswered status → Writes (BeginsAsCheck status) left before after
  first_line is answered = written ways.Check is answered

  -- with `script`, an input that is not refused is a valid script
  pub script_is_read : asked ≡ Some ways.Script → status ≡ Done → IfSome left (CanBeTaken script_input)
  script_is_read is ended = of_input (CanBeTaken script_input) left before after (with_command ways.Script Done is ended).1

  -- and the first line for one that is refused is that of `run`
  pub script_is_refused : asked ≡ Some ways.Script → status ≡ Refused → Writes BeginsAsRefusedRun left before after
  script_is_refused is ended = (with_command ways.Script Refused is ended).1

  -- with `picture`, what is drawn is an input that `check` takes
  pub drawn : (window : Window) → asked ≡ Some (ways.Picture window) → status ≡ Done → IfSome left (CanBeTaken check_input)
  drawn window is ended = of_input (CanBeTaken check_input) left before after (with_command (ways.Picture window) Done is ended).1

  -- and the first line for one that is refused is that of `check`
  pub not_drawn : (window : Window) → asked ≡ Some (ways.Picture window) → status ≡ Refused → Writes (BeginsAsCheck Refused) left before after
  not_drawn window is ended = (with_command (ways.Picture window) Refused is ended).1

  -- the words ask for no command exactly at the status for that
  pub words : (status ≡ Words) ↔ (asked ≡ None)
  words =
      let P : Option Command → Type 0 = λ o. EndsAsked o status left before after NothingRead ReadFailed WriteFailed in
      (λ ended. (at_words asked left before after NothingRead ReadFailed WriteFailed (with_status Words ended)).0, λ is. no_command status left before after NothingRead ReadFailed WriteFailed (subst P is end.ends))

  -- only without a word a report is not right
  pub not_right : status ≡ NotRight → asked ≡ Some ways.Check
  not_right ended = at_not_right asked left before after NothingRead ReadFailed WriteFailed (with_status NotRight ended)

  -- a failed source
  pub read : status ≡ Read → ReadFailed
  read ended = (at_read asked left before after NothingRead ReadFailed WriteFailed (with_status Read ended)).0

  -- a failed sink
  pub write : status ≡ Write → WriteFailed
  write ended = at_write asked left before after NothingRead ReadFailed WriteFailed (with_status Write ended)

  -- and what it took then
  pub prefix : (command : Command) → asked ≡ Some command → status ≡ Write → WritesPrefix (IsExplanation command) left before after
  prefix command is ended = (with_command command Write is ended).1

  -- the statuses of `keep` never come
  pub no_others : (status ≢ Disk) × (status ≢ Foreign)
  no_others = (λ ended. at_disk asked left before after NothingRead ReadFailed WriteFailed (with_status Disk ended), λ ended. at_foreign asked left before after NothingRead ReadFailed WriteFailed (with_status Foreign ended))

  -- when nothing is written
  pub nothing_written : (status ≡ Words) ⊎ (status ≡ Read) ⊎ (status ≡ Memory) → after ≡ before
  nothing_written (inl ended) = (at_words asked left before after NothingRead ReadFailed WriteFailed (with_status Words ended)).2
  nothing_written (inr (inl ended)) = (at_read asked left before after NothingRead ReadFailed WriteFailed (with_status Read ended)).1
  nothing_written (inr (inr ended)) = at_memory asked left before after NothingRead ReadFailed WriteFailed (with_status Memory ended)

  -- when nothing is read
  pub nothing_read : status ≡ Words → NothingRead
  nothing_read ended = (at_words asked left before after NothingRead ReadFailed WriteFailed (with_status Words ended)).1
