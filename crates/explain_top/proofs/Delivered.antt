-- What was prepared for an input, and its delivery. Used by `prepared`, `explain_by` and `explain_asked`.
use Rattle.std.proofs.Common.{◌≡◌, ◌⊎◌, ℕ, ◌+◌, ◌<◌, List, length, Option, Some, None, IfSome, inl, inr, refl, sym, subst, arith}
use Rattle.explain_top.specs.CallEnds.{EndsAsked, EndsCommand, EndsWritten, EndsExplaining}
use Rattle.explain_top.specs.Explained.{CanEnd, Explains, IsAnswered, IsExplanation}
use Rattle.explain_top.specs.declared.command.Command.{Command}
use Rattle.explain_top.specs.declared.command.Command.TheVariants as ways
use Rattle.weave_io.specs.Told.{ToldBytes, Appends, AppendsPrefix, Tells, TakesCount, Writes, WritesPrefix}
use Rattle.weaver_top.specs.declared.status.Status.{Status}
use Rattle.weaver_top.specs.declared.status.Status.TheVariants.{Done, NotRight, Read, Refused, Write, Memory, Words}

-- what holds of the bytes that were read holds of those that are known
pub of_bytes : (P : List ℕ → Type 0) (left : ToldBytes) (bytes : List ℕ) → Tells left bytes → P bytes → IfSome left P
of_bytes P (Some told) bytes is holds = subst P (sym is) holds
of_bytes P None bytes is holds = tt

-- what holds of each input that is too long holds of one of which more was taken than an input may have
pub of_long : (P : List ℕ → Type 0) (left after : ToldBytes) → TakesCount left after (4194304 + 1) → ((input : List ℕ) → 4194304 < length input → P input) → IfSome left P
of_long P (Some told) after takes holds = let many = takes.0 in holds told (omega (arith, many))
of_long P None after takes holds = tt

-- a command that can end so can end so if it is `check`
pub answered : (command : Command) (status : Status) → CanEnd command status → IsAnswered status
answered ways.Check status ends = ends
answered ways.Script status (inl is) = inl (inl is)
answered ways.Script status (inr is) = inr is
answered (ways.Picture window) status (inl is) = inl (inl is)
answered (ways.Picture window) status (inr is) = inr is

-- a text that was written with one of the three statuses
by_status : (command : Command) (status : Status) (left before after : ToldBytes) (ReadFailed WriteFailed : Type 0) → IsAnswered status → EndsWritten command status left before after → EndsCommand command status left before after ReadFailed WriteFailed
by_status command status left before after ReadFailed WriteFailed (inl (inl is)) ends =
    let P : Status → Type 0 = λ s. EndsCommand command s left before after ReadFailed WriteFailed in
    let Q : Status → Type 0 = λ s. EndsWritten command s left before after in
    let done : P Done = subst Q is ends in subst P (sym is) done
by_status command status left before after ReadFailed WriteFailed (inl (inr is)) ends =
    let P : Status → Type 0 = λ s. EndsCommand command s left before after ReadFailed WriteFailed in
    let Q : Status → Type 0 = λ s. EndsWritten command s left before after in
    let wrong : P NotRight = subst Q is ends in subst P (sym is) wrong
by_status command status left before after ReadFailed WriteFailed (inr is) ends =
    let P : Status → Type 0 = λ s. EndsCommand command s left before after ReadFailed WriteFailed in
    let Q : Status → Type 0 = λ s. EndsWritten command s left before after in
    let refused : P Refused = subst Q is ends in subst P (sym is) refused

-- what holds of the input and a text, once that is written, or some of it
whole_written : (P : List ℕ → List ℕ → Type 0) (left before after : ToldBytes) (text : List ℕ) → IfSome left (λ input. P input text) → Appends before after text → Writes P left before after
whole_written P (Some input) before after text holds appends = (text, holds, appends)
whole_written P None before after text holds appends = tt

some_written : (command : Command) (status : Status) (left before after : ToldBytes) (text : List ℕ) → IfSome left (λ input. Explains command status input text) → AppendsPrefix before after text → WritesPrefix (IsExplanation command) left before after
some_written command status (Some input) before after text explains appends = (text, (status, explains), appends)
some_written command status None before after text explains appends = tt

-- an answer's text was written with its status, or the sink failed and some of it was
pub delivered : (command : Command) (status result : Status) (left before after : ToldBytes) (text : List ℕ) (ReadFailed WriteFailed : Type 0) → CanEnd command status → IfSome left (λ input. Explains command status input text) → ((result ≡ status) × Appends before after text) ⊎ ((result ≡ Write) × WriteFailed × AppendsPrefix before after text) → EndsCommand command result left before after ReadFailed WriteFailed
delivered command status result left before after text ReadFailed WriteFailed ends explains (inl (is, appends)) =
    let P : Status → Type 0 = λ s. EndsCommand command s left before after ReadFailed WriteFailed in
    subst P (sym is) (by_status command status left before after ReadFailed WriteFailed (answered command status ends) (ends, whole_written (λ input text. Explains command status input text) left before after text explains appends))
delivered command status result left before after text ReadFailed WriteFailed ends explains (inr (is, failure, prefix)) =
    let P : Status → Type 0 = λ s. EndsCommand command s left before after ReadFailed WriteFailed in
    let written : P Write = (failure, some_written command status left before after text explains prefix) in
    subst P (sym is) written

-- there was no answer, and nothing was written
pub unanswered : (command : Command) (result : Status) (left before : ToldBytes) (ReadFailed WriteFailed : Type 0) → ((result ≡ Read) × ReadFailed) ⊎ (result ≡ Memory) → EndsCommand command result left before before ReadFailed WriteFailed
unanswered command result left before ReadFailed WriteFailed (inl read) =
    let P : Status → Type 0 = λ s. EndsCommand command s left before before ReadFailed WriteFailed in
    let failed : P Read = (read.1, refl) in subst P (sym read.0) failed
unanswered command result left before ReadFailed WriteFailed (inr is) =
    let P : Status → Type 0 = λ s. EndsCommand command s left before before ReadFailed WriteFailed in
    let empty : P Memory = refl in subst P (sym is) empty

-- a call whose words ask for this command ends as it does
pub by_command : (asked : Option Command) (command : Command) (status : Status) (left before after : ToldBytes) (NothingRead ReadFailed WriteFailed : Type 0) → asked ≡ Some command → EndsCommand command status left before after ReadFailed WriteFailed → EndsExplaining asked status left before after NothingRead ReadFailed WriteFailed
by_command asked command status left before after NothingRead ReadFailed WriteFailed is ends =
    let P : Option Command → Type 0 = λ o. EndsAsked o status left before after NothingRead ReadFailed WriteFailed in
    record { ends = subst P (sym is) ends }

-- and one whose words ask for none does nothing
pub by_none : (asked : Option Command) (left before : ToldBytes) (NothingRead ReadFailed WriteFailed : Type 0) → asked ≡ None → NothingRead → EndsExplaining asked Words left before before NothingRead ReadFailed WriteFailed
by_none asked left before NothingRead ReadFailed WriteFailed is unread =
    let P : Option Command → Type 0 = λ o. EndsAsked o Words left before before NothingRead ReadFailed WriteFailed in
    let none : P None = (unread, refl) in record { ends = subst P (sym is) none }
