-- How a call ends, as one fact from which its clauses follow. No public contract cites this.
use Rattle.std.specs.Prelude.{◌≡◌, ◌≢◌, ◌⊎◌, ◌+◌, [], Option, None, Some}
use Rattle.weave_data.specs.Limits.{most_bytes}
use Rattle.weave_io.specs.Told.{ToldBytes, IsReadWhole, KeepsWritten, TakesAtMost, Tells, Writes, WritesPrefix}
use Rattle.explain_top.specs.declared.command.Command.{Command}
use Rattle.explain_top.specs.Explained.{CanEnd, Explains, IsExplanation}
use Rattle.weaver_top.specs.declared.status.Status.{Status}
use Rattle.weaver_top.specs.declared.status.Status.TheVariants.{Done, NotRight, Read, Refused, Write, Memory, Words}

-- `left` is what the source had left, `before` and `after` what the sink had taken; the facts are that the source
-- failed, and that the sink failed or took nothing.

-- the command's text was written with this status
abbrev pub EndsWritten : Command → Status → ToldBytes → ToldBytes → ToldBytes → Type 0
EndsWritten command status left before after =
    CanEnd command status × Writes (Explains command status) left before after

-- how a call with this command ends
abbrev pub EndsCommand : Command → Status → ToldBytes → ToldBytes → ToldBytes → Type 0 → Type 0 → Type 0
EndsCommand command Done left before after ReadFailed WriteFailed = EndsWritten command Done left before after
EndsCommand command NotRight left before after ReadFailed WriteFailed = EndsWritten command NotRight left before after
EndsCommand command Refused left before after ReadFailed WriteFailed = EndsWritten command Refused left before after
EndsCommand command Read left before after ReadFailed WriteFailed = ReadFailed × (after ≡ before)
EndsCommand command Memory left before after ReadFailed WriteFailed = after ≡ before
EndsCommand command Write left before after ReadFailed WriteFailed =
    WriteFailed × WritesPrefix (IsExplanation command) left before after
EndsCommand command status left before after ReadFailed WriteFailed = ⊥

-- how a call ends: the words ask for no command, and nothing is read or written; or with their command
abbrev pub EndsAsked : Option Command → Status → ToldBytes → ToldBytes → ToldBytes → Type 0 → Type 0 → Type 0 → Type 0
EndsAsked None Words left before after NothingRead ReadFailed WriteFailed = NothingRead × (after ≡ before)
EndsAsked None status left before after NothingRead ReadFailed WriteFailed = ⊥
EndsAsked (Some command) status left before after NothingRead ReadFailed WriteFailed =
    EndsCommand command status left before after ReadFailed WriteFailed

-- the same as a record
pub record EndsExplaining (asked : Option Command) (status : Status) (left before after : ToldBytes)
    (NothingRead ReadFailed WriteFailed : Type 0) : Type 0 where
  pub ends : EndsAsked asked status left before after NothingRead ReadFailed WriteFailed

-- what a call leaves of its streams: `left` and `rest` are what the source had and has left, `before` and `after` what
-- the sink had and has taken; the last fact is that it stalled no more often
pub record LeavesStreams (status : Status) (left rest before after : ToldBytes) (SameStalls : Type 0) : Type 0 where
  pub all_is_read : (status ≡ Done) ⊎ (status ≡ NotRight) → Tells rest []
  pub read_first : (status ≡ Refused) ⊎ (status ≡ Write) → IsReadWhole left rest
  pub read_in_time : status ≡ Read → TakesAtMost left rest most_bytes
  pub rest_left : TakesAtMost left rest (most_bytes + 1)
  pub written_stays : KeepsWritten before after
  pub without_stall : status ≢ Write → SameStalls
