-- What `keep` finds out before it writes, and how it ends, each as one fact. (No public contract cites this.)
use Rattle.std.specs.Prelude.{◌≡◌, ◌≢◌, ◌⊎◌, ⊤, ℕ, ◌+◌, true, false, List, [], ◌++◌, codes, IfSome, Result, Ok, Err}
use Rattle.program_defs.specs.declared.script.Script.{Script}
use Rattle.weave_data.specs.Limits.{most_bytes}
use Rattle.weave_io.specs.Told.{ToldBytes, Appends, AppendsPrefix, IsReadWhole, TakesAtMost, Tells}
use Rattle.weave_io.specs.declared.faults.ReadFault.{ReadFault}
use Rattle.weave_io.specs.declared.faults.ReadFault.TheVariants as fault
use Rattle.weave_report.specs.ReportText.{report_text}
use Rattle.weave_script.specs.CauseTexts.{cause_text}
use Rattle.weave_script.specs.declared.fault.Cause.TheVariants.{TooLong}
use Rattle.weaver_top.specs.Refusals.{refusal_line}
use Rattle.weaver_top.specs.declared.status.Status.{Status}
use Rattle.weaver_top.specs.declared.status.Status.TheVariants.{Done, Read, Refused, Write, Memory, Words, NotRight, Disk, Foreign}
use Rattle.store_journal.specs.Commits.{commit_of}
use Rattle.store_journal.specs.Journal.{IsForeign}
use Rattle.store_journal.specs.declared.kept_commit.Commit.{Commit}
use Rattle.weave_keep.specs.declared.answering.Answer.{Answer}
use Rattle.weave_keep.specs.declared.answering.Unanswered.{Unanswered}
use Rattle.weave_keep.specs.declared.answering.Unanswered.TheVariants as why
use Rattle.weave_keep.specs.KeepEnds.{CanBeKept, KeepsCommits, ReadsCommits, TellsKeepRefusal, TellsKept, added_by}
use Rattle.weave_keep.specs.KeptReports.{can_be_kept, commits_of_script, kept_report}
use Rattle.weave_keep.specs.Unanswered.{unanswered_status}

-- Of the disk: what it said before and says now, the images that a crash now may leave, that it failed, and that it is
-- as before.
pub record DiskFacts : Type 1 where
  pub seen : ToldBytes
  pub now : ToldBytes
  pub images : List ℕ → Type 0
  pub Failed : Type 0
  pub Same : Type 0

-- The script's work was done, and this is its report.
pub record IsReported (disk : DiskFacts) (script : Script) (text : List ℕ) : Type 0 where
  pub recovered : List Commit
  pub read : ReadsCommits disk.seen recovered
  pub report : text ≡ report_text script (kept_report recovered script)
  pub kept : KeepsCommits disk.now disk.images (recovered ++ commits_of_script recovered script)

-- The transactions were kept after the commits recovered, and this is their report; or the disk failed, or memory ran
-- out.
abbrev pub EndsReport : DiskFacts → Script → List Commit → Result Answer Unanswered → Type 0
EndsReport disk script recovered (Ok answer) = (answer.status ≡ Done)
    × (answer.text.items ≡ report_text script (kept_report recovered script))
    × KeepsCommits disk.now disk.images (recovered ++ commits_of_script recovered script)
EndsReport disk script recovered (Err why.Read) = ⊥
EndsReport disk script recovered (Err why.Memory) = ⊤
EndsReport disk script recovered (Err why.Disk) = disk.Failed
EndsReport disk script recovered (Err why.Foreign) = ⊥

-- The file is no journal, and is as before.
pub record IsNoJournal (disk : DiskFacts) : Type 0 where
  pub foreign : IfSome disk.seen (IsForeign commit_of)
  pub unwritten : disk.now ≡ disk.seen

-- the script's work was done, or the disk failed, or memory ran out, or the file is no journal
abbrev pub EndsWork : DiskFacts → Script → Result Answer Unanswered → Type 0
EndsWork disk script (Ok answer) = (answer.status ≡ Done) × IsReported disk script answer.text.items
EndsWork disk script (Err why.Read) = ⊥
EndsWork disk script (Err why.Memory) = ⊤
EndsWork disk script (Err why.Disk) = disk.Failed
EndsWork disk script (Err why.Foreign) = IsNoJournal disk

-- the line for an input that is refused, or memory ran out
abbrev pub AnswersRefusal : ℕ → List ℕ → Result Answer Unanswered → Type 0
AnswersRefusal line cause (Ok answer) = (answer.status ≡ Refused) × (answer.text.items ≡ refusal_line line cause)
AnswersRefusal line cause (Err reason) = reason ≡ why.Memory

-- The work of the script in the input was done, and this is its report.
pub record IsWorkDone (disk : DiskFacts) (left : ToldBytes) (text : List ℕ) : Type 0 where
  pub recovered : List Commit
  pub read : ReadsCommits disk.seen recovered
  pub report : IfSome left (λ input. TellsKept recovered input text)
  pub kept : IfSome left (λ input. KeepsCommits disk.now disk.images (recovered ++ added_by input recovered))

-- The input is refused, and this says why.
pub record IsInputRefused (disk : DiskFacts) (left : ToldBytes) (text : List ℕ) : Type 0 where
  pub says : IfSome left (λ input. TellsKeepRefusal input text)
  pub untouched : disk.Same

-- the same for a script that perhaps can't be kept
abbrev pub AnswersScriptToKeep : DiskFacts → Script → Result Answer Unanswered → Type 0
AnswersScriptToKeep disk script result =
    ((can_be_kept script ≡ true) × EndsWork disk script result)
    ⊎ ((can_be_kept script ≡ false) × disk.Same × AnswersRefusal 0 (codes "unkept") result)

-- what is to be written if reading failed with this fault
abbrev pub AnswersUnread : ReadFault → Result Answer Unanswered → Type 0
AnswersUnread fault.TooLong result = AnswersRefusal 0 (cause_text TooLong) result
AnswersUnread fault.Read result = result ≡ Err why.Read
AnswersUnread fault.Memory result = result ≡ Err why.Memory

-- an input that can't be kept leaves the disk as it is
abbrev pub TouchesOnlyToKeep : DiskFacts → ToldBytes → Type 0
TouchesOnlyToKeep disk left = IfSome left (λ input. ¬ CanBeKept input → disk.Same)

-- there is an answer, or reading failed, or memory ran out, or the disk failed, or the file is no journal
abbrev pub IsPreparedToKeep : DiskFacts → ToldBytes → ToldBytes → Type 0 → Result Answer Unanswered → Type 0
IsPreparedToKeep disk left rest ReadFailed (Ok answer) = IsReadWhole left rest
    × (((answer.status ≡ Done) × Tells rest [] × IsWorkDone disk left answer.text.items)
    ⊎ ((answer.status ≡ Refused) × IsInputRefused disk left answer.text.items))
IsPreparedToKeep disk left rest ReadFailed (Err why.Read) = ReadFailed × TakesAtMost left rest most_bytes × disk.Same
IsPreparedToKeep disk left rest ReadFailed (Err why.Memory) = TouchesOnlyToKeep disk left
IsPreparedToKeep disk left rest ReadFailed (Err why.Disk) = IsReadWhole left rest × IfSome left CanBeKept × disk.Failed
IsPreparedToKeep disk left rest ReadFailed (Err why.Foreign) =
    IsReadWhole left rest × IfSome left CanBeKept × IsNoJournal disk

-- the answer was written, or the writing failed and some of it was written
abbrev pub IsWritten : Answer → Status → ToldBytes → ToldBytes → Type 0 → Type 0
IsWritten answer status before after Failed =
    ((status ≡ answer.status) × Appends before after answer.text.items)
    ⊎ ((status ≡ Write) × Failed × AppendsPrefix before after answer.text.items)

-- so it was, or there was none, and nothing was written
abbrev pub IsDelivered : Result Answer Unanswered → Status → ToldBytes → ToldBytes → Type 0 → Type 0 → Type 0
IsDelivered (Ok answer) status before after Failed NoStall =
    IsWritten answer status before after Failed × (status ≢ Write → NoStall)
IsDelivered (Err reason) status before after Failed NoStall =
    (status ≡ unanswered_status reason) × (after ≡ before)

-- how `keep` ends: what was to be written was found out, and delivered
pub record IsKeepEnd (disk : DiskFacts) (status : Status) (left rest before after : ToldBytes)
    (ReadFailed WriteFailed NoStall : Type 0) : Type 0 where
  pub prepared : Result Answer Unanswered
  pub is_prepared : IsPreparedToKeep disk left rest ReadFailed prepared
  pub within : TakesAtMost left rest (most_bytes + 1)
  pub delivered : IsDelivered prepared status before after WriteFailed NoStall

-- What is known at each status: of what was read, of the work, and of what was written.
abbrev pub EndsWith : DiskFacts → ToldBytes → ToldBytes → ToldBytes → ToldBytes → Type 0 → Type 0 → Type 0 → Status
    → Type 0
EndsWith disk left rest before after ReadFailed WriteFailed NoStall Done =
    IsReadWhole left rest × Tells rest [] × (text : List ℕ) × IsWorkDone disk left text × Appends before after text
    × NoStall
EndsWith disk left rest before after ReadFailed WriteFailed NoStall Refused =
    IsReadWhole left rest × (text : List ℕ) × IsInputRefused disk left text × Appends before after text × NoStall
EndsWith disk left rest before after ReadFailed WriteFailed NoStall Write =
    IsReadWhole left rest × WriteFailed × (text : List ℕ) × (IsWorkDone disk left text ⊎ IsInputRefused disk left text)
    × AppendsPrefix before after text
EndsWith disk left rest before after ReadFailed WriteFailed NoStall Read =
    ReadFailed × TakesAtMost left rest most_bytes × disk.Same × (after ≡ before)
EndsWith disk left rest before after ReadFailed WriteFailed NoStall Memory =
    TouchesOnlyToKeep disk left × (after ≡ before)
EndsWith disk left rest before after ReadFailed WriteFailed NoStall Disk =
    IsReadWhole left rest × IfSome left CanBeKept × disk.Failed × (after ≡ before)
EndsWith disk left rest before after ReadFailed WriteFailed NoStall Foreign =
    IsReadWhole left rest × IfSome left CanBeKept × IsNoJournal disk × (after ≡ before)
EndsWith disk left rest before after ReadFailed WriteFailed NoStall Words = ⊥
EndsWith disk left rest before after ReadFailed WriteFailed NoStall NotRight = ⊥
