-- What the end of `keep` says: each clause from that one fact.
use Rattle.std.proofs.Common.{◌≡◌, ◌≢◌, ◌⊎◌, inl, inr, ℕ, List, [], ◌++◌, take, None, Some, IfSome, Result, Ok, Err, refl, sym, ap, ◌∙◌, subst}
use Rattle.std.proofs.lemmas.Bool.{both_ways}
use Rattle.std.proofs.lemmas.List.{append-nil}
use Rattle.weave_data.specs.Limits.{most_bytes}
use Rattle.weave_io.specs.Told.{ToldBytes, Appends, AppendsPrefix, IsReadWhole, KeepsWritten, TakesAtMost, Tells, Writes, WritesPrefix}
use Rattle.weave_script.specs.ScriptLines.{IsTextOf}
use Rattle.program_defs.specs.declared.script.Script.{Script}
use Rattle.weaver_top.specs.declared.status.Status.{Status}
use Rattle.weaver_top.specs.declared.status.Status.TheVariants.{Done, Read, Refused, Write, Memory, Words, NotRight, Disk, Foreign}
use Rattle.store_journal.specs.Commits.{commit_of}
use Rattle.store_journal.specs.Journal.{IsForeign}
use Rattle.store_journal.specs.declared.kept_commit.Commit.{Commit}
use Rattle.weave_keep.specs.declared.answering.Answer.{Answer}
use Rattle.weave_keep.specs.declared.answering.Unanswered.{Unanswered}
use Rattle.weave_keep.specs.declared.answering.Unanswered.TheVariants as why
use Rattle.weave_keep.specs.KeepEnds.{CanBeKept, KeepsCommits, ReadsCommits, TellsKeepRefusal, TellsKept, added_by}
use Rattle.weave_keep.specs.KeptReports.{can_be_kept}
use Rattle.weave_keep.specs.Prepared.{DiskFacts, EndsWith, IsDelivered, IsKeepEnd, IsPreparedToKeep, IsWorkDone}

done_not_write : Done ≡ Write → ⊥
done_not_write is = cc

refused_not_write : Refused ≡ Write → ⊥
refused_not_write is = cc

-- a text that fits was written
wrote : (Fits : List ℕ → List ℕ → Type 0) (left before after : ToldBytes) (text : List ℕ) → IfSome left (λ input. Fits input text) → Appends before after text → Writes Fits left before after
wrote Fits None before after text fits appended = tt
wrote Fits (Some input) before after text fits appended = (text, fits, appended)

-- some of it was written
wrote_some : (Fits : List ℕ → List ℕ → Type 0) (left before after : ToldBytes) (text : List ℕ) → IfSome left (λ input. Fits input text) → AppendsPrefix before after text → WritesPrefix Fits left before after
wrote_some Fits None before after text fits appended = tt
wrote_some Fits (Some input) before after text fits appended = (text, fits, appended)

-- nothing was written
wrote_nothing : (before after : ToldBytes) → after ≡ before → KeepsWritten before after
wrote_nothing None after same = ([], same)
wrote_nothing (Some bytes) after same = ([], same ∙ ap Some (sym (append-nil bytes)))

-- what follows of it, if it is known
pub if_then : {P Q : List ℕ → Type 0} (told : ToldBytes) → IfSome told P → ((bytes : List ℕ) → P bytes → Q bytes) → IfSome told Q
if_then None holds more = tt
if_then (Some bytes) holds more = more bytes holds

-- what holds of any value
pub if_any : {P : List ℕ → Type 0} (told : ToldBytes) → ((bytes : List ℕ) → P bytes) → IfSome told P
if_any None all = tt
if_any (Some bytes) all = all bytes

module _ {disk : DiskFacts} {status : Status} {left rest before after : ToldBytes} {ReadFailed WriteFailed NoStall : Type 0} (end : IsKeepEnd disk status left rest before after ReadFailed WriteFailed NoStall) where
  -- what is known at a status
  abbrev Ended : Status → Type 0
  Ended one = EndsWith disk left rest before after ReadFailed WriteFailed NoStall one

  -- what is known at the one with which it ended
  ends_as : Ended status
  ends_as = at end.prepared end.is_prepared end.delivered
    where
      at : (prepared : Result Answer Unanswered) → IsPreparedToKeep disk left rest ReadFailed prepared → IsDelivered prepared status before after WriteFailed NoStall → Ended status
      at (Ok answer) (whole, inl (is, all, work)) (inl (same, appended), quiet) = subst Ended (sym (same ∙ is)) (whole, all, answer.text.items, work, appended, quiet (λ wrong. done_not_write (sym (same ∙ is) ∙ wrong)))
      at (Ok answer) (whole, inr (is, input)) (inl (same, appended), quiet) = subst Ended (sym (same ∙ is)) (whole, answer.text.items, input, appended, quiet (λ wrong. refused_not_write (sym (same ∙ is) ∙ wrong)))
      at (Ok answer) (whole, inl (is, all, work)) (inr (ended, fault, some), quiet) = subst Ended (sym ended) (whole, fault, answer.text.items, inl work, some)
      at (Ok answer) (whole, inr (is, input)) (inr (ended, fault, some), quiet) = subst Ended (sym ended) (whole, fault, answer.text.items, inr input, some)
      at (Err why.Read) (fault, takes, same) (ended, nothing) = subst Ended (sym ended) (fault, takes, same, nothing)
      at (Err why.Memory) prepared (ended, nothing) = subst Ended (sym ended) (prepared, nothing)
      at (Err why.Disk) (whole, can, fault) (ended, nothing) = subst Ended (sym ended) (whole, can, fault, nothing)
      at (Err why.Foreign) (whole, can, none) (ended, nothing) = subst Ended (sym ended) (whole, can, none, nothing)

  done : status ≡ Done → Ended Done
  done is = subst Ended is ends_as

  refused_end : status ≡ Refused → Ended Refused
  refused_end is = subst Ended is ends_as

  write_end : status ≡ Write → Ended Write
  write_end is = subst Ended is ends_as

  read_end : status ≡ Read → Ended Read
  read_end is = subst Ended is ends_as

  memory_end : status ≡ Memory → Ended Memory
  memory_end is = subst Ended is ends_as

  disk_end : status ≡ Disk → Ended Disk
  disk_end is = subst Ended is ends_as

  foreign_end : status ≡ Foreign → Ended Foreign
  foreign_end is = subst Ended is ends_as

  -- What is done

  -- the commits of the input are on the disk, and their report was written
  pub kept : status ≡ Done → (recovered : List Commit) × ReadsCommits disk.seen recovered × Writes (TellsKept recovered) left before after × IfSome left (λ input. KeepsCommits disk.now disk.images (recovered ++ added_by input recovered))
  kept is = let work = (done is).3 in (work.recovered, work.read, wrote (TellsKept work.recovered) left before after (done is).2 work.report (done is).4, work.kept)

  -- When each other status comes

  -- the source failed
  pub read : status ≡ Read → ReadFailed
  read is = (read_end is).0

  -- the input is refused, and why was written
  pub refused : status ≡ Refused → Writes TellsKeepRefusal left before after
  refused is = wrote TellsKeepRefusal left before after (refused_end is).1 (refused_end is).2.says (refused_end is).3

  -- the disk failed
  pub failed : status ≡ Disk → disk.Failed
  failed is = (disk_end is).2

  -- the file is no journal
  pub foreign : status ≡ Foreign → IfSome disk.seen (IsForeign commit_of)
  foreign is = (foreign_end is).2.foreign

  -- the input was read and can be kept before the disk is asked
  pub can_be_kept_first : (status ≡ Disk) ⊎ (status ≡ Foreign) → IfSome left CanBeKept
  can_be_kept_first (inl is) = (disk_end is).1
  can_be_kept_first (inr is) = (foreign_end is).1

  -- the writing failed
  pub write : status ≡ Write → WriteFailed
  write is = (write_end is).1

  -- no other status comes
  pub no_others : (status ≢ Words) × (status ≢ NotRight)
  no_others = ((λ is. subst Ended is ends_as), (λ is. subst Ended is ends_as))

  -- some of the report was written, or of a refusal
  pub cut_short : status ≡ Write → ((recovered : List Commit) × ReadsCommits disk.seen recovered × WritesPrefix (TellsKept recovered) left before after × IfSome left (λ input. KeepsCommits disk.now disk.images (recovered ++ added_by input recovered))) ⊎ (disk.Same × WritesPrefix TellsKeepRefusal left before after)
  cut_short is = at (write_end is)
    where
      at : Ended Write → ((recovered : List Commit) × ReadsCommits disk.seen recovered × WritesPrefix (TellsKept recovered) left before after × IfSome left (λ input. KeepsCommits disk.now disk.images (recovered ++ added_by input recovered))) ⊎ (disk.Same × WritesPrefix TellsKeepRefusal left before after)
      at (whole, fault, text, inl work, some) = inl (work.recovered, work.read, wrote_some (TellsKept work.recovered) left before after text work.report some, work.kept)
      at (whole, fault, text, inr input, some) = inr (input.untouched, wrote_some TellsKeepRefusal left before after text input.says some)

  -- What is not written, and not touched

  -- nothing was written
  pub nothing_written : (status ≡ Read) ⊎ (status ≡ Memory) ⊎ (status ≡ Disk) ⊎ (status ≡ Foreign) → after ≡ before
  nothing_written (inl is) = (read_end is).3
  nothing_written (inr (inl is)) = (memory_end is).1
  nothing_written (inr (inr (inl is))) = (disk_end is).3
  nothing_written (inr (inr (inr is))) = (foreign_end is).3

  -- the disk was not touched
  pub untouched : (status ≡ Read) ⊎ (status ≡ Refused) → disk.Same
  untouched (inl is) = (read_end is).2
  untouched (inr is) = (refused_end is).2.untouched

  -- an input that can't be kept leaves it as it is, whatever the status
  pub only_to_keep : IfSome left (λ input. ¬ CanBeKept input → disk.Same)
  only_to_keep = at status ends_as
    where
      done_work : (text : List ℕ) → IsWorkDone disk left text → IfSome left (λ input. ¬ CanBeKept input → disk.Same)
      done_work text work = if_then left work.report (λ told says not. absurd (not says.kept))

      at : (one : Status) → Ended one → IfSome left (λ input. ¬ CanBeKept input → disk.Same)
      at Done (whole, all, text, work, appended, quiet) = done_work text work
      at Refused (whole, text, input, appended, quiet) = if_any left (λ told not. input.untouched)
      at Write (whole, fault, text, inl work, some) = done_work text work
      at Write (whole, fault, text, inr input, some) = if_any left (λ told not. input.untouched)
      at Read (fault, takes, same, nothing) = if_any left (λ told not. same)
      at Memory (spared, nothing) = spared
      at Disk (whole, can, fault, nothing) = if_then left can (λ told kept not. absurd (not kept))
      at Foreign (whole, can, none, nothing) = if_then left can (λ told kept not. absurd (not kept))
      at Words never = absurd never
      at NotRight never = absurd never

  -- the file was not written
  pub unwritten : status ≡ Foreign → disk.now ≡ disk.seen
  unwritten is = (foreign_end is).2.unwritten

  -- what was written before is still in front
  pub written_stays : KeepsWritten before after
  written_stays = at status ends_as
    where
      at : (one : Status) → Ended one → KeepsWritten before after
      at Done (whole, all, text, work, appended, quiet) = (text, appended)
      at Refused (whole, text, input, appended, quiet) = (text, appended)
      at Write (whole, fault, text, either, (count, appended)) = (take count text, appended)
      at Read (fault, takes, same, nothing) = wrote_nothing before after nothing
      at Memory (spared, nothing) = wrote_nothing before after nothing
      at Disk (whole, can, fault, nothing) = wrote_nothing before after nothing
      at Foreign (whole, can, none, nothing) = wrote_nothing before after nothing
      at Words never = absurd never
      at NotRight never = absurd never

  -- What is read, and that a stall ends the writing

  -- the input was read to its end
  pub all_is_read : status ≡ Done → Tells rest []
  all_is_read is = (done is).1

  -- what comes after reading comes after all of it
  pub read_first : (status ≡ Refused) ⊎ (status ≡ Write) ⊎ (status ≡ Disk) ⊎ (status ≡ Foreign) → IsReadWhole left rest
  read_first (inl is) = (refused_end is).0
  read_first (inr (inl is)) = (write_end is).0
  read_first (inr (inr (inl is))) = (disk_end is).0
  read_first (inr (inr (inr is))) = (foreign_end is).0

  -- no more was read than an input may have
  pub read_in_time : status ≡ Read → TakesAtMost left rest most_bytes
  read_in_time is = (read_end is).1

  -- the sink never stalled
  pub without_stall : (status ≡ Done) ⊎ (status ≡ Refused) → NoStall
  without_stall (inl is) = (done is).5
  without_stall (inr is) = (refused_end is).4

  -- A script that can be kept is kept

  -- an input that can be kept is not refused
  not_refused : ((input : List ℕ) (a b : Script) → IsTextOf input a → IsTextOf input b → a ≡ b) → (input text : List ℕ) → CanBeKept input → TellsKeepRefusal input text → ⊥
  not_refused one input text can (inl fault) = fault.not_taken can.taken
  not_refused one input text can (inr unkept) =
      both_ways (can_be_kept can.taken.value) (ap can_be_kept (one input can.taken.value unkept.taken.value can.taken.input_is_its_text unkept.taken.input_is_its_text) ∙ unkept.cannot) can.can

  -- it is kept, or memory ran out
  pub all_kept : ((input : List ℕ) (a b : Script) → IsTextOf input a → IsTextOf input b → a ≡ b) → ¬ ReadFailed → ¬ WriteFailed → ¬ disk.Failed
      → IfSome left (λ input. CanBeKept input → IfSome disk.seen (λ file. ¬ IsForeign commit_of file → (status ≡ Done) ⊎ (status ≡ Memory)))
  all_kept one no_read no_write no_disk = at status ends_as
    where
      at : (it : Status) → Ended it → IfSome left (λ input. CanBeKept input → IfSome disk.seen (λ file. ¬ IsForeign commit_of file → (it ≡ Done) ⊎ (it ≡ Memory)))
      at Done known = if_any left (λ input can. if_any disk.seen (λ file not. inl refl))
      at Refused (whole, text, input, appended, quiet) = if_then left input.says (λ told says can. absurd (not_refused one told text can says))
      at Write (whole, fault, text, either, some) = absurd (no_write fault)
      at Read (fault, takes, same, nothing) = absurd (no_read fault)
      at Memory known = if_any left (λ input can. if_any disk.seen (λ file not. inr refl))
      at Disk (whole, can, fault, nothing) = absurd (no_disk fault)
      at Foreign (whole, can, none, nothing) = if_any left (λ input can. if_then disk.seen none.foreign (λ file is not. absurd (not is)))
      at Words never = absurd never
      at NotRight never = absurd never
