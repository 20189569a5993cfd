-- What a commit promises, from how it ended.
-- Used by `commit`.
use Rattle.std.proofs.Common.{◌≡◌, ◌↔◌, ℕ, ◌≤◌, true, false, List, [], ◌∷◌, ◌++◌, Some, Result, Ok, Err, IsSome, refl, sym, ◌∙◌, ap, subst, arith}
use Rattle.std.specs.Prelude.{IsErrOf, IsTrue, OnOk, is_ok}
use Rattle.std.proofs.lemmas.Bool.{false≢true}
use Rattle.graph_ops.specs.PlainGraph.{transaction}
use Rattle.graph_ops.specs.declared.op.Op.{Op}
use Rattle.weave_io.specs.Counts.{HasRisen}
use Rattle.weave_io.specs.Told.{ToldBytes}
use Rattle.weave_text.specs.Lines.{Bytes}
use Rattle.store_journal.specs.CommitEnds.{CommitEnds}
use Rattle.store_journal.specs.Commits.{commit_of, graph_of}
use Rattle.store_journal.specs.Disk.{LeavesOnly}
use Rattle.store_journal.specs.Keeping.{Keeping}
use Rattle.store_journal.specs.KeptAnswers.{IfCommitted, IfTurnedDown, IfUnwritten, IsCommitted, IsStamped, IsTurnedDown, ReadsWithRecord, next_commit}
use Rattle.store_journal.specs.Standing.{HasPrefix, IsAtRest, IsJournal}
use Rattle.store_journal.specs.declared.faults.KeepFault.{KeepFault}
use Rattle.store_journal.specs.declared.faults.KeepFault.TheVariants as keep
use Rattle.store_journal.specs.declared.kept.Kept.{Kept}
use Rattle.store_journal.specs.declared.kept.Kept.TheVariants.{Committed, Refused}
use Rattle.store_journal.specs.declared.kept_commit.Commit.{Commit}
use Rattle.store_journal.proofs.History.{one_commit_more}
use Rattle.store_journal.proofs.KeptSteps.{rest_as, rest_journal}

module _ {D : Type 0} (seen : D → ToldBytes) (images : D → Bytes → Type 0) (moment : D → ℕ) (images_since : D → ℕ → Bytes → Type 0) (faults : D → ℕ)
    (since_now : (disk : D) (c : Bytes) → images_since disk (moment disk) c → images disk c) (before after : D) (old new : Keeping) (ops : List Op) where
  abbrev Ended : Result Kept KeepFault → Type 0
  Ended result = CommitEnds seen images moment images_since faults before after old new ops result

  -- the disk at rest, as a commit begins
  abbrev Rest : Type 0
  Rest = old.is_halted ≡ false → IsAtRest commit_of old.commits old.place (seen before) (images before)

  -- the commit that it is to be
  abbrev next : Commit
  next = next_commit old ops

  -- of a transaction that was committed
  pub committed : (result : Result Kept KeepFault) → Ended result → IfCommitted result (λ stamp number answers. IsCommitted old new ops stamp number answers)
  committed (Ok (Committed stamp number answers)) end = end.committed
  committed (Ok (Refused stamp op reason at)) end = tt
  committed (Err fault) end = tt

  -- what is on the disk then
  pub bytes : (result : Result Kept KeepFault) → Ended result → IfCommitted result (λ stamp number answers. ReadsWithRecord (seen before) (seen after) old.place next)
  bytes (Ok (Committed stamp number answers)) end = end.bytes
  bytes (Ok (Refused stamp op reason at)) end = tt
  bytes (Err fault) end = tt

  -- of one that was refused
  pub refused : (result : Result Kept KeepFault) → Ended result → IfTurnedDown result (λ stamp op reason at. IsTurnedDown old new ops stamp op reason at)
  refused (Ok (Committed stamp number answers)) end = tt
  refused (Ok (Refused stamp op reason at)) end = end.refused
  refused (Err fault) end = tt

  -- its stamp
  pub stamped : (result : Result Kept KeepFault) → Ended result → OnOk result (IsStamped old new)
  stamped (Ok (Committed stamp number answers)) end = end.stamped
  stamped (Ok (Refused stamp op reason at)) end = end.stamped
  stamped (Err fault) end = tt

  -- the disk is at rest again
  pub at_rest : (result : Result Kept KeepFault) → Ended result → Rest → OnOk result (IsAtRest commit_of new.commits new.place (seen after) (images after))
  at_rest (Ok (Committed stamp number answers)) end rest = end.at_rest
  at_rest (Ok (Refused stamp op reason at)) end rest =
      subst (λ d. IsAtRest commit_of new.commits new.place (seen d) (images d)) (sym end.same)
      (rest_as old.commits new.commits old.place new.place (seen before) (images before) end.refused.stays end.place (rest end.on))
  at_rest (Err fault) end rest = tt

  quiet : after ≡ before → Rest → old.is_halted ≡ false → IsSome (seen before) → LeavesOnly moment images_since before after (IsJournal commit_of old.commits (Some next))
  quiet same rest on told =
      subst (λ d. LeavesOnly moment images_since before d (IsJournal commit_of old.commits (Some next))) (sym same)
      (rest_journal images moment images_since since_now before (seen before) old.commits old.place (Some next) told (rest on))

  -- each moment
  pub any_moment : (result : Result Kept KeepFault) → Ended result → Rest → old.is_halted ≡ false → IsSome (seen before)
      → LeavesOnly moment images_since before after (IsJournal commit_of old.commits (Some next))
  any_moment (Ok (Committed stamp number answers)) end rest on told = end.written.leaves told
  any_moment (Ok (Refused stamp op reason at)) end rest on told = quiet end.same rest on told
  any_moment (Err keep.Disk) end rest on told = end.written.leaves told
  any_moment (Err keep.Halted) end rest on told = absurd (false≢true (sym on ∙ end.halted_is))
  any_moment (Err keep.Memory) end rest on told = quiet end.same rest on told

  -- the law of kept commits
  pub law : (result : Result Kept KeepFault) → Ended result → Rest → (start : D) (recovered since : List Commit) → old.is_halted ≡ false → IsSome (seen before)
      → old.commits ≡ recovered ++ since → LeavesOnly moment images_since start before (HasPrefix commit_of recovered since)
      → LeavesOnly moment images_since start after (HasPrefix commit_of recovered (since ++ next ∷ []))
  law result end rest start recovered since on told is so_far =
      one_commit_more commit_of recovered moment images_since start before after since next so_far
      (subst (λ l. LeavesOnly moment images_since before after (IsJournal commit_of l (Some next))) is (any_moment result end rest on told))

  -- a call of the disk that failed
  pub failed : (result : Result Kept KeepFault) → Ended result → IsErrOf result keep.Disk → HasRisen (faults before) (faults after)
  failed result end is = (subst Ended is end).risen

  -- the transaction passes then
  pub passes : (result : Result Kept KeepFault) → Ended result → IsErrOf result keep.Disk → IsTrue (is_ok (transaction ops (graph_of old.commits)))
  passes result end is = (subst Ended is end).passes

  -- and the store is halted
  pub halts : (result : Result Kept KeepFault) → Ended result → IsErrOf result keep.Disk → new ≡ record old { is_halted = true }
  halts result end is = (subst Ended is end).halts

  -- after each Ok it is not
  pub goes_on : (result : Result Kept KeepFault) → Ended result → OnOk result (new.is_halted ≡ false)
  goes_on (Ok (Committed stamp number answers)) end = end.goes_on
  goes_on (Ok (Refused stamp op reason at)) end = end.goes_on
  goes_on (Err fault) end = tt

  -- one that was halted says so
  pub says_halted : (result : Result Kept KeepFault) → Ended result → old.is_halted ≡ true → IsErrOf result keep.Halted
  says_halted (Ok (Committed stamp number answers)) end off = absurd (false≢true (sym end.written.on ∙ off))
  says_halted (Ok (Refused stamp op reason at)) end off = absurd (false≢true (sym end.on ∙ off))
  says_halted (Err keep.Disk) end off = absurd (false≢true (sym end.written.on ∙ off))
  says_halted (Err keep.Halted) end off = refl
  says_halted (Err keep.Memory) end off = absurd (false≢true (sym end.halted_is ∙ off))

  -- and only that one
  pub halted : (result : Result Kept KeepFault) → Ended result → IsErrOf result keep.Halted ↔ (old.is_halted ≡ true)
  halted result end = ((λ is. (subst Ended is end).halted_is), says_halted result end)

  -- out of memory
  pub no_memory : (result : Result Kept KeepFault) → Ended result → IsErrOf result keep.Memory → new ≡ old
  no_memory result end is = (subst Ended is end).unchanged

  -- halted before
  pub no_call : (result : Result Kept KeepFault) → Ended result → IsErrOf result keep.Halted → new ≡ old
  no_call result end is = (subst Ended is end).unchanged

  -- a disk that is not written
  pub unwritten : (result : Result Kept KeepFault) → Ended result → IfUnwritten result (after ≡ before)
  unwritten (Ok (Committed stamp number answers)) end = tt
  unwritten (Ok (Refused stamp op reason at)) end = end.same
  unwritten (Err keep.Disk) end = tt
  unwritten (Err keep.Halted) end = end.same
  unwritten (Err keep.Memory) end = end.same

  falls_still : after ≡ before → faults before ≤ faults after
  falls_still same = subst (λ d. faults before ≤ faults d) (sym same) (omega arith)

  -- a call that failed is not in an Ok
  pub no_fault : (result : Result Kept KeepFault) → Ended result → OnOk result (faults after ≡ faults before)
  no_fault (Ok (Committed stamp number answers)) end = end.no_fault
  no_fault (Ok (Refused stamp op reason at)) end = ap faults end.same
  no_fault (Err fault) end = tt

  -- the count of faults
  pub never_falls : (result : Result Kept KeepFault) → Ended result → faults before ≤ faults after
  never_falls (Ok (Committed stamp number answers)) end = end.written.falls
  never_falls (Ok (Refused stamp op reason at)) end = falls_still end.same
  never_falls (Err keep.Disk) end = end.written.falls
  never_falls (Err keep.Halted) end = falls_still end.same
  never_falls (Err keep.Memory) end = falls_still end.same

  told_still : after ≡ before → IsSome (seen before) → IsSome (seen after)
  told_still same some = subst (λ d. IsSome (seen d)) (sym same) some

  -- the disk still says its bytes
  pub told : (result : Result Kept KeepFault) → Ended result → IsSome (seen before) → IsSome (seen after)
  told (Ok (Committed stamp number answers)) end = end.written.told
  told (Ok (Refused stamp op reason at)) end = told_still end.same
  told (Err keep.Disk) end = end.written.told
  told (Err keep.Halted) end = told_still end.same
  told (Err keep.Memory) end = told_still end.same
