-- How a commit ends: what holds after each answer. (Only a private function cites this.)
use Rattle.std.specs.Prelude.{◌≡◌, ℕ, ◌≤◌, Bool, true, false, IsTrue, is_ok, List, Some, Result, Ok, Err, IsSome}
use Rattle.vector_stamp.specs.declared.clock.Stamp.{Stamp}
use Rattle.graph_ops.specs.PlainGraph.{transaction}
use Rattle.graph_ops.specs.declared.op.Op.{Op}
use Rattle.graph_ops.specs.declared.op.Reason.{Reason}
use Rattle.graph_ops.specs.declared.tx.Got.{Got}
use Rattle.weave_io.specs.Counts.{HasRisen}
use Rattle.weave_io.specs.Told.{ToldBytes}
use Rattle.weave_text.specs.Lines.{Bytes}
use Rattle.store_journal.specs.Commits.{commit_of, graph_of}
use Rattle.store_journal.specs.Disk.{LeavesOnly}
use Rattle.store_journal.specs.Keeping.{Keeping}
use Rattle.store_journal.specs.KeptAnswers.{IsCommitted, IsStamped, IsTurnedDown, ReadsWithRecord, next_commit}
use Rattle.store_journal.specs.Standing.{IsAtRest, IsJournal}
use Rattle.store_journal.specs.declared.faults.KeepFault.{KeepFault}
use Rattle.store_journal.specs.declared.faults.KeepFault.TheVariants as keep
use Rattle.store_journal.specs.declared.kept.Kept.{Kept}
use Rattle.store_journal.specs.declared.kept.Kept.TheVariants.{Committed, Refused}

module _ {D : Type 0} (seen : D → ToldBytes) (images : D → Bytes → Type 0) (moment : D → ℕ)
    (images_since : D → ℕ → Bytes → Type 0) (faults : D → ℕ) (before after : D) (old new : Keeping)
    (ops : List Op) where
  -- the record was written, as far as the disk did it
  pub record HasWritten : Type 0 where
    pub on : old.is_halted ≡ false
    pub leaves : IsSome (seen before)
        → LeavesOnly moment images_since before after (IsJournal commit_of old.commits (Some (next_commit old ops)))
    pub falls : faults before ≤ faults after
    pub told : IsSome (seen before) → IsSome (seen after)

  -- the transaction is one commit more, and on the disk
  pub record HasCommitted (stamp : Stamp) (number : ℕ) (answers : List Got) : Type 0 where
    pub written : HasWritten
    pub committed : IsCommitted old new ops stamp number answers
    pub stamped : IsStamped old new
    pub goes_on : new.is_halted ≡ false
    pub at_rest : IsAtRest commit_of new.commits new.place (seen after) (images after)
    pub bytes : ReadsWithRecord (seen before) (seen after) old.place (next_commit old ops)
    pub no_fault : faults after ≡ faults before

  -- it was refused, and nothing was written
  pub record HasTurnedDown (stamp : Stamp) (op : ℕ) (reason : Reason) (at : ℕ) : Type 0 where
    pub on : old.is_halted ≡ false
    pub refused : IsTurnedDown old new ops stamp op reason at
    pub stamped : IsStamped old new
    pub goes_on : new.is_halted ≡ false
    pub place : new.place ≡ old.place
    pub same : after ≡ before

  -- a call of the disk failed
  pub record HasHalted : Type 0 where
    pub written : HasWritten
    pub passes : IsTrue (is_ok (transaction ops (graph_of old.commits)))
    pub halts : new ≡ record old { is_halted = true }
    pub risen : HasRisen (faults before) (faults after)

  -- nothing was done, by a store that was halted or not
  pub record HasStayed (halted : Bool) : Type 0 where
    pub halted_is : old.is_halted ≡ halted
    pub unchanged : new ≡ old
    pub same : after ≡ before

  -- what holds after this answer
  abbrev pub CommitEnds : Result Kept KeepFault → Type 0
  CommitEnds (Ok (Committed stamp number answers)) = HasCommitted stamp number answers.items
  CommitEnds (Ok (Refused stamp op reason at)) = HasTurnedDown stamp op reason at
  CommitEnds (Err keep.Disk) = HasHalted
  CommitEnds (Err keep.Halted) = HasStayed true
  CommitEnds (Err keep.Memory) = HasStayed false
