-- What the calls of a kept store answer.
use Rattle.std.specs.Prelude.{◌≡◌, ⊤, ℕ, ◌+◌, List, ◌∷◌, [], ◌++◌, length, option_map, Result, Ok, Err}
use Rattle.vector_stamp.specs.declared.clock.Stamp.{Stamp}
use Rattle.graph_ops.specs.PlainGraph.{transaction}
use Rattle.graph_ops.specs.declared.op.Op.{Op}
use Rattle.graph_ops.specs.declared.op.Reason.{Reason}
use Rattle.graph_ops.specs.declared.tx.Got.{Got}
use Rattle.store_journal.specs.Commits.{graph_of}
use Rattle.weave_io.specs.Told.{ToldBytes}
use Rattle.weave_text.specs.Lines.{Bytes}
use Rattle.store_journal.specs.Disk.{written_at}
use Rattle.store_journal.specs.Journal.{framed}
use Rattle.store_journal.specs.Keeping.{Keeping}
use Rattle.store_journal.specs.Payloads.{commit_with, kept_stamp, payload_of}
use Rattle.store_journal.specs.declared.faults.KeepFault.{KeepFault}
use Rattle.store_journal.specs.declared.faults.KeepFault.TheVariants as keep
use Rattle.store_journal.specs.declared.faults.RecoverFault.{RecoverFault}
use Rattle.store_journal.specs.declared.faults.RecoverFault.TheVariants as recover
use Rattle.store_journal.specs.declared.kept.Kept.{Kept}
use Rattle.store_journal.specs.declared.kept.Kept.TheVariants.{Committed, Refused}
use Rattle.store_journal.specs.declared.kept_commit.Commit.{Commit}

-- if the file is foreign, P holds of the place
abbrev pub IfForeign : {A : Type 0} → Result A RecoverFault → (ℕ → Type 0) → Type 0
IfForeign (Ok store) P = ⊤
IfForeign (Err recover.Disk) P = ⊤
IfForeign (Err (recover.Foreign at)) P = P at
IfForeign (Err recover.Memory) P = ⊤

-- if the transaction was committed, P holds of its stamp, its number and its answers
abbrev pub IfCommitted : Result Kept KeepFault → (Stamp → ℕ → List Got → Type 0) → Type 0
IfCommitted (Ok (Committed stamp number answers)) P = P stamp number answers.items
IfCommitted (Ok (Refused stamp op reason at)) P = ⊤
IfCommitted (Err fault) P = ⊤

-- if it was refused, P holds of its stamp, the operation, the reason and the number of commits before it
abbrev pub IfTurnedDown : Result Kept KeepFault → (Stamp → ℕ → Reason → ℕ → Type 0) → Type 0
IfTurnedDown (Ok (Committed stamp number answers)) P = ⊤
IfTurnedDown (Ok (Refused stamp op reason at)) P = P stamp op reason at
IfTurnedDown (Err fault) P = ⊤

-- if the disk was not written, because the transaction was refused, memory ran out or the store was halted, P holds
abbrev pub IfUnwritten : Result Kept KeepFault → Type 0 → Type 0
IfUnwritten (Ok (Committed stamp number answers)) P = ⊤
IfUnwritten (Ok (Refused stamp op reason at)) P = P
IfUnwritten (Err keep.Disk) P = ⊤
IfUnwritten (Err keep.Halted) P = P
IfUnwritten (Err keep.Memory) P = P

-- the stamp of the next transaction
abbrev pub next_kept_stamp : Keeping → Stamp
next_kept_stamp store = kept_stamp store.epoch (store.count + 1)

-- the commit that these operations are next, if they pass
abbrev pub next_commit : Keeping → List Op → Commit
next_commit store ops = commit_with (next_kept_stamp store) ops

-- the record of a commit, with an open gate before it and a closed one after it
abbrev pub record_of_commit : Commit → Bytes
record_of_commit commit = 1 ∷ (framed (payload_of commit) ++ 0 ∷ [])

-- at the place of the closed gate the disk reads as this record, and as before elsewhere
abbrev pub ReadsWithRecord : ToldBytes → ToldBytes → ℕ → Commit → Type 0
ReadsWithRecord before now place commit = now ≡ option_map (written_at place (record_of_commit commit)) before

-- The transaction passes on the commits so far, and is one more.
pub record IsCommitted (old new : Keeping) (ops : List Op) (stamp : Stamp) (number : ℕ) (answers : List Got)
    : Type 0 where
  pub stamp_is : stamp ≡ next_kept_stamp old
  pub passes : transaction ops (graph_of old.commits) ≡ Ok (record { graph = graph_of new.commits; gots = answers })
  pub one_more : new.commits ≡ old.commits ++ next_commit old ops ∷ []
  pub number_is : number ≡ length new.commits

-- The transaction is refused on the commits so far, and they stay.
pub record IsTurnedDown (old new : Keeping) (ops : List Op) (stamp : Stamp) (op : ℕ) (reason : Reason) (at : ℕ)
    : Type 0 where
  pub stamp_is : stamp ≡ next_kept_stamp old
  pub refused : transaction ops (graph_of old.commits) ≡ Err (record { op = op; reason = reason })
  pub stays : new.commits ≡ old.commits
  pub at_is : at ≡ length old.commits

-- the epoch is the same, and one transaction more was stamped
pub record IsStamped (old new : Keeping) : Type 0 where
  pub epoch : new.epoch ≡ old.epoch
  pub count : new.count ≡ old.count + 1
