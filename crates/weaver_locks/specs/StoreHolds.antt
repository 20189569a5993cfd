-- What a hold of the store, with the oracle's within it, is for the hand that is in it, and what a judgement answers
-- there.
use Rattle.std.specs.Prelude.{◌≡◌, ◌∷◌, ◌++◌, ℕ, List, [], map, Result, Ok, Err, IfOk}
use Rattle.std.specs.declared.alloc.AllocError.{AllocError}
use Rattle.graph_ops.specs.declared.op.Op.{Op}
use Rattle.vector_stamp.specs.declared.clock.Stamp.{Stamp}
use Rattle.weave_entries.specs.declared.oracle_log.OracleEntry.{OracleEntry}
use Rattle.weave_entries.specs.declared.store_log.StoreEntry.{StoreEntry}
use Rattle.weave_entries.specs.declared.verdict.Verdict.{Verdict}
use Rattle.weave_entries.specs.OracleReplay.{oracle_entry_of, pairs_of_log}
use Rattle.backing_store.specs.Commits.{asked_at, entries_added, judged_entry, verdict_at}
use Rattle.weave_account.specs.GoesOn.{IsBeginningOf}
use Rattle.seen_logs.specs.Seen.{IsWithin, OracleRefersWithin, StoreRefersWithin}
use Rattle.weaver_locks.specs.declared.hand.Hand.{Hand}
use Rattle.weaver_locks.specs.Hands.{hand_number, made_by, seen_by, with_store_entries}

-- A hand was in the lock of the store, whose log was `before`, and within it in that of the oracle, whose log was
-- `settled`. It added these entries of its own there, and nothing else anywhere. It has seen both logs whole, and all
-- that their entries refer to.
pub record WasAtStore (old new : Hand) (before added : List StoreEntry) (settled asked : List OracleEntry)
    : Type 0 where
  pub number : hand_number new ≡ hand_number old
  pub found : IsBeginningOf (seen_by old).store before
  pub oracle_found : IsBeginningOf (seen_by old).oracle settled
  pub left : (seen_by new).store ≡ before ++ added
  pub oracle_left : (seen_by new).oracle ≡ settled ++ asked
  pub made : made_by new ≡ with_store_entries added asked (made_by old)
  pub more : IsWithin (seen_by old) (seen_by new)
  pub refers : StoreRefersWithin (seen_by new)
  pub oracle_refers : OracleRefersWithin (seen_by new)

-- the store's entry of a judgement, and the oracle's if it added a pair; none if it was out of memory
abbrev pub judged_entries : {F : Type 0} → ℕ → ℕ → Stamp → List Op → List StoreEntry → Result Verdict F
    → List StoreEntry
judged_entries author request stamp ops before (Ok verdict) = judged_entry author request stamp ops before verdict ∷ []
judged_entries author request stamp ops before (Err fault) = []

abbrev pub settled_entries : {F : Type 0} → ℕ → Stamp → List Op → List StoreEntry → List OracleEntry → Result Verdict F
    → List OracleEntry
settled_entries author stamp ops before settled (Ok verdict) =
    map oracle_entry_of (entries_added verdict author (pairs_of_log settled) (asked_at before stamp ops) stamp)
settled_entries author stamp ops before settled (Err fault) = []

-- A transaction was judged in this hold, by the store's rule over both logs.
pub record JudgesIn (old new : Hand) (request : ℕ) (stamp : Stamp) (ops : List Op)
    (result : Result Verdict AllocError) : Type 0 where
  pub before : List StoreEntry
  pub settled : List OracleEntry
  pub was : WasAtStore old new before (judged_entries (hand_number old) request stamp ops before result) settled
      (settled_entries (hand_number old) stamp ops before settled result)
  pub verdict : IfOk result (λ verdict. verdict ≡ verdict_at (pairs_of_log settled) before stamp ops)
