-- The next record of a store is read as its next commit.
-- Used by KeptCommit and KeptSteps.
use Rattle.std.proofs.Common.{◌≡◌, ℕ, ◌+◌, ◌<◌, ◌≤◌, ◌^◌, true, cond, List, [], ◌∷◌, ◌++◌, length, None, Some, refl, ◌∙◌, ap, arith}
use Rattle.std.specs.Prelude.{is_ok, IsTrue}
use Rattle.std.proofs.lemmas.Bool.{and_from, cond-true, le-leb}
use Rattle.vector_stamp.specs.ClockLaws.{ClockLaws}
use Rattle.vector_stamp.specs.Order.{is_at_most, is_before}
use Rattle.graph_ops.specs.PlainGraph.{transaction}
use Rattle.graph_ops.specs.declared.op.Op.{Op}
use Rattle.weave_text.specs.Lines.{Bytes}
use Rattle.store_journal.specs.Commits.{commit_of, graph_of, has_right_stamp, last_clock, may_follow}
use Rattle.store_journal.specs.Journal.{framed, onward}
use Rattle.store_journal.specs.Payloads.{AreKeptOps, Has64Bits, Says, commit_said, commit_with, kept_stamp, payload_of}
use Rattle.store_journal.specs.Standing.{IsRecord}
use Rattle.store_journal.specs.declared.kept_commit.Commit.{Commit}

-- what is said is read
abbrev pub SaidIsRead : Type 0
SaidIsRead = (payload : Bytes) (commit : Commit) → Says payload commit → Has64Bits commit.stamp → commit_said payload ≡ Some commit

-- the clock of the next stamp is after that of the one before
pub next_is_later : ClockLaws → (epoch count : ℕ) → IsTrue (is_before (kept_stamp epoch count).clock (kept_stamp epoch (count + 1)).clock)
next_is_later laws epoch count = laws.tick_is_later 0 (kept_stamp epoch count).clock (omega arith) refl

-- and so after those of all commits
pub next_is_after : ClockLaws → (commits : List Commit) (epoch count : ℕ) → IsTrue (is_at_most (last_clock commits) (kept_stamp epoch count).clock)
    → IsTrue (is_before (last_clock commits) (kept_stamp epoch (count + 1)).clock)
next_is_after laws commits epoch count later =
    laws.at_most_before (last_clock commits) (kept_stamp epoch count).clock (kept_stamp epoch (count + 1)).clock later (next_is_later laws epoch count)

-- the store's stamps and operations
pub record IsNext (commits : List Commit) (epoch count : ℕ) (ops : List Op) : Type 0 where
  pub later : IsTrue (is_at_most (last_clock commits) (kept_stamp epoch count).clock)
  pub from_one : 1 ≤ epoch
  pub few : epoch ≤ length commits + 1
  pub epoch_fits : epoch < 2 ^ 64
  pub count_fits : count + 1 < 2 ^ 64
  pub kept : AreKeptOps ops
  pub passes : is_ok (transaction ops (graph_of commits)) ≡ true

module _ (laws : ClockLaws) (said : SaidIsRead) (commits : List Commit) (epoch count : ℕ) (ops : List Op) (next : IsNext commits epoch count ops) where
  abbrev made : Commit
  made = commit_with (kept_stamp epoch (count + 1)) ops

  may : may_follow commits made ≡ true
  may =
      and_from (has_right_stamp (last_clock commits) (length commits) made.stamp) (is_ok (transaction ops (graph_of commits)))
      (and_from _ _
      (and_from _ _ (and_from _ _ (next_is_after laws commits epoch count next.later) (le-leb 1 epoch next.from_one)) (le-leb epoch (length commits + 1) next.few))
      (le-leb 1 (count + 1) (omega arith)))
      next.passes

  reads : commit_of commits (payload_of made) ≡ Some made
  reads =
      ap (λ o. onward o None (λ c. cond (may_follow commits c) (Some c) None))
      (said (payload_of made) made (record { stamp = refl; ops = next.kept; payload_is = refl }) (next.epoch_fits, next.count_fits))
      ∙ cond-true (may_follow commits made) (Some made) None may

  -- the record of the next commit
  pub is_record : (bytes : Bytes) → bytes ≡ framed (payload_of made) ++ 0 ∷ [] → length (payload_of made) < 2 ^ 32 → IsRecord commit_of commits made bytes
  is_record bytes is short = record { payload = payload_of made; bytes_are = is; short = short; reads = reads }
