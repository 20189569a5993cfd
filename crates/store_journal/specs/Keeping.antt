-- A kept store, as contracts see it, and what its parts say of it.
use Rattle.std.specs.Prelude.{◌≡◌, ℕ, ◌+◌, ◌-◌, ◌<◌, ◌≤◌, Bool, false, IsTrue, List, length}
use Rattle.vector_stamp.specs.Order.{is_at_most}
use Rattle.graph_ops.specs.Graphs.{Vertices, plain_of}
use Rattle.weave_text.specs.Lines.{Bytes}
use Rattle.store_journal.specs.Commits.{commit_of, graph_of, last_clock}
use Rattle.store_journal.specs.Journal.{file_commits}
use Rattle.store_journal.specs.Payloads.{kept_stamp}
use Rattle.store_journal.specs.Standing.{IsClosedJournal}
use Rattle.store_journal.specs.declared.kept_commit.Commit.{Commit}

-- its commits, the place of the closed gate after their records, its epoch, how many transactions were stamped in that
-- epoch, and whether a call of the disk failed in a commit
pub record Keeping : Type 0 where
  pub commits : List Commit
  pub place : ℕ
  pub epoch : ℕ
  pub count : ℕ
  pub is_halted : Bool

-- the commits of a journal
abbrev pub kept_commits : Bytes → List Commit
kept_commits journal = file_commits commit_of journal

-- The journal ends with a closed gate. Unless a call of the disk failed, the graph is that of its commits; the number
-- is theirs, and the next stamps may follow.
pub record KeepsJournal (journal : Bytes) (number epoch count : ℕ) (graph : Vertices) (is_halted : Bool) : Type 0 where
  pub closed : IsClosedJournal commit_of (kept_commits journal) (length journal - 1) journal
  pub long : 0 < length journal
  pub graph_is : is_halted ≡ false → plain_of graph ≡ graph_of (kept_commits journal)
  pub number_is : number ≡ length (kept_commits journal)
  pub from_one : 1 ≤ epoch
  pub few : epoch ≤ number + 1
  pub fewer : number < length journal
  pub later : IsTrue (is_at_most (last_clock (kept_commits journal)) (kept_stamp epoch count).clock)
