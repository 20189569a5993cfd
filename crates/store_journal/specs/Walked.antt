-- What a walk over the bytes of a journal keeps of the commits that it has passed. (No public contract cites this.)
use Rattle.std.specs.Prelude.{◌≡◌, ℕ, ◌≤◌, Bool, true, false, List, [], ◌∷◌, ◌++◌, length, take, drop, Option, Some, None, if◌then◌else◌, nat_lt}
use Rattle.std.specs.Int.{w32, from_be_bytes}
use Rattle.graph_ops.specs.Graphs.{plain_of}
use Rattle.weave_text.specs.Lines.{Bytes}
use Rattle.store_journal.specs.Commits.{commit_of, graph_of, last_clock, may_follow}
use Rattle.store_journal.specs.Journal.{Walk, walk}
use Rattle.store_journal.specs.declared.kept_commit.Commit.{Commit}
use Rattle.store_journal.specs.declared.walk.Walked.{Walked}

-- it has the graph of these commits, their number and the clock of the last one
pub record HasPassed (walked : Walked) (commits : List Commit) : Type 0 where
  pub graph : plain_of walked.graph ≡ graph_of commits
  pub clock : walked.clock ≡ last_clock commits
  pub number : walked.number ≡ length commits
  pub epochs : (last_clock commits).epoch ≤ length commits

-- the payload of the record after a gate byte, if it is in the file with one byte after it
abbrev pub payload_in : Bytes → Option Bytes
payload_in bytes =
    if nat_lt (length bytes) 4 then None
    else if nat_lt (from_be_bytes w32 bytes) (length (drop 4 bytes))
    then Some (take (from_be_bytes w32 bytes) (drop 4 bytes))
    else None

-- the commit was taken in after these, if it may follow
pub record TakesCommit (commit : Commit) (new : Walked) (may : Bool) (earlier : List Commit) : Type 0 where
  pub tested : may ≡ may_follow earlier commit
  pub passed : HasPassed new (if may then earlier ++ commit ∷ [] else earlier)

-- the payload has a commit that may follow these, and it was taken in; or it has none
abbrev pub TakesPayload : Bytes → Walked → Bool → List Commit → Type 0
TakesPayload payload new true earlier =
    (commit : Commit) × (commit_of earlier payload ≡ Some commit) × HasPassed new (earlier ++ commit ∷ [])
TakesPayload payload new false earlier = (commit_of earlier payload ≡ None) × HasPassed new earlier

-- what the walk finds from this gate byte on, after these commits
abbrev pub walk_from : List Commit → ℕ → Bytes → Walk Commit
walk_from commits gate file = walk commit_of commits gate 0 (drop gate file)

-- the walk over the file comes to this gate byte with these commits
pub record IsWalking (file : Bytes) (walked : Walked) : Type 0 where
  pub commits : List Commit
  pub passed : HasPassed walked commits
  pub same : walk commit_of [] 0 0 file ≡ walk_from commits walked.gate file

-- a record more was passed, or the walk ends here
abbrev pub HasStepped : Bytes → Walked → Walked → Bool → List Commit → Type 0
HasStepped file old new true earlier =
    (commits : List Commit) × HasPassed new commits
    × (walk_from earlier old.gate file ≡ walk_from commits new.gate file)
HasStepped file old new false earlier =
    HasPassed new earlier × (walk_from earlier old.gate file ≡ record { commits = earlier; gate = new.gate })
