-- What `keep` writes, and what it leaves on the disk.
use Rattle.std.specs.Prelude.{◌≡◌, ◌⊎◌, ℕ, true, false, List, [], ◌∷◌, ◌++◌, codes, Option, None, Some, IfSome, Result, Ok, Err, if◌then◌else◌}
use Rattle.program_defs.specs.declared.script.Script.{Script}
use Rattle.weave_io.specs.Told.{ToldBytes}
use Rattle.weave_report.specs.ReportText.{report_text}
use Rattle.weave_script.specs.ReadText.{Fault, read_text}
use Rattle.weaver_top.specs.Refusals.{CanBeTaken, TellsFault, refusal_line, script_input}
use Rattle.store_journal.specs.Commits.{commit_of}
use Rattle.store_journal.specs.Journal.{IsForeign, file_commits}
use Rattle.store_journal.specs.Standing.{HasPrefix, IsJournal}
use Rattle.store_journal.specs.declared.kept_commit.Commit.{Commit}
use Rattle.weave_keep.specs.KeptReports.{can_be_kept, commits_of_script, kept_report}

-- What is written

-- the input is a script that can be kept
pub record CanBeKept (input : List ℕ) : Type 0 where
  pub taken : CanBeTaken script_input input
  pub can : can_be_kept taken.value ≡ true

-- the text is the report of the script in the input, kept after these commits
pub record TellsKept (recovered : List Commit) (input text : List ℕ) : Type 0 where
  pub kept : CanBeKept input
  pub report : text ≡ report_text kept.taken.value (kept_report recovered kept.taken.value)

-- the input is a script that can't be kept, and the text says so
pub record TellsUnkept (input text : List ℕ) : Type 0 where
  pub taken : CanBeTaken script_input input
  pub cannot : can_be_kept taken.value ≡ false
  pub line : text ≡ refusal_line 0 (codes "unkept")

-- the text says why the input is refused: by its first fault, or since it can't be kept
abbrev pub TellsKeepRefusal : List ℕ → List ℕ → Type 0
TellsKeepRefusal input text = TellsFault script_input input text ⊎ TellsUnkept input text

-- What is on the disk

-- if the disk says its bytes, they are a journal with these commits
abbrev pub ReadsCommits : ToldBytes → List Commit → Type 0
ReadsCommits told commits = IfSome told (λ file. (¬ IsForeign commit_of file) × (file_commits commit_of file ≡ commits))

-- If the disk says its bytes, these are its commits, as it reads and in each image that a crash now may leave. Each of
-- these is a journal in which no commit is pending.
abbrev pub KeepsCommits : ToldBytes → (List ℕ → Type 0) → List Commit → Type 0
KeepsCommits told images commits = IfSome told (λ file. (file_commits commit_of file ≡ commits)
    × ((c : List ℕ) → images c → (file_commits commit_of c ≡ commits) × IsJournal commit_of commits None c))

-- the commits that a script adds after these, if it was read and can be kept
abbrev pub added_if_read : List Commit → Result Script Fault → List Commit
added_if_read recovered (Ok script) = if can_be_kept script then commits_of_script recovered script else []
added_if_read recovered (Err fault) = []

-- the commits that an input adds after these
abbrev pub added_by : List ℕ → List Commit → List Commit
added_by input recovered = added_if_read recovered (read_text input)

-- the commits before, or these and the one that was pending
abbrev pub CanBeRecovered : List Commit → Option Commit → List Commit → Type 0
CanBeRecovered commits pending recovered =
    (recovered ≡ commits) ⊎ ((next : Commit) × (pending ≡ Some next) × (recovered ≡ commits ++ next ∷ []))

-- the first of these, if there is one
abbrev pub pending_of : List Commit → Option Commit
pending_of [] = None
pending_of (next ∷ later) = Some next

-- the image is a journal of the commits recovered and the first ones of those added, and the next one may be pending
pub record IsJournalUpTo (recovered added : List Commit) (file : List ℕ) : Type 0 where
  pub done : List Commit
  pub rest : List Commit
  pub are_added : added ≡ done ++ rest
  pub journal : IsJournal commit_of (recovered ++ done) (pending_of rest) file

-- An image has what can be recovered, and then the first ones of the commits that are added after that. It is a journal
-- that a further call can take up: the one from before, or one with some of those that are added.
pub record HasAdded (added : List Commit → List Commit) (commits : List Commit) (pending : Option Commit)
    (file : List ℕ) : Type 0 where
  pub recovered : List Commit
  pub before : CanBeRecovered commits pending recovered
  pub has : HasPrefix commit_of recovered (added recovered) file
  pub goes_on : IsJournal commit_of commits pending file ⊎ IsJournalUpTo recovered (added recovered) file

-- so for the commits that the input adds
pub record IsLeftByKeep (left : ToldBytes) (commits : List Commit) (pending : Option Commit)
    (file : List ℕ) : Type 0 where
  pub added : List Commit → List Commit
  pub of_input : IfSome left (λ input. added ≡ added_by input)
  pub has : HasAdded added commits pending file

-- What becomes of an image: it stays the same if it is foreign, and for each journal that it was an image of, with its
-- commits and the one that may be pending, the image after it has this.
pub record GoesOnWith (has : List Commit → Option Commit → List ℕ → Type 0) (before after : List ℕ) : Type 0 where
  pub foreign : IsForeign commit_of before → after ≡ before
  pub journal : (commits : List Commit) (pending : Option Commit) → IsJournal commit_of commits pending before
      → has commits pending after

-- So `keep` goes on from an image. Nothing is asked of the images beside it, so this holds of run after run: what is
-- left of an image of a journal is again one of a journal, perhaps not of the same one as another image, and the next
-- run goes on from it.
abbrev pub GoesOnByKeep : ToldBytes → List ℕ → List ℕ → Type 0
GoesOnByKeep left before after = GoesOnWith (IsLeftByKeep left) before after
