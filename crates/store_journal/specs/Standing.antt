-- What a journal on a disk that began empty can be at a moment.
use Rattle.std.specs.Prelude.{◌≡◌, ◌⊎◌, ℕ, ◌<◌, ◌≤◌, ◌^◌, List, [], ◌∷◌, ◌++◌, length, take, get_or, Option, Some, IfSome}
use Rattle.weave_io.specs.Told.{ToldBytes}
use Rattle.store_journal.specs.Disk.{Only, Torn}
use Rattle.store_journal.specs.Journal.{framed, walk, file_commits, gate_of, IsForeign}

module _ {C : Type 0} (reader : List C → List ℕ → Option C) where
  -- the bytes are the whole records of these commits: whatever gate byte follows, the walk comes to it with them
  abbrev pub AreRecords : List ℕ → List C → Type 0
  AreRecords front commits = (gate : ℕ) (tail : List ℕ)
      → walk reader [] 0 0 (front ++ gate ∷ tail) ≡ walk reader commits (length front) 0 (gate ∷ tail)

  -- the records of these commits and a closed gate, with anything after it
  pub record IsClosedJournal (commits : List C) (at : ℕ) (file : List ℕ) : Type 0 where
    pub front : List ℕ
    pub tail : List ℕ
    pub file_is : file ≡ front ++ 0 ∷ tail
    pub place : length front ≡ at
    pub records : AreRecords front commits

  -- the records of these commits, and after any gate byte the whole record of one more with a closed gate after it
  pub record IsStaged (commits : List C) (next : C) (file : List ℕ) : Type 0 where
    pub front : List ℕ
    pub gate : ℕ
    pub payload : List ℕ
    pub tail : List ℕ
    pub file_is : file ≡ front ++ gate ∷ (framed payload ++ 0 ∷ tail)
    pub records : AreRecords front commits
    pub short : length payload < 2 ^ 32
    pub reads : reader commits payload ≡ Some next

  -- nothing was kept, and there is at most a gate byte
  abbrev pub IsUnborn : List C → List ℕ → Type 0
  IsUnborn commits file = (commits ≡ []) × (length file ≤ 1)

  -- An image of a journal with these commits, in which one more may be pending.
  abbrev pub IsJournal : List C → Option C → List ℕ → Type 0
  IsJournal commits pending file =
      IsUnborn commits file ⊎ ((at : ℕ) × IsClosedJournal commits at file)
      ⊎ ((next : C) × (pending ≡ Some next) × IsStaged commits next file)

  -- What a recovery may leave of an image: the same if it is foreign, or if its gate is closed; else at most the gate
  -- byte is another. No commit is lost, and it is an image of each journal that it was one of.
  pub record IsLeftByRecovery (before after : List ℕ) : Type 0 where
    pub foreign : IsForeign reader before → after ≡ before
    pub closed : get_or before (gate_of reader before) 1 ≡ 0 → after ≡ before
    pub elsewhere : Torn (gate_of reader before) 1 before after
    pub commits : (more : List C) × (file_commits reader after ≡ file_commits reader before ++ more)
    pub journal : (kept : List C) (pending : Option C) → IsJournal kept pending before → IsJournal kept pending after

  -- the image has these commits, or these and the pending one
  abbrev pub HasOrHasOneMore : List C → Option C → List ℕ → Type 0
  HasOrHasOneMore commits pending file =
      (file_commits reader file ≡ commits)
      ⊎ ((next : C) × (pending ≡ Some next) × (file_commits reader file ≡ commits ++ next ∷ []))

  -- these bytes are the record of a next commit without its gate byte, and a closed gate
  pub record IsRecord (commits : List C) (next : C) (bytes : List ℕ) : Type 0 where
    pub payload : List ℕ
    pub bytes_are : bytes ≡ framed payload ++ 0 ∷ []
    pub short : length payload < 2 ^ 32
    pub reads : reader commits payload ≡ Some next

  -- the disk has these commits and a closed gate at this place, all of it synced
  abbrev pub IsAtRest : List C → ℕ → ToldBytes → (List ℕ → Type 0) → Type 0
  IsAtRest commits at told images = IfSome told (λ bytes. IsClosedJournal commits at bytes × Only bytes images)

  -- the image has the commits recovered and then some of the transactions since, in order, none skipped
  abbrev pub HasPrefix : List C → List C → List ℕ → Type 0
  HasPrefix recovered since file = (n : ℕ) × (n ≤ length since) × (file_commits reader file ≡ recovered ++ take n since)
