-- A disk in memory, as contracts see it: the bytes at first and the record of its calls, from which all else follows.
use Rattle.std.specs.Prelude.{◌≡◌, ◌⊎◌, ℕ, ◌≤◌, Bool, true, false, if◌then◌else◌, is_ok, List, [], ◌∷◌, ◌++◌, length, take, fold, Option, None, Some, Result, Ok, Err, Vec}
use Rattle.weave_io.specs.Counts.{one_more}
use Rattle.std.specs.declared.alloc.Global.{Global}
use Rattle.store_journal.specs.Disk.{Torn, written_at}
use Rattle.store_journal.specs.declared.call.Call.{Call}
use Rattle.store_journal.specs.declared.call.Call.TheVariants.{Asked, Wrote, Synced}

-- the bytes at first, the calls made, the numbers of the calls that fail, how many calls there were, and how many of
-- them failed
pub record Holding : Type 0 where
  pub first : List ℕ
  pub calls : List Call
  pub fails : List ℕ
  pub made : ℕ
  pub faults : ℕ

-- what a read gives, what was synced, and the places and lengths of the writes since, the newest first
pub record Shape : Type 0 where
  pub current : List ℕ
  pub synced : List ℕ
  pub writes : List (ℕ × ℕ)

-- a call that failed changes nothing that a read gives; of a write that failed any part may be on the disk
abbrev pub after : Shape → Call → Shape
after s (Asked ok) = s
after s (Wrote at bytes ok) = record {
  current = if ok then written_at at bytes.items s.current else s.current;
  synced = s.synced;
  writes = (at, length bytes.items) ∷ s.writes;
}
after s (Synced ok) = if ok then record { current = s.current; synced = s.current; writes = [] } else s

-- the disk after these calls
abbrev pub shape_of : List ℕ → List Call → Shape
shape_of first calls = fold after (record { current = first; synced = first; writes = [] }) calls

-- what was synced, with each write since done in some part
abbrev pub Reaches : List ℕ → List (ℕ × ℕ) → List ℕ → Type 0
Reaches synced [] c = c ≡ synced
Reaches synced (write ∷ earlier) c = (d : List ℕ) × Reaches synced earlier d × Torn write.0 write.1 d c

-- the images that a crash may leave: all that was written, or what was synced and any parts of the writes since
abbrev pub IsImageOf : Shape → List ℕ → Type 0
IsImageOf s c = (c ≡ s.current) ⊎ Reaches s.synced s.writes c

-- those that a crash after t calls or later might have left
abbrev pub WasImage : List ℕ → List Call → ℕ → List ℕ → Type 0
WasImage first calls t c = (k : ℕ) × (t ≤ k) × (k ≤ length calls) × IsImageOf (shape_of first (take k calls)) c

-- what a read gives
abbrev pub bytes_in : Holding → List ℕ
bytes_in held = (shape_of held.first held.calls).current

-- the images that a crash now may leave
abbrev pub images_in : Holding → List ℕ → Type 0
images_in held = IsImageOf (shape_of held.first held.calls)

-- those that a crash after t calls or later might have left
abbrev pub past_images_in : Holding → ℕ → List ℕ → Type 0
past_images_in held = WasImage held.first held.calls

-- the bytes now, kept apart from those at first once there is a write
abbrev pub content_of : Option (Vec ℕ Global) → List ℕ → List ℕ
content_of None first = first
content_of (Some now) first = now.items

-- A call, as it is in the record if it succeeded or failed, was put at the end; or it failed and is not there.
abbrev pub Records : {A E : Type 0} → Result A E → (Bool → Call) → List Call → List Call → Type 0
Records (Ok value) call before after = after ≡ before ++ call true ∷ []
Records (Err fault) call before after = (after ≡ before) ⊎ (after ≡ before ++ call false ∷ [])

-- the same of a write of these bytes
abbrev pub RecordsWrite : {A E : Type 0} → Result A E → ℕ → List ℕ → List Call → List Call → Type 0
RecordsWrite (Ok value) at bytes before after =
    (v : Vec ℕ Global) × (v.items ≡ bytes) × (after ≡ before ++ Wrote at v true ∷ [])
RecordsWrite (Err fault) at bytes before after =
    (after ≡ before) ⊎ ((v : Vec ℕ Global) × (v.items ≡ bytes) × (after ≡ before ++ Wrote at v false ∷ []))

-- what else a call leaves: it is counted, also as a fault if it failed, and the rest stays
pub record Counts {A E : Type 0} (result : Result A E) (old new : Holding) : Type 0 where
  pub made : new.made ≡ one_more old.made
  pub faults : new.faults ≡ (if is_ok result then old.faults else one_more old.faults)
  pub first : new.first ≡ old.first
  pub fails : new.fails ≡ old.fails
