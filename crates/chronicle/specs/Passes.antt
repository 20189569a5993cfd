-- What a contract reads of a pass and of a note.
use Rattle.std.specs.Prelude.{◌≡◌, ℕ, ◌<◌, List, [], ◌∷◌, map, slice_index_or, All, Contains, vec_len, vec_capacity}
use Rattle.chronicle.specs.declared.pass.Pass.{Pass}
use Rattle.chronicle.specs.declared.note.Note.{Note}
use Rattle.chronicle.specs.declared.open.Unopened.{Unopened}
use Rattle.chronicle.specs.Logs.{Log, entries_of}
use Rattle.chronicle.specs.Seats.{spent_view, resting_view, unopened_view}
use Rattle.chronicle.specs.Frames.{name_of_table}
use Rattle.chronicle.specs.Locks.{Lock, name_of}

module _ {E : Type 0} where
  abbrev pub number_of : Pass E → ℕ
  number_of p = p.number

  -- as much of the log as the pass has seen
  abbrev pub seen_by_pass : Pass E → Log E
  seen_by_pass p = (slice_index_or p.badge.views 0 spent_view).seen

  -- the pass's own entries: those with its number
  abbrev pub own_entries : Pass E → Log E
  own_entries p = entries_of (number_of p) (seen_by_pass p)

  -- the pass is of this lock, and in no hold
  pub record IsReady (lock : Lock E) (p : Pass E) : Type 0 where
    pub table_is : p.badge.table_id ≡ lock.table
    pub view_is : p.badge.views ≡ resting_view lock.frame lock.start (seen_by_pass p) (p.number ∷ []) ∷ []
    pub low : p.number < lock.passes

  -- these are the parts of this lock, which is still to be opened
  pub record IsUnopened {M : Type 0} (lock : Lock E) (u : Unopened M E) : Type 0 where
    pub table_is : u.seat.table_id ≡ lock.table
    pub view_is : u.seat.me ≡ (unopened_view lock.passes, [])
    pub passes_is : u.passes ≡ lock.passes
    pub none_made : u.made.items ≡ []
    pub len : vec_len u.made ≡ 0
    pub room : vec_capacity u.made ≡ u.passes

  -- these are all passes of the lock, each in no hold
  pub record AreAll (lock : Lock E) (ps : List (Pass E)) : Type 0 where
    pub ready : All (IsReady lock) ps
    pub each : (n : ℕ) → n < lock.passes → Contains (map number_of ps) n

  -- as much of the log as the note has seen
  abbrev pub seen_by_note : Note E → Log E
  seen_by_note n = (slice_index_or n.badge.views 0 spent_view).seen

  -- the name of the lock of which the note is
  abbrev pub lock_noted : Note E → List ℕ
  lock_noted n = name_of_table n.badge.table_id

  -- the note is of this lock
  abbrev pub IsNote : Lock E → Note E → Type 0
  IsNote lock n = lock_noted n ≡ name_of lock
