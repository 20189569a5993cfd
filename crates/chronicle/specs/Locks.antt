-- What a lock is to those who have its passes.
use Rattle.std.specs.Prelude.{◌≡◌, ℕ, List, [], ◌∷◌, None}
use Rattle.atomic_table.specs.Seated.{TableId}
use Rattle.chronicle.specs.declared.chronicle.Chronicle.{Chronicle}
use Rattle.chronicle.specs.declared.open.Vacant.{Vacant}
use Rattle.chronicle.specs.Frames.{Frame, name_of_table}
use Rattle.chronicle.specs.Logs.{Log}
use Rattle.chronicle.specs.Seats.{resting_view, inside_view}

-- which lock it is, how many passes it has, and the frame and the log of its machine at the start
pub record Lock (E : Type 0) : Type 0 where
  pub table : TableId
  pub passes : ℕ
  pub frame : Frame
  pub start : Log E

-- the lock's name, which a machine's frame lists if the machine keeps a note of the lock
abbrev pub name_of : {E : Type 0} → Lock E → List ℕ
name_of lock = name_of_table lock.table

module _ {M E : Type 0} where
  -- the lock, without what is in it
  abbrev pub lock_of : Chronicle M E → Lock E
  lock_of c = record {
    table = c.table.shared.table_id;
    passes = c.table.shared.key;
    frame = c.opened.value.me.0.frame;
    start = c.opened.value.me.0.start;
  }

  -- the empty place is this lock's
  pub record IsVacant (lock : Lock E) (vacant : Vacant M E) : Type 0 where
    pub table_is : vacant.seat.table_id ≡ lock.table
    pub view_is : vacant.seat.me ≡ (inside_view lock.frame lock.start lock.start lock.passes, (0, None) ∷ [])

  -- the machine was put in
  pub record IsFilled (c : Chronicle M E) : Type 0 where
    pub table_is : c.filled.table_id ≡ (lock_of c).table
    pub view_is : c.filled.views
        ≡ resting_view (lock_of c).frame (lock_of c).start (lock_of c).start ((lock_of c).passes ∷ []) ∷ []

-- the lock has this many passes, and its machine this frame and this log at the start
pub record LockStartsWith {E : Type 0} (lock : Lock E) (passes : ℕ) (frame : Frame) (log : Log E) : Type 0 where
  pub passes_is : lock.passes ≡ passes
  pub frame_is : lock.frame ≡ frame
  pub start_is : lock.start ≡ log
