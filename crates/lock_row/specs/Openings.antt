-- How the locks of a row begin.
use Rattle.std.specs.Prelude.{◌≡◌, ℕ, ◌<◌, List, length, slice_index_or}
use Rattle.chronicle.specs.declared.chronicle.Chronicle.{Chronicle}
use Rattle.chronicle.specs.declared.open.Vacant.{Vacant}
use Rattle.chronicle.specs.Frames.{Frame}
use Rattle.chronicle.specs.Logs.{Log}
use Rattle.chronicle.specs.Locks.{Lock, lock_of, LockStartsWith, IsVacant}

-- the lock was opened for a machine with this frame and this log
pub record FitsMachine {E : Type 0} (lock : Lock E) (frame : Frame) (log : Log E) : Type 0 where
  pub frame_is : frame ≡ lock.frame
  pub log_is : log ≡ lock.start

module _ {M E : Type 0} where
  -- at each place the opened lock has the passes that it was made for, and the frame and the log of the machine there
  abbrev pub AllBegin : {B : Type 0} → (B → Frame) → (B → Log E) → List (Chronicle M E) → List (Chronicle M E) → List B
      → Type 0
  AllBegin {B} frame_of log_of before after machines = (k : ℕ) (c d : Chronicle M E) (b : B) → k < length before
      → LockStartsWith (lock_of (slice_index_or after k d)) (lock_of (slice_index_or before k c)).passes
      (frame_of (slice_index_or machines k b)) (log_of (slice_index_or machines k b))

  -- at each place is the empty place of the lock there
  abbrev pub AreVacant : List (Chronicle M E) → List (Vacant M E) → Type 0
  AreVacant locks vacants = (k : ℕ) (c : Chronicle M E) (v : Vacant M E) → k < length locks
      → IsVacant (lock_of (slice_index_or locks k c)) (slice_index_or vacants k v)

  -- at each place the lock was opened for the machine there
  abbrev pub AllFit : (M → Frame) → (M → Log E) → List (Chronicle M E) → List M → Type 0
  AllFit frame_of log_of locks machines = (k : ℕ) (c : Chronicle M E) (m : M) → k < length locks
      → FitsMachine (lock_of (slice_index_or locks k c)) (frame_of (slice_index_or machines k m))
      (log_of (slice_index_or machines k m))

  -- at each place is the same lock, whatever is in it
  abbrev pub AreOneRow : List (Chronicle M E) → List (Chronicle M E) → Type 0
  AreOneRow before after = (k : ℕ) (c : Chronicle M E) → k < length before
      → lock_of (slice_index_or after k c) ≡ lock_of (slice_index_or before k c)
