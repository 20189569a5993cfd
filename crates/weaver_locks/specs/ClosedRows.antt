-- A row of locks that are closed. No public contract cites this.
use Rattle.std.specs.Prelude.{◌≡◌, ℕ, ◌<◌, List, length, slice_index_or, All, Vec}
use Rattle.std.specs.List.{Any}
use Rattle.std.specs.Global.{Global}
use mathlib.Core.List.{IsPrefix}
use Rattle.chronicle.specs.declared.chronicle.Chronicle.{Chronicle}
use Rattle.chronicle.specs.declared.pass.Pass.{Pass}
use Rattle.chronicle.specs.Frames.{Frame}
use Rattle.chronicle.specs.Logs.{Log, entries_of, IsGrown}
use Rattle.chronicle.specs.Locks.{Lock, lock_of}
use Rattle.chronicle.specs.Passes.{AreAll, number_of, seen_by_pass, own_entries}

module _ {M E : Type 0} where
  -- the machine came out of this lock, of which these are the passes
  pub record CameOut (frame_of : M → Frame) (log_of : M → Log E) (lock : Lock E) (passes : List (Pass E)) (machine : M)
      : Type 0 where
    pub frame_is : frame_of machine ≡ lock.frame
    pub longest : Any (λ p. seen_by_pass p ≡ log_of machine) passes
    pub prefixes : All (λ p. IsPrefix (seen_by_pass p) (log_of machine)) passes
    pub own : All (λ p. entries_of (number_of p) (log_of machine) ≡ own_entries p) passes
    pub authors : IsGrown lock.passes lock.start (log_of machine)

  -- at each place are all passes of the lock there
  abbrev pub HaveAll : List (Chronicle M E) → List (Vec (Pass E) Global) → Type 0
  HaveAll locks rooms = (k : ℕ) (c : Chronicle M E) (room : Vec (Pass E) Global) → k < length locks
      → AreAll (lock_of (slice_index_or locks k c)) (slice_index_or rooms k room).items

  -- at each place the machine came out of the lock there
  abbrev pub AreClosed : (M → Frame) → (M → Log E) → List (Chronicle M E) → List (Vec (Pass E) Global) → List M → Type 0
  AreClosed frame_of log_of locks rooms machines = (k : ℕ) (c : Chronicle M E) (room : Vec (Pass E) Global) (m : M)
      → k < length locks → CameOut frame_of log_of (lock_of (slice_index_or locks k c))
      (slice_index_or rooms k room).items (slice_index_or machines k m)
