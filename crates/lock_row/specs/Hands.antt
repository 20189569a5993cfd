-- Passes of the locks of a row, and hands, which have one pass of each lock.
use Rattle.std.specs.Prelude.{◌≡◌, ℕ, ◌<◌, List, length, slice_index_or, Vec}
use Rattle.std.specs.Global.{Global}
use Rattle.chronicle.specs.declared.chronicle.Chronicle.{Chronicle}
use Rattle.chronicle.specs.declared.pass.Pass.{Pass}
use Rattle.chronicle.specs.Locks.{Lock, lock_of}
use Rattle.chronicle.specs.Passes.{IsReady, number_of, seen_by_pass}

module _ {E : Type 0} where
  -- the lock's pass with this number, in no hold, which has seen the log at the start
  pub record IsNewPass (number : ℕ) (lock : Lock E) (p : Pass E) : Type 0 where
    pub ready : IsReady lock p
    pub number_is : number_of p ≡ number
    pub seen_is : seen_by_pass p ≡ lock.start

  -- the first `count` passes of the lock, in the order of their numbers
  pub record AreFirst (count : ℕ) (lock : Lock E) (passes : List (Pass E)) : Type 0 where
    pub count_is : length passes ≡ count
    pub each : (n : ℕ) (p : Pass E) → n < count → IsNewPass n lock (slice_index_or passes n p)

module _ {M E : Type 0} where
  -- at each place are the first `count` passes of the lock there
  abbrev pub HavePasses : ℕ → List (Chronicle M E) → List (Vec (Pass E) Global) → Type 0
  HavePasses count locks passes = (k : ℕ) (c : Chronicle M E) (ps : Vec (Pass E) Global) → k < length locks
      → AreFirst count (lock_of (slice_index_or locks k c)) (slice_index_or passes k ps).items

  -- at each place is the pass with this number of the lock there
  abbrev pub AreDealt : ℕ → List (Chronicle M E) → List (Pass E) → Type 0
  AreDealt number locks hand = (k : ℕ) (c : Chronicle M E) (p : Pass E) → k < length locks
      → IsNewPass number (lock_of (slice_index_or locks k c)) (slice_index_or hand k p)
