-- A row of locks of one kind, and a pass of each.
use Rattle.std.specs.Prelude.{ℕ, ◌<◌, List, map, length, slice_index_or}
use Rattle.chronicle.specs.declared.chronicle.Chronicle.{Chronicle}
use Rattle.chronicle.specs.declared.pass.Pass.{Pass}
use Rattle.chronicle.specs.Locks.{lock_of, name_of}
use Rattle.chronicle.specs.Passes.{IsReady}

module _ {M E : Type 0} where
  -- the names of the locks
  abbrev pub names_of : List (Chronicle M E) → List (List ℕ)
  names_of locks = map (λ c. name_of (lock_of c)) locks

  -- the pass at each place is of the lock there, and in no hold
  abbrev pub AreReady : List (Chronicle M E) → List (Pass E) → Type 0
  AreReady locks passes = (k : ℕ) (c : Chronicle M E) (p : Pass E) → k < length locks
      → IsReady (lock_of (slice_index_or locks k c)) (slice_index_or passes k p)
