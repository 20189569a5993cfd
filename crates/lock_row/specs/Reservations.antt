-- A row of locks that are still to be opened.
use Rattle.std.specs.Prelude.{ℕ, ◌<◌, List, length, slice_index_or}
use Rattle.chronicle.specs.declared.chronicle.Chronicle.{Chronicle}
use Rattle.chronicle.specs.declared.open.Unopened.{Unopened}
use Rattle.chronicle.specs.Locks.{lock_of}
use Rattle.chronicle.specs.Passes.{IsUnopened}

module _ {M E : Type 0} where
  -- the parts at each place are those of the lock there, which is still to be opened
  abbrev pub AreUnopened : List (Chronicle M E) → List (Unopened M E) → Type 0
  AreUnopened locks parts = (k : ℕ) (c : Chronicle M E) (u : Unopened M E) → k < length locks
      → IsUnopened (lock_of (slice_index_or locks k c)) (slice_index_or parts k u)
