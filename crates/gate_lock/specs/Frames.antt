-- Frames of gatekeepers with notes, and passes of all locks of a row but one.
use Rattle.std.specs.Prelude.{◌≢◌, ℕ, ◌<◌, List, [], ◌∷◌, ◌++◌, length, slice_index_or}
use Rattle.chronicle.specs.declared.chronicle.Chronicle.{Chronicle}
use Rattle.chronicle.specs.declared.pass.Pass.{Pass}
use Rattle.chronicle.specs.Frames.{Frame}
use Rattle.chronicle.specs.Locks.{lock_of}
use Rattle.chronicle.specs.Passes.{IsReady}

-- the gatekeeper's home and the numbers of gatekeepers and shards, then the names of the locks of the gatekeepers, of
-- the store and of the shards
abbrev pub gate_frame : ℕ → ℕ → ℕ → List (List ℕ) → List ℕ → List (List ℕ) → Frame
gate_frame home gates shards gate_names store_name shard_names =
    (home ∷ gates ∷ shards ∷ []) ∷ (gate_names ++ store_name ∷ shard_names)

-- the pass at each place but one is of the lock there, and in no hold
abbrev pub AreReadyBut : {M E : Type 0} → ℕ → List (Chronicle M E) → List (Pass E) → Type 0
AreReadyBut {M} {E} except locks passes = (k : ℕ) (c : Chronicle M E) (p : Pass E) → k < length locks → k ≢ except
    → IsReady (lock_of (slice_index_or locks k c)) (slice_index_or passes k p)
