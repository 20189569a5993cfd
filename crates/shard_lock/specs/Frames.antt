-- Frames of shards with notes.
use Rattle.std.specs.Prelude.{ℕ, List, [], ◌∷◌}
use Rattle.chronicle.specs.Frames.{Frame}

-- the shard's number and the numbers of gatekeepers and shards, then the names of the locks of the store, of the oracle
-- and of the gatekeepers
abbrev pub shard_frame : ℕ → ℕ → ℕ → List ℕ → List ℕ → List (List ℕ) → Frame
shard_frame number gates shards store_name oracle_name gate_names =
    (number ∷ gates ∷ shards ∷ []) ∷ store_name ∷ oracle_name ∷ gate_names
