-- The frame of the oracle's lock is the number of shards and the names of the gatekeepers' locks.
-- Used by `commit`, `visit`, Entering, ShardAsked, ShardEntered and StoreEntered.
use Rattle.std.proofs.Common.{◌≡◌, ℕ, List, [], ◌∷◌, length, sym, ◌∙◌}
use Rattle.weave_entries.specs.declared.gate_log.GateDeed.{GateDeed}
use Rattle.chronicle.specs.declared.chronicle.Chronicle.{Chronicle}
use Rattle.chronicle.specs.Frames.{Frame}
use Rattle.chronicle.specs.Locks.{lock_of}
use Rattle.lock_row.specs.Rows.{names_of}
use Rattle.gate_lock.specs.declared.noted_gate.NotedGate.{NotedGate}
use Rattle.weaver_locks.specs.declared.shared.Shared.{Shared}

-- its first list, its second, and all but its first
abbrev pub first_of : Frame → List ℕ
first_of [] = []
first_of (x ∷ xs) = x

abbrev pub second_of : Frame → List ℕ
second_of [] = []
second_of (x ∷ []) = []
second_of (x ∷ y ∷ xs) = y

abbrev pub rest_of : Frame → Frame
rest_of [] = []
rest_of (x ∷ xs) = xs

-- the frame of the oracle's lock: the number of shards, and the names of the gatekeepers' locks
pub oracle_framed : (shared : Shared) (shards : ℕ) (locks : List (Chronicle NotedGate GateDeed)) → shards ≡ length shared.shards.items
    → locks ≡ shared.gates.items → (lock_of shared.oracle).frame ≡ (shards ∷ []) ∷ names_of locks
oracle_framed shared shards locks many are = shared.framed.oracle_frame ∙ (λ j. (sym many j ∷ []) ∷ names_of (sym are j))
