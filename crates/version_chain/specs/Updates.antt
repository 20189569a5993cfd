-- The updates that a vertex's versions result from.
use Rattle.std.specs.Prelude.{◌≡◌, ◌+◌, ℕ, List, [], ◌∷◌, None, IsTrue}
use Rattle.graph_ops.specs.declared.op.Op.{Op}
use Rattle.graph_ops.specs.Operations.{State}
use Rattle.graph_ops.specs.VertexOps.{state_after_ops, none_refused}
use Rattle.version_parts.specs.Counts.{changes, size_of}
use Rattle.version_chain.specs.declared.version.Version.{Version}
use Rattle.version_chain.specs.Chains.{ChainView}

-- these versions result from a state by updates with these operations, all of which pass
abbrev pub ResultFrom : State → List (List Op) → List Version → Type 0
ResultFrom state [] [] = Unit {0}
ResultFrom state (ops ∷ updates) (version ∷ versions) =
    IsTrue (none_refused ops state) × (version.state ≡ state_after_ops ops state)
    × ResultFrom version.state updates versions
ResultFrom state _ _ = ⊥

-- the versions after the oldest one result from it
abbrev pub ResultFromOldest : List (List Op) → List Version → Type 0
ResultFromOldest updates [] = ⊥
ResultFromOldest updates (oldest ∷ versions) = ResultFrom oldest.state updates versions

-- the state of the oldest version
abbrev pub oldest_state : List Version → State
oldest_state [] = None
oldest_state (oldest ∷ versions) = oldest.state

-- the operations other than `get` of updates
abbrev pub all_changes : List (List Op) → ℕ
all_changes [] = 0
all_changes (ops ∷ updates) = changes ops + all_changes updates

-- if nothing was dropped, there are as many parts as operations other than `get` in all updates
abbrev pub IsPartCount : ChainView → ℕ → Type 0
IsPartCount chain parts = (updates : List (List Op)) × ResultFrom None updates chain.kept
    × (parts ≡ all_changes updates)

-- otherwise as many as operations other than `get` in the updates after the oldest version, and parts of its state
abbrev pub IsPartCountFromOldest : ChainView → ℕ → Type 0
IsPartCountFromOldest chain parts = (updates : List (List Op)) × ResultFromOldest updates chain.kept
    × (parts ≡ all_changes updates + size_of (oldest_state chain.kept))
