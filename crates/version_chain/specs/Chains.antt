-- A vertex's updates as contracts see them.
use Rattle.std.specs.Prelude.{◌≡◌, ℕ, ◌+◌, ◌^◌, ◌-◌, ◌<◌, ◌≤◌, List, [], ◌∷◌, ◌++◌, map, fold, length, None, IsTrue}
use Rattle.graph_ops.specs.declared.op.Op.{Op}
use Rattle.graph_ops.specs.Operations.{State}
use Rattle.graph_ops.specs.VertexOps.{state_after_ops, none_refused}
use Rattle.vector_stamp.specs.declared.clock.Stamp.{Stamp}
use Rattle.version_chain.specs.declared.version.Version.{Version}

-- how many of the oldest versions were dropped, and those that are kept, in the order of application
pub record ChainView : Type 0 where
  pub dropped : ℕ
  pub kept : List Version

-- no update was applied
abbrev pub no_updates : ChainView
no_updates = record { dropped = 0; kept = [] }

-- how many updates were applied
abbrev pub update_count : ChainView → ℕ
update_count chain = chain.dropped + length chain.kept

-- the stamps of versions
abbrev pub stamps_of_versions : List Version → List Stamp
stamps_of_versions versions = map (λ (version : Version). version.stamp) versions

-- the state after the last of these versions; absent if there is none
abbrev pub newest_state : List Version → State
newest_state versions = fold (λ (state : State) (version : Version). version.state) None versions

-- the version that an update makes of the newest one
abbrev pub next_version : Stamp → List Op → List Version → Version
next_version stamp ops versions = record { stamp = stamp; state = state_after_ops ops (newest_state versions) }

-- the chain with one more version
abbrev pub with_version : Version → ChainView → ChainView
with_version newest chain = record chain { kept = chain.kept ++ newest ∷ [] }

-- the chain with one more update
abbrev pub with_update : Stamp → List Op → ChainView → ChainView
with_update stamp ops chain = with_version (next_version stamp ops chain.kept) chain

-- an update is the chain's next: `before` updates were applied, a number of 64 bits holds one more, and its operations
-- pass on the newest state
pub record IsNextUpdate (chain : ChainView) (before : ℕ) (ops : List Op) : Type 0 where
  pub count : before ≡ update_count chain
  pub small : before < 2 ^ 64 - 1
  pub passes : IsTrue (none_refused ops (newest_state chain.kept))

-- if versions were dropped, one at least is kept
abbrev pub KeepsOne : ChainView → Type 0
KeepsOne chain = 1 ≤ chain.dropped → 1 ≤ length chain.kept
