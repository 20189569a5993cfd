-- How a chain keeps its versions: the stamps of their updates, and the parts that were written.
use Rattle.std.specs.Prelude.{◌≡◌, ◌≤◌, ◌<◌, ◌+◌, ◌^◌, ◌==◌, ℕ, cond, nat_le, List, [], ◌∷◌, length, None, IsTrue}
use Rattle.graph_ops.specs.declared.op.Op.{Op}
use Rattle.graph_ops.specs.VertexOps.{state_after_ops, none_refused}
use Rattle.vector_stamp.specs.declared.clock.Stamp.{Stamp}
use Rattle.version_parts.specs.declared.lists.Lists.{Lists}
use Rattle.version_parts.specs.Counts.{count_updates, changes, size_of}
use Rattle.version_parts.specs.Placed.{AreUpTo}
use Rattle.version_parts.specs.States.{state_at}
use Rattle.version_chain.specs.declared.version.Version.{Version}

-- the versions of updates with these stamps, before which that many were applied
abbrev pub kept_from : ℕ → Lists → List Stamp → List Version
kept_from before lists [] = []
kept_from before lists (stamp ∷ stamps) =
    record { stamp = stamp; state = state_at (before + 1) lists } ∷ kept_from (before + 1) lists stamps

-- after how many updates the first state is known: from the start, or after the oldest one that is kept
abbrev pub base_of : ℕ → ℕ
base_of dropped = cond (dropped == 0) 0 (dropped + 1)

-- the parts are those of updates with these operations, after the first `before` ones
abbrev pub HaveParts : ℕ → Lists → List (List Op) → Type 0
HaveParts before lists [] = Unit {0}
HaveParts before lists (ops ∷ updates) =
    IsTrue (none_refused ops (state_at before lists))
    × (state_at (before + 1) lists ≡ state_after_ops ops (state_at before lists))
    × (count_updates (λ update. update == before + 1) lists ≡ changes ops)
    × HaveParts (before + 1) lists updates

-- updates from which what is kept results, with no more older items than the first known state has parts
pub record HasHistory (dropped : ℕ) (lists : Lists) (kept : ℕ) : Type 0 where
  pub updates : List (List Op)
  pub count : base_of dropped + length updates ≡ dropped + kept
  pub parts : HaveParts (base_of dropped) lists updates
  pub older : count_updates (λ update. nat_le update (base_of dropped)) lists ≤ size_of
      (state_at (base_of dropped) lists)

-- what a chain keeps
pub record IsKept (dropped : ℕ) (lists : Lists) (stamps : List Stamp) : Type 0 where
  pub small : dropped + length stamps < 2 ^ 64
  pub one : 1 ≤ dropped → 1 ≤ length stamps
  pub within : AreUpTo (dropped + length stamps) lists
  pub start : dropped ≡ 0 → state_at 0 lists ≡ None
  pub history : HasHistory dropped lists (length stamps)
