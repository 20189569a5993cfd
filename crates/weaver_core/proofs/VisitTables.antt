-- A table of the visits that asked the oracle, as it grows.
-- Used by `add_visits` and `visits_in`.
use Rattle.std.proofs.Common.{◌≡◌, ℕ, List}
use Rattle.std.specs.Prelude.{◌||◌}
use Rattle.weave_data.specs.declared.name.Name.{Name}
use Rattle.weave_entries.specs.ShardReplay.{Visit}
use Rattle.weaver_core.specs.Marks.{has_mark, was_asked}

-- of all visits these are still to be added to the first table
abbrev pub AreLeft : {X : Type 0} → List ((ℕ × Name × ℕ) × X) → List ((ℕ × Name × ℕ) × X) → List Visit → List Visit → Type 0
AreLeft old now all left = (key : ℕ × Name × ℕ) → (was_asked left key || has_mark now key) ≡ (was_asked all key || has_mark old key)
