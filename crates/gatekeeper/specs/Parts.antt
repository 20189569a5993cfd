-- The parts of a commit while they are put together. No public contract cites this.
use Rattle.std.specs.Prelude.{◌≡◌, ℕ, List, [], map}
use Rattle.std.specs.List.{range_with_len, AllByRecursion, IsDistinct}
use Rattle.std.specs.Map.{lookup}
use Rattle.std.specs.Option.{unwrap_or}
use Rattle.weave_data.specs.Names.{same_name}
use Rattle.weave_data.specs.declared.name.Name.{Name}
use Rattle.graph_ops.specs.declared.op.Op.{Op}
use Rattle.graph_ops.specs.declared.part.Part.{Part}
use Rattle.weave_entries.specs.declared.verdict.Counted.{Counted}
use Rattle.weave_entries.specs.Sending.{ops_on, parts_for}

-- the operations that a table has under a vertex. No public contract cites this.
abbrev pub ops_at : Name → List (Name × List Op) → List Op
ops_at vertex table = unwrap_or (lookup (same_name vertex) table) []

-- the parts of a commit for each shard, from the first to the last
abbrev pub parts_by_shard : ℕ → List Op → List Counted → List (List Part)
parts_by_shard shards ops counts = map (λ shard. parts_for shards shard ops counts) (range_with_len 0 shards)

-- no vertex is counted twice
abbrev pub AreOfTheirOwn : List Counted → Type 0
AreOfTheirOwn counts = IsDistinct same_name (map (λ (counted : Counted). counted.vertex) counts)

-- the table has the operations on each of these vertices. No public contract cites this.
abbrev pub HasOpsOf : List (Name × List Op) → List Op → List Counted → Type 0
HasOpsOf table ops counts = AllByRecursion (λ (counted : Counted). ops_at counted.vertex table
    ≡ ops_on counted.vertex ops) counts
