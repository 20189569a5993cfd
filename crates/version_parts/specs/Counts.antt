-- How many items there are.
use Rattle.std.specs.Prelude.{ℕ, ◌+◌, Bool, true, false, cond, List, [], ◌∷◌, if◌then◌else◌}
use Rattle.weave_data.specs.declared.name.Name.{Name}
use Rattle.graph_ops.specs.declared.op.Op.{Op}
use Rattle.graph_ops.specs.declared.record.Edge.{Edge}
use Rattle.graph_ops.specs.Operations.{State, is_get}
use Rattle.std.specs.Prelude.{length, Some, None}
use Rattle.version_parts.specs.declared.edge.EdgeItems.{EdgeItems}
use Rattle.version_parts.specs.declared.lists.Lists.{Lists}
use Rattle.version_parts.specs.declared.track.Item.{Item}

-- whether a list has an element
abbrev pub has_items : {X : Type 0} → List X → Bool
has_items [] = false
has_items (item ∷ rest) = true

-- the sum of a number of each value
abbrev pub total : {A : Type 0} → (A → ℕ) → List (Name × A) → ℕ
total f [] = 0
total f (pair ∷ rest) = f pair.1 + total f rest

-- the items of the updates that pass a test
abbrev pub count_items : {X : Type 0} → (ℕ → Bool) → List (Item X) → ℕ
count_items test [] = 0
count_items test (item ∷ rest) = cond (test item.time.update) 1 0 + count_items test rest

-- those of an edge
abbrev pub count_edge : (ℕ → Bool) → EdgeItems → ℕ
count_edge test edge = count_items test edge.targets + total (count_items test) edge.tags

-- those of a vertex
abbrev pub count_updates : (ℕ → Bool) → Lists → ℕ
count_updates test lists =
    count_items test lists.presence + (total (count_items test) lists.props + total (count_edge test) lists.edges)

-- all items of a vertex
abbrev pub count_in_lists : Lists → ℕ
count_in_lists lists = count_updates (λ update. true) lists

-- the items that an operation adds: one, unless it only reads
abbrev pub changes_of : Op → ℕ
changes_of op = if is_get op then 0 else 1

-- the operations other than `get`
abbrev pub changes : List Op → ℕ
changes [] = 0
changes (op ∷ ops) = changes_of op + changes ops

-- how many parts a state has: the vertex itself, its properties, edges and tags
abbrev pub size_of : State → ℕ
size_of None = 0
size_of (Some now) = 1 + (length now.props + total (λ (edge : Edge). 1 + length edge.tags) now.edges)
