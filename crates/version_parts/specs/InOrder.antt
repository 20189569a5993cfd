-- The order of a vertex's items: none is of an earlier update than one before it in its list. `Parts` keeps this; no
-- public contract cites it.
use Rattle.std.specs.Prelude.{◌≡◌, ◌≤◌, ℕ, List, [], ◌∷◌}
use Rattle.std.specs.List.{AllByRecursion}
use Rattle.weave_data.specs.declared.name.Name.{Name}
use Rattle.version_parts.specs.declared.edge.EdgeItems.{EdgeItems}
use Rattle.version_parts.specs.declared.lists.Lists.{Lists}
use Rattle.version_parts.specs.declared.track.Item.{Item}
use Rattle.version_parts.specs.Counts.{count_in_lists}
use Rattle.version_parts.specs.States.{Tracks}
use Rattle.version_parts.specs.Tracks.{AllTimes}

-- each item is followed by none of an earlier update
abbrev pub ItemsInOrder : {X : Type 0} → List (Item X) → Type 0
ItemsInOrder [] = Unit {0}
ItemsInOrder (item ∷ rest) = AllTimes (λ time. item.time.update ≤ time.update) rest × ItemsInOrder rest

-- the same of lists by name
abbrev pub TracksInOrder : Tracks → Type 0
TracksInOrder tracks = AllByRecursion (λ (pair : Name × List (Item Name)). ItemsInOrder pair.1) tracks

-- the same of the lists of an edge
abbrev pub EdgeInOrder : EdgeItems → Type 0
EdgeInOrder edge = ItemsInOrder edge.targets × TracksInOrder edge.tags

-- the same of the lists of edges
abbrev pub EdgesInOrder : List (Name × EdgeItems) → Type 0
EdgesInOrder edges = AllByRecursion (λ (pair : Name × EdgeItems). EdgeInOrder pair.1) edges

-- the same of all lists of a vertex
abbrev pub ListsInOrder : Lists → Type 0
ListsInOrder lists = ItemsInOrder lists.presence × TracksInOrder lists.props × EdgesInOrder lists.edges

-- there are that many items, and they are in order
pub record AreCountedInOrder (items : ℕ) (lists : Lists) : Type 0 where
  pub count : items ≡ count_in_lists lists
  pub order : ListsInOrder lists
