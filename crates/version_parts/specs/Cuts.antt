-- What is left of a vertex's items when some are dropped.
use Rattle.std.specs.Prelude.{ℕ, Bool, List, Option, Some, None, ◌||◌, if◌then◌else◌}
use Rattle.weave_data.specs.declared.name.Name.{Name}
use Rattle.version_parts.specs.declared.cut.Cut.{Cut}
use Rattle.version_parts.specs.declared.cut.Cut.TheVariants.{Newer, Older}
use Rattle.version_parts.specs.declared.edge.EdgeItems.{EdgeItems}
use Rattle.version_parts.specs.declared.lists.Lists.{Lists}
use Rattle.version_parts.specs.declared.track.Item.{Item}
use Rattle.version_parts.specs.Counts.{has_items}
use Rattle.version_parts.specs.KeptValues.{kept_values}
use Rattle.version_parts.specs.States.{Tracks}
use Rattle.version_parts.specs.Times.{beginning}
use Rattle.version_parts.specs.Tracks.{cut_items, inner_cut}

-- a list, unless it is empty
abbrev pub left_items : Cut → List (Item Name) → Option (List (Item Name))
left_items cut items = if has_items (cut_items cut items) then Some (cut_items cut items) else None

-- the lists of properties or tags; those that are empty go
abbrev pub cut_tracks : Cut → Tracks → Tracks
cut_tracks cut tracks = kept_values (left_items cut) tracks

-- the lists of an edge
abbrev pub cut_edge : Cut → EdgeItems → EdgeItems
cut_edge cut edge =
    record { targets = cut_items cut edge.targets; tags = cut_tracks (inner_cut cut edge.targets) edge.tags }

-- whether an edge has items
abbrev pub has_some : EdgeItems → Bool
has_some edge = has_items edge.targets || has_items edge.tags

-- the lists of an edge, unless they are empty
abbrev pub left_edge : Cut → EdgeItems → Option EdgeItems
left_edge cut edge = if has_some (cut_edge cut edge) then Some (cut_edge cut edge) else None

-- the lists of edges
abbrev pub cut_edges : Cut → List (Name × EdgeItems) → List (Name × EdgeItems)
cut_edges cut edges = kept_values (left_edge cut) edges

-- all lists of a vertex
abbrev pub cut_lists : Cut → Lists → Lists
cut_lists cut lists = record {
  presence = cut_items cut lists.presence;
  props = cut_tracks (inner_cut cut lists.presence) lists.props;
  edges = cut_edges (inner_cut cut lists.presence) lists.edges;
}

-- without the items of updates after this one
abbrev pub lists_until : ℕ → Lists → Lists
lists_until update lists = cut_lists (Newer update) lists

-- without the items that no state from the oldest update on has
abbrev pub collected_lists : ℕ → Lists → Lists
collected_lists oldest lists = cut_lists (Older oldest (Some beginning)) lists
