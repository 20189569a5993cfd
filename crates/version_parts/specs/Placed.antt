-- When the items of a vertex were added.
use Rattle.std.specs.Prelude.{◌≤◌, ℕ, List}
use Rattle.std.specs.List.{AllByRecursion}
use Rattle.weave_data.specs.declared.name.Name.{Name}
use Rattle.version_parts.specs.declared.edge.EdgeItems.{EdgeItems}
use Rattle.version_parts.specs.declared.lists.Lists.{Lists}
use Rattle.version_parts.specs.declared.time.Time.{Time}
use Rattle.version_parts.specs.States.{Tracks}
use Rattle.version_parts.specs.Tracks.{AllTimes}

-- each time in lists by name has P
abbrev pub AllInTracks : (Time → Type 0) → Tracks → Type 0
AllInTracks P tracks = AllByRecursion (λ (pair : Name × List _). AllTimes P pair.1) tracks

-- each time of an edge
abbrev pub AllInEdge : (Time → Type 0) → EdgeItems → Type 0
AllInEdge P edge = AllTimes P edge.targets × AllInTracks P edge.tags

-- each time of edges
abbrev pub AllInEdges : (Time → Type 0) → List (Name × EdgeItems) → Type 0
AllInEdges P edges = AllByRecursion (λ (pair : Name × EdgeItems). AllInEdge P pair.1) edges

-- each time of a vertex
abbrev pub AllInLists : (Time → Type 0) → Lists → Type 0
AllInLists P lists = AllTimes P lists.presence × AllInTracks P lists.props × AllInEdges P lists.edges

-- all items are of this update or of those before it
abbrev pub AreUpTo : ℕ → Lists → Type 0
AreUpTo update lists = AllInLists (λ time. time.update ≤ update) lists
