-- A table of states, as a graph keeps them: a vertex that was changed once keeps its place, even if it is absent.
use Rattle.std.specs.Prelude.{List, [], ◌∷◌, Option, Some, None, IsSome}
use Rattle.std.specs.FinMap as map
use Rattle.weave_data.specs.Pairs.{at_key}
use Rattle.weave_data.specs.declared.name.Name.{Name}
use Rattle.graph_ops.specs.Operations.{State}
use Rattle.graph_ops.specs.PlainGraph.{PlainGraph}
use Rattle.graph_ops.specs.Graphs.{Vertices}

-- the state in a place; without a place a vertex is absent
abbrev pub state_in : Option State → State
state_in None = None
state_in (Some state) = state

-- the graph of a table
unfoldable pub states_of : List (Name × State) → PlainGraph
states_of slots = λ v. state_in (at_key v slots)

-- the finite map with this state of a vertex
abbrev pub with_slot : Name → State → Vertices → Vertices
with_slot v None vertices = map.remove vertices v
with_slot v (Some now) vertices = map.insert vertices v now

-- the finite map of a table
abbrev pub vertices_held : List (Name × State) → Vertices
vertices_held [] = map.empty
vertices_held (slot ∷ rest) = with_slot slot.0 slot.1 (vertices_held rest)

-- each vertex of the second table has a place in the first. No public contract cites this.
abbrev pub Covers : List (Name × State) → List (Name × State) → Type 0
Covers slots before = (v : Name) → IsSome (at_key v before) → IsSome (at_key v slots)
