-- Walks of a plain graph: lists of vertices. There is no search.
use Rattle.std.specs.Prelude.{ℕ, Bool, true, false, ◌&&◌, ◌≡◌, ◌≤◌, IsTrue, List, [], ◌∷◌, map, length, Option, Some, None, is_some, nat_le}
use Rattle.std.specs.Cmp.Lexicographic.{slice_cmp}
use Rattle.std.specs.List.{filter}
use Rattle.std.specs.Map.{values_of}
use Rattle.std.specs.Ordering.{is_le}
use Rattle.weave_data.specs.Names.{name_cmp, same_name}
use Rattle.weave_data.specs.Pairs.{at_key}
use Rattle.weave_data.specs.declared.name.Name.{Name}
use Rattle.graph_ops.specs.Mentions.{is_among}
use Rattle.graph_ops.specs.Operations.{State}
use Rattle.graph_ops.specs.PlainGraph.{PlainGraph}
use Rattle.graph_ops.specs.declared.record.Edge.{Edge}
use Rattle.program_defs.specs.declared.passing.Passing.{Passing}
use Rattle.program_defs.specs.declared.passing.Passing.TheVariants.{Every, Tagged, Priced}
use Rattle.program_defs.specs.declared.program.Filter.{Filter}
use Rattle.program_defs.specs.Prices.{price_in}

-- a value is there, and it is this one
abbrev pub is_value : Option Name → Name → Bool
is_value None value = false
is_value (Some found) value = same_name found value

-- which edges pass for a program that may have a filter
abbrev pub passing_of : Option Filter → Passing
passing_of None = Every
passing_of (Some only) = Tagged only

-- the filter of those that pass, if it is one
abbrev pub filter_in : Passing → Option Filter
filter_in Every = None
filter_in (Tagged only) = Some only
filter_in (Priced key) = None

-- whether an edge passes: each does, or those whose tag at the key has the value, or those whose tag at the key says a
-- price
abbrev pub passes_edge : Passing → Edge → Bool
passes_edge Every edge = true
passes_edge (Tagged only) edge = is_value (at_key only.key edge.tags) only.value
passes_edge (Priced key) edge = is_some (price_in (at_key key edge.tags))

-- the targets of the passing edges of a vertex in this state; an absent one has none
abbrev pub targets : Passing → State → List Name
targets pass None = []
targets pass (Some now) = map (λ (edge : Edge). edge.target) (filter (passes_edge pass) (values_of now.edges))

-- whether a list is a walk from one vertex to another: it begins at the first and ends at the second, each of its
-- vertices is there, and a passing edge joins each to the next
abbrev pub is_walk : PlainGraph → Passing → Name → Name → List Name → Bool
is_walk graph pass from to [] = false
is_walk graph pass from to (v ∷ []) = same_name from v && is_some (graph v) && same_name v to
is_walk graph pass from to (v ∷ w ∷ rest) =
    same_name from v && is_some (graph v) && is_among (targets pass (graph v)) w && is_walk graph pass w to (w ∷ rest)

-- the length of a walk: the number of its edges
abbrev pub walk_length : List Name → ℕ
walk_length [] = 0
walk_length (v ∷ rest) = length rest

-- a walk of at most that many edges
abbrev pub is_walk_within : ℕ → PlainGraph → Passing → Name → Name → List Name → Bool
is_walk_within bound graph pass from to walk = is_walk graph pass from to walk && nat_le (walk_length walk) bound

-- a walk of least length, within the bound, and of the walks of this length the first in the order of lists of names
pub record IsLeastWalk (bound : ℕ) (graph : PlainGraph) (pass : Passing) (from : Name) (to : Name)
    (walk : List Name) : Type 0 where
  pub walks : IsTrue (is_walk_within bound graph pass from to walk)
  pub shortest : (other : List Name) → IsTrue (is_walk graph pass from to other) → walk_length walk ≤ walk_length other
  pub first : (other : List Name) → IsTrue (is_walk graph pass from to other) → walk_length other ≡ walk_length walk
      → IsTrue (is_le (slice_cmp name_cmp walk other))
