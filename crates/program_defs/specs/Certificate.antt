-- The tests of a certificate as one that computes: it looks at each passing edge of the listed vertices.
use Rattle.std.specs.Prelude.{ℕ, ◌+◌, Bool, true, false, not, ◌&&◌, ◌||◌, ◌==◌, nat_le, List, [], ◌∷◌, map, reverse, Option, Some, None, is_some, find, option_map}
use Rattle.std.specs.List.{list_all, list_any}
use Rattle.weave_data.specs.Names.{same_name}
use Rattle.weave_data.specs.declared.name.Name.{Name}
use Rattle.graph_ops.specs.PlainGraph.{PlainGraph}
use Rattle.program_defs.specs.declared.program.Bound.{Bound}
use Rattle.program_defs.specs.Prices.{priced_edges}
use Rattle.program_defs.specs.PricedAnswer.{bound_at}
use Rattle.program_defs.specs.Rising.{is_rising}
use Rattle.program_defs.specs.Walks.{is_value}

-- whether a number is there, and is this one
abbrev pub is_number_there : Option ℕ → ℕ → Bool
is_number_there None n = false
is_number_there (Some m) n = m == n

-- whether a number is there, and is at most this one
abbrev pub is_number_within : Option ℕ → ℕ → Bool
is_number_within None n = false
is_number_within (Some m) n = nat_le m n

-- the start is listed exactly if it is there, with price 0
abbrev pub starts_at : Bool → Option ℕ → Bool
starts_at true bound = is_number_there bound 0
starts_at false bound = not (is_some bound)

module _ (graph : PlainGraph) (key from : Name) (bounds : List Bound) where
  -- a passing edge from a listed vertex meets the bound of this one
  abbrev pub is_meeting : Name → Bound → Bool
  is_meeting v bound =
      list_any (λ hop. same_name hop.0 v && is_number_there (bound_at bounds v) (bound.price + hop.1))
      (priced_edges key (graph bound.vertex))

  -- the first listed vertex of these
  abbrev pub parent_of : Name → Option Name
  parent_of v = option_map (λ (bound : Bound). bound.vertex) (find (is_meeting v) bounds)

  -- each target of a passing edge that is there is listed, with a bound of at most the vertex's and the price
  abbrev pub goes_onward : Bound → Bool
  goes_onward bound =
      list_all (λ hop. not (is_some (graph hop.0)) || is_number_within (bound_at bounds hop.0) (bound.price + hop.1))
      (priced_edges key (graph bound.vertex))

  -- from this vertex back to the start, over these
  abbrev pub goes_back : Name → List Name → Bool
  goes_back v [] = same_name from v
  goes_back v (u ∷ before) = is_value (parent_of v) u && goes_back u before

  -- a list, its last name first, that begins with this one and goes back
  abbrev pub goes_back_from : Name → List Name → Bool
  goes_back_from to [] = false
  goes_back_from to (v ∷ before) = same_name v to && goes_back to before

  -- a walk exactly if the target is listed, with its bound; else 0
  abbrev pub has_walk_back : Name → Option (List Name) → ℕ → Bool
  has_walk_back to None total = not (is_some (bound_at bounds to)) && total == 0
  has_walk_back to (Some walk) total =
      is_number_there (bound_at bounds to) total && goes_back_from to (reverse walk)

  -- all tests
  abbrev pub passes_tests : Name → Option (List Name) → ℕ → Bool
  passes_tests to walk total =
      is_rising (map (λ (bound : Bound). bound.vertex) bounds)
      && (list_all (λ (bound : Bound). is_some (graph bound.vertex)) bounds
      && ((starts_at (is_some (graph from)) (bound_at bounds from) && list_all goes_onward bounds)
      && (list_all (λ (bound : Bound). same_name from bound.vertex || is_some (parent_of bound.vertex)) bounds
      && has_walk_back to walk total)))
