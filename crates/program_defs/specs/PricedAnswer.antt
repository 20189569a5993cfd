-- The priced answer. There is no search.
use Rattle.std.specs.Prelude.{ℕ, ◌≡◌, ◌≤◌, ◌↔◌, IsTrue, List, [], ◌∷◌, map, reverse, Option, Some, None, is_some, if◌then◌else◌}
use Rattle.std.specs.Cmp.Lexicographic.{slice_cmp}
use Rattle.std.specs.Ordering.{is_le}
use Rattle.weave_data.specs.Names.{name_cmp, same_name}
use Rattle.weave_data.specs.declared.name.Name.{Name}
use Rattle.graph_ops.specs.PlainGraph.{PlainGraph}
use Rattle.program_defs.specs.declared.program.Bound.{Bound}
use Rattle.program_defs.specs.Prices.{price_of_walk}
use Rattle.program_defs.specs.Rising.{is_rising}

-- the price that is listed for a vertex
abbrev pub bound_at : List Bound → Name → Option ℕ
bound_at [] v = None
bound_at (bound ∷ rest) v = if same_name bound.vertex v then Some bound.price else bound_at rest v

-- the least price of a walk from one vertex to another
pub record IsLeastPrice (graph : PlainGraph) (key from to : Name) (price : ℕ) : Type 0 where
  pub met : (walk : List Name) × (price_of_walk graph key from to walk ≡ Some price)
  pub least : (walk : List Name) (other : ℕ) → price_of_walk graph key from to walk ≡ Some other → price ≤ other

-- the bounds list in byte order each vertex that has a walk from the start, with the least price of such a walk
pub record AreLeastPrices (graph : PlainGraph) (key from : Name) (bounds : List Bound) : Type 0 where
  pub rising : IsTrue (is_rising (map (λ (bound : Bound). bound.vertex) bounds))
  pub listed : (v : Name) → IsTrue (is_some (bound_at bounds v))
      ↔ ((walk : List Name) × IsTrue (is_some (price_of_walk graph key from v walk)))
  pub least : (v : Name) (price : ℕ) → bound_at bounds v ≡ Some price → IsLeastPrice graph key from v price

-- a walk of least price, and of these the first when lists of names are compared from their ends
pub record IsFirstWalk (graph : PlainGraph) (key from to : Name) (walk : List Name) (total : ℕ) : Type 0 where
  pub price : price_of_walk graph key from to walk ≡ Some total
  pub least : (other : List Name) (q : ℕ) → price_of_walk graph key from to other ≡ Some q → total ≤ q
  pub first : (other : List Name) → price_of_walk graph key from to other ≡ Some total
      → IsTrue (is_le (slice_cmp name_cmp (reverse walk) (reverse other)))

-- the walk of the answer and its total; none with total 0 if there is no walk
abbrev pub IsAnswerWalk : PlainGraph → Name → Name → Name → Option (List Name) → ℕ → Type 0
IsAnswerWalk graph key from to None total =
    (total ≡ 0) × ((walk : List Name) → price_of_walk graph key from to walk ≡ None)
IsAnswerWalk graph key from to (Some walk) total = IsFirstWalk graph key from to walk total

-- the priced answer
pub record IsPricedAnswer (graph : PlainGraph) (from to key : Name) (walk : Option (List Name)) (total : ℕ)
    (bounds : List Bound) : Type 0 where
  pub led : IsAnswerWalk graph key from to walk total
  pub priced : AreLeastPrices graph key from bounds
