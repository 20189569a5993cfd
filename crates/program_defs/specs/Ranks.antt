-- The order of the least walks, level by level: each vertex has a parent, and a rank within its level. No public
-- contract names it: `LeastWalks` and proofs use it.
use Rattle.std.specs.Prelude.{ℕ, zero, suc, ◌≡◌, ◌<◌, ◌≤◌, ◌⊎◌, IsTrue, List, [], ◌∷◌, ◌++◌}
use Rattle.std.specs.Ordering.{is_le}
use Rattle.weave_data.specs.Names.{name_cmp}
use Rattle.weave_data.specs.declared.name.Name.{Name}
use Rattle.graph_ops.specs.Mentions.{is_among}
use Rattle.graph_ops.specs.PlainGraph.{PlainGraph}
use Rattle.program_defs.specs.declared.passing.Passing.{Passing}
use Rattle.program_defs.specs.Visits.{levels_to}
use Rattle.program_defs.specs.Walks.{targets}

-- the first pair of a rank and a name comes no later than the second: by rank, and by name within a rank
abbrev pub ComesNoLater : ℕ → ℕ → Name → Name → Type 0
ComesNoLater r s v w = (r < s) ⊎ ((r ≡ s) × IsTrue (is_le (name_cmp v w)))

-- the parents of level n + 1 are the sources of least rank in level n, and the vertices of level n + 1 are ranked by
-- their parents' ranks, and then by name
pub record IsRankedAt (n : ℕ) (graph : PlainGraph) (pass : Passing) (from : Name) (parent : Name
    → Name) (rank : Name → ℕ) : Type 0 where
  pub before : (v : Name) → IsTrue (is_among (levels_to (suc n) graph pass from).level v)
      → IsTrue (is_among (levels_to n graph pass from).level (parent v))
  pub edge : (v : Name) → IsTrue (is_among (levels_to (suc n) graph pass from).level v)
      → IsTrue (is_among (targets pass (graph (parent v))) v)
  pub first : (v u : Name) → IsTrue (is_among (levels_to (suc n) graph pass from).level v)
      → IsTrue (is_among (levels_to n graph pass from).level u) → IsTrue (is_among (targets pass (graph u)) v)
      → rank (parent v) ≤ rank u
  pub order : (v w : Name) → IsTrue (is_among (levels_to (suc n) graph pass from).level v)
      → IsTrue (is_among (levels_to (suc n) graph pass from).level w) → rank v ≤ rank w
      → ComesNoLater (rank (parent v)) (rank (parent w)) v w

-- the list of n edges that leads back over parents from a vertex, turned round
abbrev pub trace : (Name → Name) → ℕ → Name → List Name
trace parent zero v = v ∷ []
trace parent (suc n) v = trace parent n (parent v) ++ v ∷ []
