-- The passing edges that were kept, and rows made of them.
use Rattle.std.specs.Prelude.{ℕ, ◌≡◌, ◌≤◌, ◌⊎◌, ◌↔◌, List, [], ◌∷◌, Some, is_some, length, map, slice_get}
use Rattle.weave_data.specs.declared.name.Name.{Name}
use Rattle.graph_ops.specs.Mentions.{is_among}
use Rattle.graph_ops.specs.PlainGraph.{PlainGraph}
use Rattle.program_defs.specs.Labels.{row_in}
use Rattle.program_defs.specs.Prices.{most_price, priced_edges, HasEdge}
use Rattle.program_defs.specs.PlainAnswer.{IsPlainAnswer}
use Rattle.program_defs.specs.declared.program.Answer.{Answer}
use Rattle.program_defs.specs.declared.program.Program.TheVariants.{Price}
use Rattle.priced_path.specs.declared.kept_edge.KeptEdge.{KeptEdge}

-- an edge from the first vertex to the second at this price is kept
abbrev pub HasKept : List KeptEdge → Name → Name → ℕ → Type 0
HasKept [] v w price = ⊥
HasKept (edge ∷ rest) v w price = ((edge.from ≡ v) × (edge.target ≡ w) × (edge.price ≡ price)) ⊎ HasKept rest v w price

-- the passing edges of a vertex, as they are kept. No public contract cites this.
abbrev pub as_kept : Name → List (Name × ℕ) → List KeptEdge
as_kept v edges = map (λ edge. record { from = v; target = edge.0; price = edge.1 }) edges

-- each price is from 1 to the greatest. No public contract cites this.
abbrev pub ArePriced : List KeptEdge → Type 0
ArePriced edges = (v w : Name) (price : ℕ) → HasKept edges v w price → (1 ≤ price) × (price ≤ most_price)

-- the kept edges are the passing edges of the graph, and no others
abbrev pub AreEdgesOf : PlainGraph → Name → List KeptEdge → Type 0
AreEdgesOf graph key edges = (v w : Name) (price : ℕ)
    → HasKept edges v w price ↔ HasEdge (priced_edges key (graph v)) w price

-- these are the vertices of the graph, and the kept edges are its passing edges. No public contract cites this.
pub record IsGraphKept (graph : PlainGraph) (key : Name) (vertices : List Name) (edges : List KeptEdge) : Type 0 where
  pub vertices_are : (v : Name) → is_among vertices v ≡ is_some (graph v)
  pub edges_are : AreEdgesOf graph key edges

-- it is the plain answer on each graph that has these vertices and these passing edges. No public contract cites this.
abbrev pub IsAnswerOver : List Name → List KeptEdge → Name → Name → Answer → Type 0
IsAnswerOver vertices edges from to answer = (graph : PlainGraph) (key : Name) → IsGraphKept graph key vertices edges
    → IsPlainAnswer graph (Price from to key) answer

-- the rows have the kept edges between these vertices, and no others. No public contract cites this.
pub record AreRowsKept (vertices : List Name) (edges : List KeptEdge) (rows : List (List (ℕ × ℕ))) : Type 0 where
  pub all : length rows ≡ length vertices
  pub kept : (i k j price : ℕ) → slice_get (row_in rows i) k ≡ Some (j, price)
      → (v : Name) × (w : Name) × (slice_get vertices i ≡ Some v) × (slice_get vertices j ≡ Some w)
      × HasKept edges v w price
  pub each : (i j price : ℕ) (v w : Name) → slice_get vertices i ≡ Some v → slice_get vertices j ≡ Some w
      → HasKept edges v w price → (k : ℕ) × (slice_get (row_in rows i) k ≡ Some (j, price))
