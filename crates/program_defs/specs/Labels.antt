-- Numbered vertices with labels, and the passing edges between them by number.
use Rattle.std.specs.Prelude.{ℕ, ◌+◌, ◌<◌, ◌≤◌, ◌≡◌, ◌⊎◌, false, IsTrue, List, [], ◌∷◌, ◌++◌, map, Option, Some, None, is_some, length, slice_index_or, slice_get}
use Rattle.weave_data.specs.declared.name.Name.{Name}
use Rattle.graph_ops.specs.Mentions.{is_among}
use Rattle.graph_ops.specs.PlainGraph.{PlainGraph}
use Rattle.program_defs.specs.declared.program.Bound.{Bound}
use Rattle.program_defs.specs.Prices.{most_price, priced_edges, HasEdge}
use Rattle.program_defs.specs.Rising.{is_rising}

-- the label of a vertex
abbrev pub label_in : List (Option ℕ) → ℕ → Option ℕ
label_in labels v = slice_index_or labels v None

-- the passing edges of a vertex: the number of the target, and the price
abbrev pub row_in : List (List (ℕ × ℕ)) → ℕ → List (ℕ × ℕ)
row_in rows u = slice_index_or rows u []

-- each edge leads to a numbered vertex, at a price from 1 to the greatest
abbrev pub AreRows : List (List (ℕ × ℕ)) → Type 0
AreRows rows = (u k v price : ℕ) → slice_get (row_in rows u) k ≡ Some (v, price)
    → (v < length rows) × (1 ≤ price) × (price ≤ most_price)

-- the vertices are there, in byte order, and the rows are the passing edges between them
pub record AreRowsOf (graph : PlainGraph) (key : Name) (vertices : List Name) (rows : List (List (ℕ × ℕ))) : Type 0
  where
    pub rising : IsTrue (is_rising vertices)
    pub present : (i : ℕ) (v : Name) → slice_get vertices i ≡ Some v → IsTrue (is_some (graph v))
    pub edges : (i k j price : ℕ) (v : Name) → slice_get vertices i ≡ Some v
        → slice_get (row_in rows i) k ≡ Some (j, price)
        → (w : Name) × (slice_get vertices j ≡ Some w) × HasEdge (priced_edges key (graph v)) w price
    pub all : (i price : ℕ) (v w : Name) → slice_get vertices i ≡ Some v → HasEdge (priced_edges key (graph v)) w price
        → IsTrue (is_some (graph w))
        → (j k : ℕ) × (slice_get vertices j ≡ Some w) × (slice_get (row_in rows i) k ≡ Some (j, price))

-- the row of a vertex has its passing edges to vertices that are there. No public contract cites this.
pub record IsRowOf (graph : PlainGraph) (vertices : List Name) (passing : List (Name × ℕ)) (row : List (ℕ × ℕ)) : Type 0
  where
    pub edges : (k j price : ℕ) → slice_get row k ≡ Some (j, price)
        → (w : Name) × (slice_get vertices j ≡ Some w) × HasEdge passing w price
    pub all : (price : ℕ) (w : Name) → HasEdge passing w price → IsTrue (is_some (graph w))
        → (j k : ℕ) × (slice_get vertices j ≡ Some w) × (slice_get row k ≡ Some (j, price))

-- an edge with this price, if it has one, is added if its target is listed, and left out if that is absent. No public
-- contract cites this.
abbrev pub AddsEdge : PlainGraph → List Name → Name → Option ℕ → List (ℕ × ℕ) → List (ℕ × ℕ) → Type 0
AddsEdge graph vertices target None old new = new ≡ old
AddsEdge graph vertices target (Some price) old new =
    ((place : ℕ) × (slice_get vertices place ≡ Some target) × (new ≡ old ++ (place, price) ∷ []))
    ⊎ ((is_some (graph target) ≡ false) × (new ≡ old))

-- it has a price, and leads to a vertex that is there and isn't listed. No public contract cites this.
abbrev pub IsUnlisted : PlainGraph → List Name → Name → Option ℕ → Type 0
IsUnlisted graph vertices target None = ⊥
IsUnlisted graph vertices target (Some price) = IsTrue (is_some (graph target)) × (is_among vertices target ≡ false)

-- the vertices rise in byte order, are there, and have each target of their passing edges that is there. No public
-- contract cites this.
pub record HoldsListed (graph : PlainGraph) (key : Name) (vertices : List Name) : Type 0 where
  pub rising : IsTrue (is_rising vertices)
  pub present : (v : Name) → IsTrue (is_among vertices v) → IsTrue (is_some (graph v))
  pub onward : (u v : Name) (price : ℕ) → IsTrue (is_among vertices u) → HasEdge (priced_edges key (graph u)) v price
      → IsTrue (is_some (graph v)) → IsTrue (is_among vertices v)

-- the names of bounds, and their prices as labels. No public contract cites this.
abbrev pub listed_names : List Bound → List Name
listed_names bounds = map (λ (bound : Bound). bound.vertex) bounds

abbrev pub listed_prices : List Bound → List (Option ℕ)
listed_prices bounds = map (λ (bound : Bound). Some bound.price) bounds

-- these bounds by number: the vertices, and the passing edges between them. No public contract cites this.
pub record AreNumbersOf (graph : PlainGraph) (key : Name) (bounds : List Bound) (vertices : List Name)
    (labels : List (Option ℕ)) (rows : List (List (ℕ × ℕ))) : Type 0 where
  pub names : vertices ≡ listed_names bounds
  pub prices : labels ≡ listed_prices bounds
  pub between : AreRowsOf graph key vertices rows
  pub all : AreRows rows
  pub len : length rows ≡ length vertices

-- the vertices with a label, each with its label as its bound
abbrev pub bounds_of : List Name → List (Option ℕ) → List Bound
bounds_of [] labels = []
bounds_of (v ∷ vertices) [] = []
bounds_of (v ∷ vertices) (None ∷ labels) = bounds_of vertices labels
bounds_of (v ∷ vertices) (Some label ∷ labels) = record { vertex = v; price = label } ∷ bounds_of vertices labels

-- the vertex has a label of at most this price
abbrev pub IsLabelledWithin : (ℕ → Option ℕ) → ℕ → ℕ → Type 0
IsLabelledWithin label w price = (e : ℕ) × (label w ≡ Some e) × (e ≤ price)

-- an edge of a labelled vertex leads to one whose label is at most the sum of label and price
abbrev pub AreOnward : (ℕ → List (ℕ × ℕ)) → (ℕ → Option ℕ) → Type 0
AreOnward edges_at label = (u d k w p : ℕ) → label u ≡ Some d → slice_get (edges_at u) k ≡ Some (w, p)
    → IsLabelledWithin label w (d + p)

-- the labels are a certificate: the start has 0; they are onward; and each labelled vertex but the start has an edge
-- from a labelled one whose label and price make its own
pub record IsCertificate (edges_at : ℕ → List (ℕ × ℕ)) (start : ℕ) (label : ℕ → Option ℕ) : Type 0 where
  pub begin : label start ≡ Some 0
  pub onward : AreOnward edges_at label
  pub met : (v d : ℕ) → label v ≡ Some d → (v ≡ start → ⊥)
      → (u e k p : ℕ) × (label u ≡ Some e) × (slice_get (edges_at u) k ≡ Some (v, p)) × (d ≡ e + p)
