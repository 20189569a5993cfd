-- Prices of edges and of walks. There is no search.
use Rattle.std.specs.Prelude.{◌≡◌, ◌⊎◌, ℕ, ◌+◌, min, ◌&&◌, nat_le, List, [], ◌∷◌, Option, Some, None, is_some, if◌then◌else◌}
use Rattle.std.specs.List.{filter_map}
use Rattle.std.specs.Map.{values_of}
use Rattle.weave_data.specs.Names.{same_name}
use Rattle.weave_data.specs.Pairs.{at_key}
use Rattle.weave_data.specs.declared.name.Name.{Name}
use Rattle.weave_text.specs.Numbers.{is_number, value_of}
use Rattle.graph_ops.specs.Operations.{State}
use Rattle.graph_ops.specs.PlainGraph.{PlainGraph}
use Rattle.graph_ops.specs.declared.record.Edge.{Edge}

-- the greatest price
abbrev pub most_price : ℕ
most_price = 1000000

-- the price that a tag's value says: a number from 1 to 1,000,000 without leading zeros
abbrev pub price_in : Option Name → Option ℕ
price_in None = None
price_in (Some text) =
    if is_number text && nat_le 1 (value_of text) && nat_le (value_of text) most_price then Some
    (value_of text) else None

-- a target with a price, if there is a price
abbrev pub with_price : Name → Option ℕ → Option (Name × ℕ)
with_price target None = None
with_price target (Some price) = Some (target, price)

-- a passing edge as its target and its price; it passes if its tag at the key says a price
abbrev pub priced_edge : Name → Edge → Option (Name × ℕ)
priced_edge key edge = with_price edge.target (price_in (at_key key edge.tags))

-- the passing edges of a vertex in this state; an absent one has none
abbrev pub priced_edges : Name → State → List (Name × ℕ)
priced_edges key None = []
priced_edges key (Some now) = filter_map (priced_edge key) (values_of now.edges)

-- an edge to this vertex with this price is among them
abbrev pub HasEdge : List (Name × ℕ) → Name → ℕ → Type 0
HasEdge [] v price = ⊥
HasEdge (hop ∷ rest) v price = (hop.0 ≡ v) × (hop.1 ≡ price) ⊎ HasEdge rest v price

-- the lesser of a price and one that may be missing
abbrev pub lesser : ℕ → Option ℕ → ℕ
lesser p None = p
lesser p (Some q) = min p q

-- the price from a vertex with these passing edges to another one: of several edges the least one's; None without one
abbrev pub least_price : Name → List (Name × ℕ) → Option ℕ
least_price w [] = None
least_price w (hop ∷ rest) = if same_name hop.0 w then Some (lesser hop.1 (least_price w rest)) else least_price w rest

-- the sum of two prices, if both are there
abbrev pub sum_of : Option ℕ → Option ℕ → Option ℕ
sum_of None b = None
sum_of (Some p) None = None
sum_of (Some p) (Some q) = Some (p + q)

-- the price of a walk from one vertex to another, which is the sum of its edges' prices; None if the list is no such
-- walk: it begins at the first and ends at the second, each of its vertices is there, and a passing edge joins each to
-- the next
abbrev pub price_of_walk : PlainGraph → Name → Name → Name → List Name → Option ℕ
price_of_walk graph key from to [] = None
price_of_walk graph key from to (v ∷ []) =
    if same_name from v && is_some (graph v) && same_name v to then Some 0 else None
price_of_walk graph key from to (v ∷ w ∷ rest) =
    if same_name from v then
    sum_of (least_price w (priced_edges key (graph v))) (price_of_walk graph key w to (w ∷ rest)) else None
