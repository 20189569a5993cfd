-- Graphs that have the same states at some vertices.
use Rattle.std.specs.Prelude.{ℕ, ◌≡◌, IsTrue, List}
use Rattle.std.specs.Map.{keys_of}
use Rattle.weave_data.specs.declared.name.Name.{Name}
use Rattle.graph_ops.specs.Mentions.{is_among}
use Rattle.graph_ops.specs.Operations.{State}
use Rattle.graph_ops.specs.PlainGraph.{PlainGraph}
use Rattle.program_defs.specs.declared.program.Program.{Program}
use Rattle.program_defs.specs.Prices.{priced_edges, HasEdge}
use Rattle.program_defs.specs.Visits.{IsVisited, graph_read}

-- the graphs have the same state at each of these vertices. No public contract cites this.
abbrev pub Agree : PlainGraph → PlainGraph → List Name → Type 0
Agree g h vertices = (v : Name) → IsTrue (is_among vertices v) → g v ≡ h v

-- the graphs have the same state at each vertex that the program visits in the first one
abbrev pub AgreeOnVisits : PlainGraph → PlainGraph → Program → Type 0
AgreeOnVisits g h program = (v : Name) → IsVisited g program v → g v ≡ h v

-- the reads are of the same vertices, and have the same state of each
pub record AreSameReads (a b : List (Name × State)) : Type 0 where
  pub vertices : (v : Name) → is_among (keys_of a) v ≡ is_among (keys_of b) v
  pub states : (v : Name) → graph_read a v ≡ graph_read b v

-- these vertices have the start, and with a vertex each target of its passing edges, there or not. No public contract
-- cites this.
pub record HoldsTargets (graph : PlainGraph) (key from : Name) (Has : Name → Type 0) : Type 0 where
  pub start : Has from
  pub onward : (u v : Name) (price : ℕ) → Has u → HasEdge (priced_edges key (graph u)) v price → Has v

-- the graphs have the same states at these vertices. No public contract cites this.
abbrev pub AgreeOn : PlainGraph → PlainGraph → (Name → Type 0) → Type 0
AgreeOn g h Has = (v : Name) → Has v → g v ≡ h v
