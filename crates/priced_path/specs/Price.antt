-- The program `price`, its search and the edges that it keeps.
use Rattle.std.specs.Prelude.{ℕ, ◌+◌, ◌/◌, min, List}
use Rattle.weave_data.specs.declared.name.Name.{Name}
use Rattle.weave_data.specs.Limits.{most_edges}
use Rattle.graph_ops.specs.Operations.{State}
use Rattle.program_defs.specs.declared.program.Program.{Program}
use Rattle.program_defs.specs.declared.program.Program.TheVariants.{Price}
use Rattle.program_defs.specs.Searching.{SearchState, HasSearched}
use Rattle.program_defs.specs.Visits.{graph_read}
use Rattle.priced_path.specs.declared.kept_edge.KeptEdge.{KeptEdge}
use Rattle.priced_path.specs.Kept.{AreEdgesOf}

-- what contracts see of it: the target, the key of the prices, the search level by level, the edges that were kept, and
-- for how many more there is room
pub record PriceState : Type 0 where
  pub to : Name
  pub key : Name
  pub search : SearchState
  pub edges : List KeptEdge
  pub room : ℕ

-- which program it is
abbrev pub price_asked : Name → Name → SearchState → Program
price_asked to key search = Price search.aim.from to key

-- it has read these states, the newest first, and kept their passing edges
pub record HasPriced (to key : Name) (search : SearchState) (edges : List KeptEdge) (reads : List (Name × State)) :
    Type 0 where
  pub searched : HasSearched (price_asked to key search) search reads
  pub kept : AreEdgesOf (graph_read reads) key edges

-- it has read some states
abbrev pub IsPricing : Name → Name → SearchState → List KeptEdge → Type 0
IsPricing to key search edges = (reads : List (Name × State)) × HasPriced to key search edges reads

-- the number of reads, of at most 1,000 edges each, for which there is room
abbrev pub price_reads_left : SearchState → ℕ → ℕ
price_reads_left search room = min (search.room / (most_edges + 1)) (room / most_edges)
