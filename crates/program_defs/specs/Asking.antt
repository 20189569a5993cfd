-- Searches of a whole graph. No public contract names it: it is for proofs.
use Rattle.std.specs.Prelude.{◌≡◌, ℕ, not, List, ◌∷◌, length, None, Some}
use Rattle.std.specs.FinMap as map
use Rattle.std.specs.List.{filter, flat_map}
use Rattle.std.specs.Map.{keys_of}
use Rattle.weave_data.specs.declared.name.Name.{Name}
use Rattle.graph_ops.specs.Graphs.{Vertices}
use Rattle.graph_ops.specs.Mentions.{is_among}
use Rattle.graph_ops.specs.Operations.{State}
use Rattle.graph_ops.specs.PlainGraph.{PlainGraph}
use Rattle.program_defs.specs.declared.aim.Aim.{Aim}
use Rattle.program_defs.specs.declared.program.Program.{Program}
use Rattle.program_defs.specs.Agreement.{Agree}
use Rattle.program_defs.specs.Searching.{SearchState, HasSearched, has_name, next_of}
use Rattle.program_defs.specs.Visits.{graph_read}
use Rattle.program_defs.specs.LeastWalks.{WalkState, HasWalked}
use Rattle.program_defs.specs.Walks.{targets}

-- the search has read states of the graph, and no others
pub record HasReadOf (program : Program) (graph : PlainGraph) (search : SearchState) : Type 0 where
  pub reads : List (Name × State)
  pub searched : HasSearched program search reads
  pub agree : Agree (graph_read reads) graph (keys_of reads)

-- it has read all that the program visits there
pub record HasAllRead (program : Program) (graph : PlainGraph) (search : SearchState) : Type 0 where
  pub read : HasReadOf program graph search
  pub over : next_of search ≡ None

-- the search for the least walk has read states of the graph, and no others
pub record HasWalkedOf (program : Program) (graph : PlainGraph) (walk : WalkState) : Type 0 where
  pub reads : List (Name × State)
  pub walked : HasWalked program walk reads
  pub agree : Agree (graph_read reads) graph (keys_of reads)

-- it has read all that the program visits there
pub record HasAllWalked (program : Program) (graph : PlainGraph) (walk : WalkState) : Type 0 where
  pub read : HasWalkedOf program graph walk
  pub over : next_of walk.search ≡ None

-- these are the vertices that were read
abbrev pub AreRead : List (Name × State) → List Name → Type 0
AreRead reads names = (v : Name) → has_name names v ≡ is_among (keys_of reads) v

-- the search has read states of the graph, and no others; of these vertices
pub record HasReadNames (program : Program) (graph : PlainGraph) (search : SearchState) (names : List Name) : Type 0
  where
    pub read : HasReadOf program graph search
    pub noted : AreRead read.reads names

-- it has read all that the program visits there
pub record HasReadVisits (program : Program) (graph : PlainGraph) (search : SearchState) (names : List Name) : Type 0
  where
    pub all : HasAllRead program graph search
    pub noted : AreRead all.read.reads names

-- the same of the search for the least walk
pub record HasNotedWalk (program : Program) (graph : PlainGraph) (walk : WalkState) (names : List Name) : Type 0 where
  pub read : HasWalkedOf program graph walk
  pub noted : AreRead read.reads names

pub record HasWalkedVisits (program : Program) (graph : PlainGraph) (walk : WalkState) (names : List Name) : Type 0
  where
    pub all : HasAllWalked program graph walk
    pub noted : AreRead all.read.reads names

-- the names that a search of a graph can ask for: the start, and the targets of the passing edges
abbrev pub names_asked : Vertices → Aim → List Name
names_asked graph aim = aim.from ∷ flat_map (λ entry. targets aim.pass (Some entry.1)) (map.entries graph)

-- the number of them that are not among those read
abbrev pub count_unread : Vertices → Aim → List Name → ℕ
count_unread graph aim read = length (filter (λ v. not (has_name read v)) (names_asked graph aim))
