-- The program `path` and its search.
use Rattle.std.specs.Prelude.{ℕ, ◌+◌, ◌/◌, List, Option}
use Rattle.weave_data.specs.declared.name.Name.{Name}
use Rattle.weave_data.specs.Limits.{most_edges}
use Rattle.graph_ops.specs.Operations.{State}
use Rattle.program_defs.specs.declared.program.Program.{Program}
use Rattle.program_defs.specs.declared.program.Program.TheVariants.{Path}
use Rattle.program_defs.specs.Searching.{next_of}
use Rattle.program_defs.specs.LeastWalks.{WalkState, HasWalked}
use Rattle.program_defs.specs.Walks.{filter_in}

-- which program it is
abbrev pub path_asked : Name → ℕ → WalkState → Program
path_asked to bound walk = Path walk.search.aim.from to bound (filter_in walk.search.aim.pass)

-- its search has read these states, the newest first
abbrev pub HasPathed : Name → ℕ → WalkState → List (Name × State) → Type 0
HasPathed to bound walk reads = HasWalked (path_asked to bound walk) walk reads

-- the vertex that its search reads next
abbrev pub next_pathed : WalkState → Option Name
next_pathed walk = next_of walk.search

-- the number of reads, of at most 1,000 edges each, for which there is room
abbrev pub path_reads_left : WalkState → ℕ
path_reads_left walk = walk.room / (most_edges + 1)
