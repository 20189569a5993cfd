-- The programs `reach` and `around` and their searches.
use Rattle.std.specs.Prelude.{ℕ, ◌+◌, ◌/◌, List, Option}
use Rattle.weave_data.specs.declared.name.Name.{Name}
use Rattle.weave_data.specs.Limits.{most_edges}
use Rattle.graph_ops.specs.Operations.{State}
use Rattle.program_defs.specs.declared.aim.Aim.{Aim}
use Rattle.program_defs.specs.declared.program.Program.{Program}
use Rattle.program_defs.specs.declared.program.Program.TheVariants.{Reach, Around}
use Rattle.program_defs.specs.Searching.{SearchState, HasSearched, next_of}
use Rattle.program_defs.specs.Walks.{filter_in}
use Rattle.reach_program.specs.declared.reach.Goal.{Goal}
use Rattle.reach_program.specs.declared.reach.Goal.TheVariants.{To, Within}

-- which program it is
abbrev pub program_asked : Goal → Aim → Program
program_asked (To to) aim = Reach aim.from to (filter_in aim.pass)
program_asked (Within bound) aim = Around aim.from bound (filter_in aim.pass)

-- its search has read these states, the newest first
abbrev pub HasReached : Goal → SearchState → List (Name × State) → Type 0
HasReached goal search reads = HasSearched (program_asked goal search.aim) search reads

-- the vertex that its search reads next
abbrev pub next_reached : SearchState → Option Name
next_reached search = next_of search

-- the number of reads, of at most 1,000 edges each, for which there is room
abbrev pub reach_reads_left : SearchState → ℕ
reach_reads_left search = search.room / (most_edges + 1)
