-- Any of the node programs: what each says of itself.
use Rattle.std.specs.Prelude.{ℕ, List, Option}
use Rattle.weave_data.specs.declared.name.Name.{Name}
use Rattle.graph_ops.specs.Operations.{State}
use Rattle.program_defs.specs.declared.program.Program.{Program}
use Rattle.program_defs.specs.declared.program.Program.TheVariants.{Show as TheShow}
use Rattle.node_program.specs.Show.{HasShown, next_shown}
use Rattle.reach_program.specs.Reach.{program_asked, HasReached, next_reached, reach_reads_left as reached_left}
use Rattle.program_defs.specs.Searching.{next_of}
use Rattle.priced_path.specs.Price.{price_asked, HasPriced, price_reads_left}
use Rattle.path_program.specs.declared.any.AnyProgram.{AnyProgram}
use Rattle.path_program.specs.declared.any.AnyProgram.TheVariants.{Show, Reach, Path, Price}
use Rattle.path_program.specs.Path.{path_asked, HasPathed, next_pathed, path_reads_left as pathed_left}

-- which program it is
abbrev pub any_of : AnyProgram → Program
any_of (Show walk) = TheShow walk.v
any_of (Reach walk) = program_asked walk.goal walk.search.value.aim
any_of (Path walk) = path_asked walk.to walk.bound walk.search.value
any_of (Price walk) = price_asked walk.to walk.key walk.search

-- it has read these states, the newest first
abbrev pub HasRead : AnyProgram → List (Name × State) → Type 0
HasRead (Show walk) reads = HasShown walk.v walk.read reads
HasRead (Reach walk) reads = HasReached walk.goal walk.search.value reads
HasRead (Path walk) reads = HasPathed walk.to walk.bound walk.search.value reads
HasRead (Price walk) reads = HasPriced walk.to walk.key walk.search walk.edges reads

-- the vertex that it reads next
abbrev pub next_read : AnyProgram → Option Name
next_read (Show walk) = next_shown walk.v walk.read
next_read (Reach walk) = next_reached walk.search.value
next_read (Path walk) = next_pathed walk.search.value
next_read (Price walk) = next_of walk.search

-- the number of reads for which there is room
abbrev pub reads_left : AnyProgram → ℕ
reads_left (Show walk) = 1
reads_left (Reach walk) = reached_left walk.search.value
reads_left (Path walk) = pathed_left walk.search.value
reads_left (Price walk) = price_reads_left walk.search walk.room
