-- The limits on a script, and what of it they count.
use Rattle.std.specs.Prelude.{ℕ, ◌<◌, ◌≤◌, List, [], ◌∷◌, length, fold, sum_by, count_by, Option, Some, None, option_to_list, nat_lt, if◌then◌else◌}
use Rattle.std.specs.List.{flat_map}
use Rattle.weave_data.specs.declared.name.Name.{Name}
use Rattle.weave_data.specs.Limits.{most_bytes, most_gets, most_ops, most_programs, most_requests, most_steps, most_vertices}
use Rattle.graph_ops.specs.Mentions.{with_name}
use Rattle.graph_ops.specs.Operations.{is_get, target_of, vertex_of}
use Rattle.graph_ops.specs.declared.op.Op.{Op}
use Rattle.program_defs.specs.declared.program.Program.{Program}
use Rattle.program_defs.specs.declared.program.Program.TheVariants.{Show, Reach, Around, Path, Price}
use Rattle.program_defs.specs.declared.script.Request.{Request}
use Rattle.program_defs.specs.declared.script.Work.{Work}
use Rattle.program_defs.specs.declared.script.Work.TheVariants.{Change, Look}
use Rattle.program_defs.specs.Works.{is_look}
use Rattle.weave_script.specs.declared.fault.Cause.{Cause}
use Rattle.weave_script.specs.declared.fault.Cause.TheVariants as causes
use Rattle.weave_script.specs.declared.read.partial_script.Counts.{Counts}

-- a text that may be read, and one that is too long
abbrev pub IsShort : List ℕ → Type 0
IsShort bytes = length bytes ≤ most_bytes

abbrev pub IsLong : List ℕ → Type 0
IsLong bytes = most_bytes < length bytes

-- the table of limits: the cause of the first one that is met
abbrev pub over_limit : Counts → Option Cause
over_limit counts =
    if nat_lt most_ops counts.operations then Some causes.Operations
    else if nat_lt most_requests counts.requests then Some causes.Requests
    else if nat_lt most_programs counts.programs then Some causes.Programs
    else if nat_lt most_gets counts.gets then Some causes.Gets
    else if nat_lt most_vertices counts.vertices then Some causes.Vertices
    else if nat_lt most_steps counts.steps then Some causes.Steps
    else None

-- the names in an operation that are of vertices
abbrev pub vertices_of_op : Op → List Name
vertices_of_op op = vertex_of op ∷ option_to_list (target_of op)

-- and in a program
abbrev pub vertices_of_program : Program → List Name
vertices_of_program (Show v) = v ∷ []
vertices_of_program (Reach from to pass) = from ∷ to ∷ []
vertices_of_program (Around from bound pass) = from ∷ []
vertices_of_program (Path from to bound pass) = from ∷ to ∷ []
vertices_of_program (Price from to key) = from ∷ to ∷ []

-- and in a piece of work
abbrev pub vertices_of_work : Work → List Name
vertices_of_work (Change ops) = flat_map vertices_of_op ops
vertices_of_work (Look program) = vertices_of_program program

-- names with some more, each once
abbrev pub with_names : List Name → List Name → List Name
with_names so_far names = fold (λ so_far name. with_name name so_far) so_far names

-- the different names of vertices in requests
abbrev pub vertices_of : List Request → List Name
vertices_of requests = with_names [] (flat_map (λ request. vertices_of_work request.work) requests)

-- how many operations of a transaction are `get`
abbrev pub gets_of_work : Work → ℕ
gets_of_work (Change ops) = count_by is_get ops
gets_of_work (Look program) = 0

-- and how many in all
abbrev pub count_gets : List Request → ℕ
count_gets requests = sum_by (λ request. gets_of_work request.work) requests

-- how many requests are programs
abbrev pub count_programs : List Request → ℕ
count_programs requests = count_by (λ request. is_look request.work) requests

-- the counts of a script, by the numbers of an open transaction's operations and of steps, and by the requests
abbrev pub counts_of_script : ℕ → List Request → ℕ → Counts
counts_of_script operations requests steps = record {
  operations = operations;
  requests = length requests;
  programs = count_programs requests;
  gets = count_gets requests;
  vertices = length (vertices_of requests);
  steps = steps;
}
