-- How many links a script makes.
use Rattle.std.specs.Prelude.{ℕ, Bool, List, count_by, is_some}
use Rattle.std.specs.List.{flat_map}
use Rattle.graph_ops.specs.Operations.{target_of}
use Rattle.graph_ops.specs.declared.op.Op.{Op}
use Rattle.program_defs.specs.declared.script.Request.{Request}
use Rattle.program_defs.specs.declared.script.Script.{Script}
use Rattle.program_defs.specs.Works.{ops_of}

-- the operation makes an edge
abbrev pub is_link : Op → Bool
is_link op = is_some (target_of op)

-- the operations of all requests, in script order
abbrev pub ops_of_script : Script → List Op
ops_of_script script = flat_map (λ (request : Request). ops_of request.work) script.requests

-- how many of them make an edge
abbrev pub link_count : Script → ℕ
link_count script = count_by is_link (ops_of_script script)
