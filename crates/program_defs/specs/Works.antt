-- What a request asks for: a transaction or a program.
use Rattle.std.specs.Prelude.{Bool, true, false, List, []}
use Rattle.graph_ops.specs.declared.op.Op.{Op}
use Rattle.program_defs.specs.declared.script.Work.{Work}
use Rattle.program_defs.specs.declared.script.Work.TheVariants.{Change, Look}

-- the work is a transaction
abbrev pub is_change : Work → Bool
is_change (Change ops) = true
is_change (Look program) = false

-- the work is a program
abbrev pub is_look : Work → Bool
is_look (Change ops) = false
is_look (Look program) = true

-- a transaction's operations; a program has none
abbrev pub ops_of : Work → List Op
ops_of (Change ops) = ops
ops_of (Look program) = []
