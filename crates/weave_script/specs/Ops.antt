-- The lines of a transaction: operations, and its end.
use Rattle.std.specs.Prelude.{Bool, false, [], ◌∷◌, Ok, Err, codes, if◌then◌else◌}
use Rattle.std.specs.List.{list_all}
use Rattle.std.specs.Str.{bytes_eq}
use Rattle.weave_data.specs.Names.{is_name}
use Rattle.graph_ops.specs.Operations.{op_with}
use Rattle.graph_ops.specs.declared.op.Op.{Op}
use Rattle.graph_ops.specs.declared.op.Op.TheVariants.{Link, Join}
use Rattle.weave_text.specs.Lines.{Line}
use Rattle.weave_script.specs.declared.fault.Cause.TheVariants as causes
use Rattle.weave_data.specs.Steps.{◌>>=◌}
use Rattle.weave_script.specs.Fields.{ReadOrCause, or_refused}

-- the operation of a line in version 1: the one that has its first word, and takes the other words, if each of them is
-- a name
abbrev pub op_of : Line → ReadOrCause Op
op_of [] = Err causes.Line
op_of (word ∷ fields) =
    or_refused causes.Line (op_with word fields) >>= λ op. if list_all is_name fields then Ok op else Err causes.Name

-- an operation as a version means it: in version 2 a link is a join. It goes by the operation first, so that it
-- computes case by case.
abbrev pub op_in : Op → Bool → Op
op_in (Link v name target) joins = if joins then Join v name target else Link v name target
op_in op joins = op

-- the operation of a line in a version
abbrev pub op_in_line : Bool → Line → ReadOrCause Op
op_in_line joins line = op_of line >>= λ op. Ok (op_in op joins)

-- the line ends a transaction
abbrev pub is_end : Line → Bool
is_end (word ∷ []) = bytes_eq word (codes "end")
is_end _ = false
