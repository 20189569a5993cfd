-- The lines of replies as they are read. The number of words and the fixed ones are judged first, then the fields from
-- the left, and last whether the request is the script's and of the line's kind. Of a finished program the name is
-- judged before the form of its answer.
use Rattle.std.specs.Prelude.{ℕ, Bool, true, false, ◌+◌, ◌&&◌, List, [], ◌∷◌, ◌++◌, Option, Some, None, Ok, Err, option_and_then, codes, if◌then◌else◌}
use Rattle.std.specs.Option.{option_map_or}
use Rattle.std.specs.Str.{bytes_eq}
use Rattle.weave_data.specs.Names.{same_name}
use Rattle.weave_data.specs.declared.name.Name.{Name}
use Rattle.weave_text.specs.Cutting.{is_empty}
use Rattle.weave_text.specs.Lines.{Word}
use Rattle.graph_ops.specs.declared.op.Op.{Op}
use Rattle.graph_ops.specs.declared.tx.Got.{Got}
use Rattle.program_defs.specs.declared.program.Program.{Program}
use Rattle.program_defs.specs.declared.script.Script.{Script}
use Rattle.program_defs.specs.declared.script.Request.{Request}
use Rattle.program_defs.specs.declared.script.Work.{Work}
use Rattle.program_defs.specs.declared.script.Work.TheVariants.{Change, Look}
use Rattle.weave_report.specs.declared.fault.ReportCause.TheVariants as cause
use Rattle.weave_report.specs.declared.read.parts.ReplyLine.{ReplyLine}
use Rattle.weave_report.specs.declared.read.parts.ReplyLine.TheVariants.{Whole, Committed}
use Rattle.report_rules.specs.declared.report.ReplyState.TheVariants as told
use Rattle.program_defs.specs.Works.{ops_of}
use Rattle.weave_data.specs.Steps.{◌>>=◌}
use Rattle.weave_report.specs.ReadingFields.{ReadResult, or_cause, name_in, read_number, small_number_in, this_number_in, reason_in, read_stamp}
use Rattle.weave_report.specs.ReadingStates.{is_state_form, read_state, is_answer_form, answer_in}
use Rattle.report_rules.specs.ReportOf.{numbers_of_gets}
use Rattle.report_rules.specs.Lookups.{is_program, request_at}

-- Requests by name

-- the number of the first of these requests that has the name, counted on from this number
abbrev pub request_from : ℕ → Name → List Request → Option ℕ
request_from r name [] = None
request_from r name (request ∷ requests) =
    if same_name request.name name then Some r else request_from (r + 1) name requests

-- the number of the request of a name
abbrev pub request_named : Script → Name → Option ℕ
request_named script name = request_from 0 name script.requests

-- the request, if it is of the kind asked for: a program, or a transaction
abbrev pub of_kind : Bool → Script → ℕ → Option ℕ
of_kind true script r = if is_program script r then Some r else None
of_kind false script r = if is_program script r then None else Some r

-- the program or transaction of a name
abbrev pub kind_named : Bool → Script → Name → ReadResult ℕ
kind_named program script name =
    or_cause cause.Request (option_and_then (of_kind program script) (request_named script name))

-- the request of a name
abbrev pub any_named : Script → Name → ReadResult ℕ
any_named script name = or_cause cause.Request (request_named script name)

-- more requests, by their names, after these
abbrev pub named_from : Script → List ℕ → List Name → ReadResult (List ℕ)
named_from script before [] = Ok before
named_from script before (name ∷ names) = any_named script name >>= λ r. named_from script (before ++ r ∷ []) names

-- a transaction's operations; a program and a request that isn't there have none
abbrev pub ops_of_request : Script → ℕ → List Op
ops_of_request script r = option_map_or (λ (request : Request). ops_of request.work) (request_at script r) []

-- the numbers of a transaction's `get`s
abbrev pub get_numbers : Script → ℕ → List ℕ
get_numbers script r = numbers_of_gets 1 (ops_of_request script r)

-- a request that has not begun
abbrev pub unbegun_in : Bool → Script → Word → ReadResult ReplyLine
unbegun_in program script name = name_in name >>= λ name. kind_named program script name >>= λ r.
    Ok (Whole (record { request = r; stamp = None; state = told.Unbegun }))

-- a begun request that has no verdict or answer
abbrev pub read_begun : Bool → Script → Word → Word → ReadResult ReplyLine
read_begun program script name stamp =
    name_in name >>= λ name. read_stamp script.gates stamp >>= λ stamp. kind_named program script name >>= λ r.
    Ok (Whole (record { request = r; stamp = Some stamp; state = told.Begun }))

-- a committed transaction
abbrev pub committed_in : Script → Word → Word → Word → ReadResult ReplyLine
committed_in script name stamp number =
    name_in name >>= λ name. read_stamp script.gates stamp >>= λ stamp. read_number number >>= λ number.
    kind_named false script name >>= λ r.
    Ok (Committed (record { request = r; stamp = stamp; number = number; gets = get_numbers script r }))

-- a transaction that is aborted by a conflict
abbrev pub conflict_in : Script → Word → Word → Word → Word → ReadResult ReplyLine
conflict_in script name stamp vertex newer =
    name_in name >>= λ name. read_stamp script.gates stamp >>= λ stamp. name_in vertex >>= λ vertex.
    name_in newer >>= λ newer. kind_named false script name >>= λ r. any_named script newer >>= λ newer.
    Ok (Whole (record { request = r; stamp = Some stamp; state = told.Conflict vertex newer }))

-- a refused transaction
abbrev pub refused_in : Script → Word → Word → Word → Word → Word → ReadResult ReplyLine
refused_in script name stamp op reason at =
    name_in name >>= λ name. read_stamp script.gates stamp >>= λ stamp. small_number_in op >>= λ op.
    reason_in reason >>= λ reason. read_number at >>= λ at. kind_named false script name >>= λ r.
    Ok (Whole (record { request = r; stamp = Some stamp; state = told.Refused op reason at }))

-- a refusal, from its word and the words after it
abbrev pub refusal_in : Script → Word → Word → Word → List Word → ReadResult ReplyLine
refusal_in script name stamp state (op ∷ reason ∷ word ∷ at ∷ []) =
    if bytes_eq state (codes "refused") && bytes_eq word (codes "at") then refused_in script name stamp op reason at
    else Err cause.Line
refusal_in script name stamp state _ = Err cause.Line

-- a begun transaction's reply, from the word that names its state and the words after it
abbrev pub read_verdict : Script → Word → Word → Word → List Word → ReadResult ReplyLine
read_verdict script name stamp state [] =
    if bytes_eq state (codes "begun") then read_begun false script name stamp else Err cause.Line
read_verdict script name stamp state (number ∷ []) =
    if bytes_eq state (codes "committed") then committed_in script name stamp number else Err cause.Line
read_verdict script name stamp state (vertex ∷ newer ∷ []) =
    if bytes_eq state (codes "conflict") then conflict_in script name stamp vertex newer else Err cause.Line
read_verdict script name stamp state more = refusal_in script name stamp state more

-- a transaction's reply, from the words after `tx`
abbrev pub transaction_in : Script → List Word → ReadResult ReplyLine
transaction_in script (name ∷ state ∷ []) =
    if bytes_eq state (codes "unbegun") then unbegun_in false script name else Err cause.Line
transaction_in script (name ∷ stamp ∷ state ∷ more) = read_verdict script name stamp state more
transaction_in script _ = Err cause.Line

-- the program that work is
abbrev pub look_of_work : Work → Option Program
look_of_work (Change ops) = None
look_of_work (Look program) = Some program

-- the program of a name, with its request's number
abbrev pub program_named : Script → Name → Option (ℕ × Program)
program_named script name =
    option_and_then (λ (r : ℕ).
    option_and_then (λ (request : Request).
    option_and_then (λ (program : Program). Some (r, program)) (look_of_work request.work))
    (request_at script r))
    (request_named script name)

-- a finished program; if the name is that of no program of the script, its answer isn't looked at
abbrev pub finished_by : Option (ℕ × Program) → Script → Word → List Word → ReadResult ReplyLine
finished_by None script stamp answer = read_stamp script.gates stamp >>= λ stamp. Err cause.Request
finished_by (Some (r, program)) script stamp answer =
    if is_answer_form program answer
    then (read_stamp script.gates stamp >>= λ stamp. answer_in program answer >>= λ answer.
    Ok (Whole (record { request = r; stamp = Some stamp; state = told.Finished answer })))
    else Err cause.Line

abbrev pub finished_in : Script → Word → Word → List Word → ReadResult ReplyLine
finished_in script name stamp answer =
    name_in name >>= λ name. finished_by (program_named script name) script stamp answer

-- a program's reply, from the words after `prog`
abbrev pub program_in : Script → List Word → ReadResult ReplyLine
program_in script (name ∷ state ∷ []) =
    if bytes_eq state (codes "unbegun") then unbegun_in true script name else Err cause.Line
program_in script (name ∷ stamp ∷ state ∷ answer) =
    if bytes_eq state (codes "done") then finished_in script name stamp answer
    else (if bytes_eq state (codes "running") && is_empty answer then read_begun true script name stamp
    else Err cause.Line)
program_in script _ = Err cause.Line

-- what a `get` read, by its line, if it is to be this operation
abbrev pub got_in : ℕ → List Word → ReadResult Got
got_in op (word ∷ number ∷ state) =
    if bytes_eq word (codes "got") && is_state_form state
    then (this_number_in op number >>= λ op. read_state state >>= λ state. Ok (record { op = op; state = state }))
    else Err cause.Line
got_in op _ = Err cause.Line
