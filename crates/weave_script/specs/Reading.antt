-- The script so far, and what the next line makes of it.
use Rattle.std.specs.Prelude.{false, List, [], ◌∷◌, ◌++◌, length, Option, Some, None, is_some, Ok, Err, codes, if◌then◌else◌}
use Rattle.std.specs.Str.{bytes_eq}
use Rattle.graph_ops.specs.declared.op.Op.{Op}
use Rattle.program_defs.specs.declared.script.Request.{Request}
use Rattle.program_defs.specs.declared.script.Step.{Step}
use Rattle.program_defs.specs.declared.script.Work.TheVariants.{Change, Look}
use Rattle.weave_data.specs.declared.name.Name.{Name}
use Rattle.weave_text.specs.Lines.{Line}
use Rattle.weave_script.specs.declared.fault.Cause.{Cause}
use Rattle.weave_script.specs.declared.fault.Cause.TheVariants as causes
use Rattle.weave_script.specs.declared.read.partial_script.Counts.{Counts}
use Rattle.weave_script.specs.declared.read.partial_script.Opening.{Opening}
use Rattle.weave_script.specs.declared.read.partial_script.Place.{Place}
use Rattle.weave_script.specs.declared.read.partial_script.Place.TheVariants.{Start, Between, Inside, Behind}
use Rattle.weave_script.specs.declared.read.partial_script.Reading.{Reading}
use Rattle.weave_data.specs.Steps.{◌>>=◌}
use Rattle.weave_script.specs.Fields.{ReadOrCause}
use Rattle.weave_script.specs.Header.{header_of}
use Rattle.weave_script.specs.Limits.{over_limit, counts_of_script}
use Rattle.weave_script.specs.Ops.{is_end, op_in_line}
use Rattle.weave_script.specs.Requests.{request_of, tx_of, prog_of}
use Rattle.weave_script.specs.Steps.{place_of, step_of}

-- before the first line
abbrev pub start : Reading
start = record { joins = false; gates = 0; shards = 0; requests = []; phases = []; place = Start }

-- the requests so far, and the transaction that has no end yet
abbrev pub requests_so_far : Place → List Request → List Request
requests_so_far Start requests = requests
requests_so_far Between requests = requests
requests_so_far (Inside opening ops) requests = requests ++ request_of opening (Change ops) ∷ []
requests_so_far (Behind steps) requests = requests

-- the operations of that transaction
abbrev pub operations_so_far : Place → List Op
operations_so_far Start = []
operations_so_far Between = []
operations_so_far (Inside opening ops) = ops
operations_so_far (Behind steps) = []

-- the steps so far
abbrev pub steps_so_far : Place → List Step
steps_so_far Start = []
steps_so_far Between = []
steps_so_far (Inside opening ops) = []
steps_so_far (Behind steps) = steps

-- what has a limit so far
abbrev pub counts_so_far : Reading → Counts
counts_so_far reading =
    counts_of_script (length (operations_so_far reading.place)) (requests_so_far reading.place reading.requests)
    (length (steps_so_far reading.place))

-- refused if a request has the name
abbrev pub unless_taken : {A : Type 0} → Name → List Request → A → ReadOrCause A
unless_taken name requests value = if is_some (place_of name requests) then Err causes.Taken else Ok value

-- after a line `tx`, by the words after `tx`
abbrev pub after_tx : Reading → Line → ReadOrCause Reading
after_tx reading words =
    tx_of reading.gates words >>= λ opening.
    unless_taken opening.name reading.requests (record reading { place = Inside opening [] })

-- after a line `prog`
abbrev pub after_prog : Reading → Line → ReadOrCause Reading
after_prog reading words =
    prog_of reading.gates words >>= λ prog.
    unless_taken prog.0.name reading.requests
    (record reading { requests = reading.requests ++ request_of prog.0 (Look prog.1) ∷ [] })

-- after a line `phase`: the requests so far are before it
abbrev pub after_phase : Reading → Line → ReadOrCause Reading
after_phase reading [] = Ok (record reading { phases = reading.phases ++ length reading.requests ∷ [] })
after_phase reading (word ∷ words) = Err causes.Line

-- after the line `steps`
abbrev pub after_steps : Reading → Line → ReadOrCause Reading
after_steps reading [] = Ok (record reading { place = Behind [] })
after_steps reading (word ∷ words) = Err causes.Line

-- after a line between two requests
abbrev pub after_item : Reading → Line → ReadOrCause Reading
after_item reading [] = Err causes.Line
after_item reading (word ∷ words) =
    if bytes_eq word (codes "tx") then after_tx reading words
    else if bytes_eq word (codes "prog") then after_prog reading words
    else if bytes_eq word (codes "phase") then after_phase reading words
    else if bytes_eq word (codes "steps") then after_steps reading words
    else Err causes.Line

-- after the first line
abbrev pub after_header : Reading → Line → ReadOrCause Reading
after_header reading line =
    header_of line >>= λ header.
    Ok (record reading { joins = header.joins; gates = header.gates; shards = header.shards; place = Between })

-- after a line inside a transaction: its end, or an operation
abbrev pub after_line_inside : Reading → Opening → List Op → Line → ReadOrCause Reading
after_line_inside reading opening ops line =
    if is_end line
    then Ok (record reading {
      requests = reading.requests ++ request_of opening (Change ops) ∷ [];
      place = Between;
    })
    else (op_in_line reading.joins line >>= λ op. Ok (record reading { place = Inside opening (ops ++ op ∷ []) }))

-- after a line that follows `steps`
abbrev pub after_step : Reading → List Step → Line → ReadOrCause Reading
after_step reading steps line =
    step_of reading.gates reading.shards (λ name. place_of name reading.requests) line >>= λ step.
    Ok (record reading { place = Behind (steps ++ step ∷ []) })

-- after a line at its place, limits aside
abbrev pub after_line_at : Place → Reading → Line → ReadOrCause Reading
after_line_at Start reading line = after_header reading line
after_line_at Between reading line = after_item reading line
after_line_at (Inside opening ops) reading line = after_line_inside reading opening ops line
after_line_at (Behind steps) reading line = after_step reading steps line

-- refused if there is a cause
abbrev pub unless_met : {A : Type 0} → A → Option Cause → ReadOrCause A
unless_met value None = Ok value
unless_met value (Some cause) = Err cause

-- refused if a limit is met
abbrev pub within_limits : Reading → ReadOrCause Reading
within_limits reading = unless_met reading (over_limit (counts_so_far reading))

-- after a line
abbrev pub after_line : Reading → Line → ReadOrCause Reading
after_line reading line = after_line_at reading.place reading line >>= within_limits
