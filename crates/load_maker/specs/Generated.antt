-- The script that random words give: requests of six sessions at three gatekeepers, and steps on four shards.
use Rattle.std.specs.Prelude.{ℕ, ◌+◌, ◌*◌, ◌&&◌, nat_lt, ◌==◌, if◌then◌else◌, List, [], ◌++◌, length, count_by, Some, None, codes}
use Rattle.std.specs.Fmt.{decimal}
use Rattle.weave_data.specs.declared.name.Name.{Name}
use Rattle.weave_data.specs.Limits.{most_gets, most_programs}
use Rattle.graph_ops.specs.Operations.{is_get}
use Rattle.graph_ops.specs.declared.op.Op.{Op}
use Rattle.graph_ops.specs.declared.op.Op.TheVariants.{Create, Delete, Set, Link, Unlink, Tag, Get}
use Rattle.program_defs.specs.declared.program.Program.{Program}
use Rattle.program_defs.specs.declared.program.Program.TheVariants.{Show, Reach, Around, Path}
use Rattle.program_defs.specs.declared.script.Request.{Request}
use Rattle.program_defs.specs.declared.script.Script.{Script}
use Rattle.program_defs.specs.declared.script.Step.{Step}
use Rattle.program_defs.specs.declared.script.Step.TheVariants.{Begin, Judge, Send, Say, Hear, Nop, Deliver, Apply, Reply}
use Rattle.program_defs.specs.declared.script.Work.{Work}
use Rattle.program_defs.specs.declared.script.Work.TheVariants.{Change, Look}
use Rattle.weave_script.specs.Limits.{count_gets, count_programs}
use Rattle.load_maker.specs.Words.{Words, words_of_seed, draw, drawn_list}

-- a letter and a number, as `v12`
abbrev pub numbered_name : List ℕ → ℕ → Name
numbered_name letter n = letter ++ decimal n

-- an operation on a vertex, by its form, after this many `get` operations
unfoldable pub operation_of_form : ℕ → Name → ℕ → Words → Op × Words
operation_of_form gets v form words =
    if nat_lt form 3 then (Create v, words)
    else if form == 3 then draw 4 words (λ key words. draw 10 words (λ value words.
    (Set v (numbered_name (codes "k") key) (numbered_name (codes "x") value), words)))
    else if form == 4 then draw 6 words (λ edge words. draw 40 words (λ target words.
    (Link v (numbered_name (codes "e") edge) (numbered_name (codes "v") target), words)))
    else if form == 5 then (if nat_lt gets most_gets then (Get v, words) else (Delete v, words))
    else if form == 6 then draw 6 words (λ edge words. draw 4 words (λ key words. draw 10 words (λ value words.
    (Tag v (numbered_name (codes "e") edge) (numbered_name (codes "k") key) (numbered_name (codes "x") value), words))))
    else draw 6 words (λ edge words. (Unlink v (numbered_name (codes "e") edge), words))

-- an operation: its vertex, then its form
unfoldable pub operation_of : ℕ → Words → Op × Words
operation_of gets words =
    draw 40 words (λ v words.
    draw 8 words (λ form words. operation_of_form gets (numbered_name (codes "v") v) form words))

-- n operations of a transaction, after this many `get` operations
abbrev pub operations_of : ℕ → ℕ → Words → List Op × Words
operations_of gets n words = drawn_list (λ ops words. operation_of (gets + count_by is_get ops) words) n words

-- a program on a vertex, by its form
unfoldable pub program_of_form : Name → ℕ → Words → Program × Words
program_of_form v form words =
    if form == 0 then (Show v, words)
    else if form == 1 then draw 40 words (λ to words. (Reach v (numbered_name (codes "v") to) None, words))
    else if form == 2 then draw 5 words (λ bound words. (Around v bound None, words))
    else draw 40 words (λ to words.
    draw 5 words (λ bound words. (Path v (numbered_name (codes "v") to) bound None, words)))

-- a program: its form, then its first vertex
unfoldable pub drawn_program : Words → Program × Words
drawn_program words =
    draw 4 words (λ form words. draw 40 words (λ v words. program_of_form (numbered_name (codes "v") v) form words))

-- what a request asks for, by its kind: a program, or a transaction of one to four operations, after this many programs
-- and `get` operations precede it
unfoldable pub work_of_kind : ℕ → ℕ → ℕ → Words → Work × Words
work_of_kind programs gets kind words =
    if (kind == 0) && nat_lt programs most_programs
    then (let program = drawn_program words in (Look program.0, program.1))
    else draw 4 words (λ more words. let ops = operations_of gets (1 + more) words in (Change ops.0, ops.1))

-- the request of a number, after this many programs and `get` operations
unfoldable pub request_numbered : ℕ → ℕ → ℕ → Words → Request × Words
request_numbered number programs gets words =
    draw 6 words (λ session words. draw 3 words (λ gate words. draw 10 words (λ kind words.
    let work = work_of_kind programs gets kind words in
    (record { name = numbered_name (codes "r") number; session = session; gate = gate; work = work.0 }, work.1))))

-- the request that follows these
abbrev pub drawn_request : List Request → Words → Request × Words
drawn_request requests words = request_numbered (length requests) (count_programs requests) (count_gets requests) words

-- a step in a script of this many requests, by its form
unfoldable pub step_of_form : ℕ → ℕ → Words → Step × Words
step_of_form size form words =
    if nat_lt form 2 then draw size words (λ request words. (Begin request, words))
    else if form == 2 then draw 3 words (λ gate words. (Judge gate, words))
    else if form == 3 then draw 3 words (λ gate words. (Send gate, words))
    else if form == 4 then draw 3 words (λ gate words. (Say gate, words))
    else if form == 5 then draw 3 words (λ gate words. draw size words (λ notice words.
    (Hear gate (1 + notice), words)))
    else if form == 6 then draw 3 words (λ gate words. draw 4 words (λ shard words. (Nop gate shard, words)))
    else if form == 7 then draw 3 words (λ gate words. draw 4 words (λ shard words. draw 20 words (λ number words.
    (Deliver gate shard (1 + number), words))))
    else if form == 8 then draw 4 words (λ shard words. draw 3 words (λ gate words. (Apply shard gate, words)))
    else draw size words (λ request words. (Reply request, words))

-- a step
unfoldable pub drawn_step : ℕ → Words → Step × Words
drawn_step size words = draw 10 words (λ form words. step_of_form size form words)

-- the script of this many requests, and four times as many steps, that words give
unfoldable pub script_from : ℕ → Words → Script
script_from size words =
    let requests = drawn_list drawn_request size words in
    let steps = drawn_list (λ _ words. drawn_step size words) (4 * size) requests.1 in
    record { gates = 3; shards = 4; requests = requests.0; phases = []; steps = Some steps.0 }

-- the script of a seed
abbrev pub script_of : ℕ → ℕ → Script
script_of seed size = script_from size (words_of_seed seed)
