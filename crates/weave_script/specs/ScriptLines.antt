-- The lines of a script.
use Rattle.std.specs.Prelude.{ℕ, ◌≡◌, ◌+◌, nat_le, Bool, true, false, is_some, List, [], ◌∷◌, ◌++◌, map, Option, Some, None, codes, if◌then◌else◌}
use Rattle.std.specs.Fmt.{decimal}
use Rattle.std.specs.List.{list_any, slice_get}
use Rattle.std.specs.Option.{option_map_or}
use Rattle.weave_text.specs.Cutting.{lines_of, kept_lines}
use Rattle.weave_text.specs.Lines.{Bytes, Word, Line, lines_text}
use Rattle.weave_data.specs.declared.name.Name.{Name}
use Rattle.graph_ops.specs.Operations.{needed_by, op_fields, op_word}
use Rattle.graph_ops.specs.declared.op.Op.{Op}
use Rattle.program_defs.specs.declared.program.Filter.{Filter}
use Rattle.program_defs.specs.declared.program.Program.{Program}
use Rattle.program_defs.specs.declared.program.Program.TheVariants.{Show, Reach, Around, Path, Price}
use Rattle.program_defs.specs.declared.script.Request.{Request}
use Rattle.program_defs.specs.declared.script.Script.{Script}
use Rattle.program_defs.specs.declared.script.Step.{Step}
use Rattle.program_defs.specs.declared.script.Step.TheVariants.{Begin, Judge, Send, Say, Hear, Nop, Deliver, Apply, Visit, Reply, Collect, Epoch, Restart}
use Rattle.program_defs.specs.declared.script.Work.{Work}
use Rattle.program_defs.specs.declared.script.Work.TheVariants.{Change, Look}
use Rattle.program_defs.specs.Works.{ops_of}
use Rattle.weave_script.specs.Scripts.{IsScript}

-- the word of a version: of 2 if links are joins
abbrev pub version_word : Bool → Word
version_word true = codes "2"
version_word false = codes "1"

-- the first line, with the version and the numbers of gatekeepers and shards
abbrev pub header_line : Bool → ℕ → ℕ → Line
header_line joins gates shards = codes "weaver" ∷ version_word joins ∷ decimal gates ∷ decimal shards ∷ []

-- an operation's line: its word, and its fields in their order
abbrev pub op_line : Op → Line
op_line op = op_word op ∷ op_fields op

-- the line that begins a transaction, with its name, session and gatekeeper
abbrev pub opening_line : Name → ℕ → ℕ → Line
opening_line name session gate = codes "tx" ∷ name ∷ decimal session ∷ decimal gate ∷ []

-- the line that ends a transaction
abbrev pub end_line : Line
end_line = codes "end" ∷ []

-- the words of a filter, if a program has one
abbrev pub filter_words : Option Filter → List Word
filter_words None = []
filter_words (Some filter) = codes "where" ∷ filter.key ∷ filter.value ∷ []

-- a program's word, its fields in their order, and its filter
abbrev pub program_words : Program → List Word
program_words (Show v) = codes "show" ∷ v ∷ []
program_words (Reach from to pass) = codes "reach" ∷ from ∷ to ∷ filter_words pass
program_words (Around from bound pass) = codes "around" ∷ from ∷ decimal bound ∷ filter_words pass
program_words (Path from to bound pass) = codes "path" ∷ from ∷ to ∷ decimal bound ∷ filter_words pass
program_words (Price from to key) = codes "price" ∷ from ∷ to ∷ key ∷ []

-- a program's line, with its name, session and gatekeeper
abbrev pub program_line : Name → ℕ → ℕ → Program → Line
program_line name session gate program = codes "prog" ∷ name ∷ decimal session ∷ decimal gate ∷ program_words program

-- the lines of a piece of work: a transaction has one for each operation and one that ends it, a program has one alone
abbrev pub work_lines : Name → ℕ → ℕ → Work → List Line
work_lines name session gate (Change ops) = opening_line name session gate ∷ map op_line ops ++ end_line ∷ []
work_lines name session gate (Look program) = program_line name session gate program ∷ []

-- a request's lines
abbrev pub request_lines : Request → List Line
request_lines request = work_lines request.name request.session request.gate request.work

-- the line that begins a phase
abbrev pub phase_line : Line
phase_line = codes "phase" ∷ []

-- a line for each of these phases
abbrev pub phase_lines : List ℕ → List Line
phase_lines phases = map (λ _. phase_line) phases

-- the first phases, as far as each has at most n requests before it
abbrev pub due_phases : ℕ → List ℕ → List ℕ
due_phases n [] = []
due_phases n (phase ∷ phases) = if nat_le phase n then phase ∷ due_phases n phases else []

-- the phases after these
abbrev pub later_phases : ℕ → List ℕ → List ℕ
later_phases n [] = []
later_phases n (phase ∷ phases) = if nat_le phase n then later_phases n phases else phase ∷ phases

-- the lines of the requests after the first n, with the phases before, between and after them
abbrev pub item_lines : ℕ → List Request → List ℕ → List Line
item_lines n [] phases = phase_lines phases
item_lines n (request ∷ requests) phases =
    phase_lines (due_phases n phases) ++ request_lines request ++ item_lines (n + 1) requests (later_phases n phases)

-- a request's name by its place; one that isn't there has an empty name
abbrev pub name_of_request : List Request → ℕ → Word
name_of_request requests place = option_map_or (λ (request : Request). request.name) (slice_get requests place) []

-- a step's line: its word, and its fields in their order
abbrev pub step_line : List Request → Step → Line
step_line requests (Begin request) = codes "begin" ∷ name_of_request requests request ∷ []
step_line requests (Judge gate) = codes "judge" ∷ decimal gate ∷ []
step_line requests (Send gate) = codes "send" ∷ decimal gate ∷ []
step_line requests (Say gate) = codes "say" ∷ decimal gate ∷ []
step_line requests (Hear gate notice) = codes "hear" ∷ decimal gate ∷ decimal notice ∷ []
step_line requests (Nop gate shard) = codes "nop" ∷ decimal gate ∷ decimal shard ∷ []
step_line requests (Deliver gate shard number) = codes "deliver" ∷ decimal gate ∷ decimal shard ∷ decimal number ∷ []
step_line requests (Apply shard gate) = codes "apply" ∷ decimal shard ∷ decimal gate ∷ []
step_line requests (Visit request) = codes "visit" ∷ name_of_request requests request ∷ []
step_line requests (Reply request) = codes "reply" ∷ name_of_request requests request ∷ []
step_line requests (Collect shard) = codes "collect" ∷ decimal shard ∷ []
step_line requests (Epoch gate epoch) = codes "epoch" ∷ decimal gate ∷ decimal epoch ∷ []
step_line requests (Restart gate epoch) = codes "restart" ∷ decimal gate ∷ decimal epoch ∷ []

-- the line that the steps follow
abbrev pub steps_line : Line
steps_line = codes "steps" ∷ []

-- the lines of the steps, if the script has them
abbrev pub steps_lines : List Request → Option (List Step) → List Line
steps_lines requests None = []
steps_lines requests (Some steps) = steps_line ∷ map (step_line requests) steps

-- the operation is a join
abbrev pub is_join : Op → Bool
is_join op = is_some (needed_by op)

-- a transaction has a join
abbrev pub has_joins : List Request → Bool
has_joins requests = list_any (λ (request : Request). list_any is_join (ops_of request.work)) requests

-- a script's lines in a version
abbrev pub script_lines_in : Bool → Script → List Line
script_lines_in joins script =
    header_line joins script.gates script.shards ∷ item_lines 0 script.requests script.phases
    ++ steps_lines script.requests script.steps

-- its lines as they are printed: in version 2 exactly if it has a join
abbrev pub script_lines : Script → List Line
script_lines script = script_lines_in (has_joins script.requests) script

-- a script's one printed text
abbrev pub script_text : Script → Bytes
script_text script = lines_text (script_lines script)

-- the bytes are a text of the script: its lines in a version that has its operations, between which others may be
-- skipped. A script without links and joins has texts of both versions.
unfoldable pub IsTextOf : Bytes → Script → Type 0
IsTextOf bytes script = (is : IsScript script) × (kept_lines (lines_of bytes) ≡ script_lines_in is.joins script)
