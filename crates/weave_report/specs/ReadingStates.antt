-- States and answers as they are read.
use Rattle.std.specs.Prelude.{ℕ, Bool, false, ◌&&◌, ◌||◌, ◌==◌, List, [], ◌∷◌, ◌++◌, Option, Some, None, is_some, Ok, Err, codes, if◌then◌else◌}
use Rattle.std.specs.List.{list_all}
use Rattle.std.specs.Ordering.{is_lt}
use Rattle.std.specs.Str.{bytes_eq}
use Rattle.weave_data.specs.Names.{name_cmp}
use Rattle.weave_data.specs.declared.name.Name.{Name}
use Rattle.weave_text.specs.Cutting.{is_empty, pieces_of}
use Rattle.weave_text.specs.Lines.{Bytes, Word}
use Rattle.graph_ops.specs.Operations.{State}
use Rattle.graph_ops.specs.declared.record.Edge.{Edge}
use Rattle.graph_ops.specs.declared.record.Record.{Record}
use Rattle.program_defs.specs.declared.program.Program.{Program}
use Rattle.program_defs.specs.declared.program.Program.TheVariants.{Show, Reach, Around, Path, Price}
use Rattle.program_defs.specs.declared.program.Answer.{Answer}
use Rattle.program_defs.specs.declared.program.Answer.TheVariants.{Shown, Reached, Found, Walk}
use Rattle.weave_report.specs.declared.fault.ReportCause.TheVariants as cause
use Rattle.weave_report.specs.declared.read.parts.Item.{Item}
use Rattle.weave_report.specs.declared.read.parts.Item.TheVariants.{Property, Link}
use Rattle.report_rules.specs.declared.report.StepAnswer.{StepAnswer}
use Rattle.report_rules.specs.declared.report.StepAnswer.TheVariants as step
use Rattle.weave_data.specs.Steps.{◌>>=◌}
use Rattle.weave_report.specs.Marks.{CutText, cut_first, is_equals, is_item_mark}
use Rattle.weave_report.specs.ReadingFields.{ReadResult, name_in, read_names, small_number_in, or_cause}
use Rattle.weave_report.specs.ReadingPriced.{is_priced_form, priced_in}

-- Records

-- a key and its value
abbrev pub key_and_value : Bytes → Bytes → ReadResult (Name × Name)
key_and_value key value = name_in key >>= λ key. name_in value >>= λ value. Ok (key, value)

module _ {X : Type 0} where
  -- the key is above these keys
  abbrev pub goes_last : Name → List (Name × X) → Bool
  goes_last key pairs = list_all (λ (pair : Name × X). is_lt (name_cmp pair.0 key)) pairs

  -- one more pair, in the order of keys
  abbrev pub with_last : List (Name × X) → Name → X → ReadResult (List (Name × X))
  with_last pairs key value = if goes_last key pairs then Ok (pairs ++ (key, value) ∷ []) else Err cause.Line

-- a tag, cut at its mark
abbrev pub read_tag : Option CutText → ReadResult (Name × Name)
read_tag None = Err cause.Line
read_tag (Some (key, mark, value)) = key_and_value key value

-- a tag: `KEY=VALUE`
abbrev pub tag_in : Word → ReadResult (Name × Name)
tag_in word = read_tag (cut_first is_equals word)

-- more tags after these
abbrev pub tags_in : List (Name × Name) → List Word → ReadResult (List (Name × Name))
tags_in before [] = Ok before
tags_in before (word ∷ words) = tag_in word >>= λ tag. with_last before tag.0 tag.1 >>= λ tags. tags_in tags words

-- an edge: its target, and its tags with a comma before each
abbrev pub edge_of : List Word → ReadResult Edge
edge_of [] = Err cause.Name
edge_of (target ∷ tags) =
    name_in target >>= λ target. tags_in [] tags >>= λ tags. Ok (record { target = target; tags = tags })

-- an item, cut at its mark: `KEY=VALUE`, or `EDGE>TARGET` with tags
abbrev pub item_of : Option CutText → ReadResult Item
item_of None = Err cause.Line
item_of (Some (before, mark, behind)) =
    if is_equals mark then (key_and_value before behind >>= λ pair. Ok (Property pair.0 pair.1))
    else (name_in before >>= λ name. edge_of (pieces_of 44 behind) >>= λ edge. Ok (Link name edge))

-- an item of a record
abbrev pub item_in : Word → ReadResult Item
item_in word = item_of (cut_first is_item_mark word)

-- a property of a record that has these edges
abbrev pub with_property : Record → Name → Name → List (Name × Edge) → ReadResult Record
with_property held key value [] =
    with_last held.props key value >>= λ props. Ok (record { props = props; edges = held.edges })
with_property held key value (edge ∷ edges) = Err cause.Line

-- a record with one more item: no property after an edge, and each in the order of keys
abbrev pub with_item_read : Record → Item → ReadResult Record
with_item_read held (Property key value) = with_property held key value held.edges
with_item_read held (Link name edge) =
    with_last held.edges name edge >>= λ edges. Ok (record { props = held.props; edges = edges })

-- more items in a record
abbrev pub items_in : Record → List Word → ReadResult Record
items_in held [] = Ok held
items_in held (word ∷ words) = item_in word >>= λ item. with_item_read held item >>= λ held. items_in held words

-- a record without anything
abbrev pub empty_record : Record
empty_record = record { props = []; edges = [] }

-- States

-- the words have the form of a state: `absent` alone, or `record` with items
abbrev pub is_state_form : List Word → Bool
is_state_form [] = false
is_state_form (word ∷ items) = bytes_eq word (codes "record") || (bytes_eq word (codes "absent") && is_empty items)

-- a state, of words of its form
abbrev pub read_state : List Word → ReadResult State
read_state [] = Err cause.Line
read_state (word ∷ items) =
    if bytes_eq word (codes "record") then (items_in empty_record items >>= λ held. Ok (Some held)) else Ok None

-- Answers of programs

-- the words have the form of an answer to `reach`, `around` or `path`
abbrev pub is_reached_form : List Word → Bool
is_reached_form [] = false
is_reached_form (word ∷ more) = (bytes_eq word (codes "yes") || bytes_eq word (codes "no")) && is_empty more

abbrev pub is_found_form : List Word → Bool
is_found_form [] = false
is_found_form (word ∷ names) = bytes_eq word (codes "found")

abbrev pub is_walk_form : List Word → Bool
is_walk_form [] = false
is_walk_form (word ∷ names) = bytes_eq word (codes "path") || (bytes_eq word (codes "none") && is_empty names)

-- the words have the form of the program's answer
abbrev pub is_answer_form : Program → List Word → Bool
is_answer_form (Show v) words = is_state_form words
is_answer_form (Reach from to pass) words = is_reached_form words
is_answer_form (Around from bound pass) words = is_found_form words
is_answer_form (Path from to bound pass) words = is_walk_form words
is_answer_form (Price from to key) words = is_priced_form words

-- what `show` answers, by words of its form
abbrev pub shown_in : List Word → ReadResult Answer
shown_in words = read_state words >>= λ state. Ok (Shown state)

-- what `reach` answers
abbrev pub reached_in : List Word → ReadResult Answer
reached_in [] = Err cause.Line
reached_in (word ∷ more) = Ok (Reached (bytes_eq word (codes "yes")))

-- what `around` answers
abbrev pub read_found : List Word → ReadResult Answer
read_found [] = Err cause.Line
read_found (word ∷ names) = read_names names >>= λ names. Ok (Found names)

-- what `path` answers
abbrev pub walk_in : List Word → ReadResult Answer
walk_in [] = Err cause.Line
walk_in (word ∷ names) =
    if bytes_eq word (codes "path") then (read_names names >>= λ names. Ok (Walk (Some names))) else Ok (Walk None)

-- the program's answer, of words of its form
abbrev pub answer_in : Program → List Word → ReadResult Answer
answer_in (Show v) words = shown_in words
answer_in (Reach from to pass) words = reached_in words
answer_in (Around from bound pass) words = read_found words
answer_in (Path from to bound pass) words = walk_in words
answer_in (Price from to key) words = priced_in words

-- Answers of steps

-- the step's answer that is one word
abbrev pub bare_answer : Word → Option StepAnswer
bare_answer word =
    if bytes_eq word (codes "ok") then Some step.Ok
    else (if bytes_eq word (codes "twice") then Some step.Twice
    else (if bytes_eq word (codes "early") then Some step.Early
    else (if bytes_eq word (codes "busy") then Some step.Busy
    else (if bytes_eq word (codes "idle") then Some step.Idle
    else (if bytes_eq word (codes "old") then Some step.Old
    else (if bytes_eq word (codes "unknown") then Some step.Unknown
    else (if bytes_eq word (codes "repeat") then Some step.Repeat
    else (if bytes_eq word (codes "empty") then Some step.Empty
    else None))))))))

-- the words have the form of a step's answer
abbrev pub is_step_form : List Word → Bool
is_step_form (word ∷ []) = is_some (bare_answer word)
is_step_form (word ∷ vertex ∷ []) = bytes_eq word (codes "waits")
is_step_form (word ∷ shard ∷ gate ∷ []) = bytes_eq word (codes "again")
is_step_form _ = false

-- a step's answer, of words of its form
abbrev pub step_answer_in : List Word → ReadResult StepAnswer
step_answer_in (word ∷ []) = or_cause cause.Line (bare_answer word)
step_answer_in (word ∷ vertex ∷ []) = name_in vertex >>= λ vertex. Ok (step.Waits vertex)
step_answer_in (word ∷ shard ∷ gate ∷ []) =
    small_number_in shard >>= λ shard. small_number_in gate >>= λ gate. Ok (step.Again shard gate)
step_answer_in _ = Err cause.Line
