-- The lines that begin a transaction, and those that are a program.
use Rattle.std.specs.Prelude.{ℕ, ◌-◌, [], ◌∷◌, Option, Some, None, Ok, Err, codes, if◌then◌else◌}
use Rattle.std.specs.Option.{option_map}
use Rattle.std.specs.Str.{bytes_eq}
use Rattle.program_defs.specs.declared.program.Filter.{Filter}
use Rattle.program_defs.specs.declared.program.Program.{Program}
use Rattle.program_defs.specs.declared.program.Program.TheVariants.{Show, Reach, Around, Path, Price}
use Rattle.program_defs.specs.declared.script.Request.{Request}
use Rattle.program_defs.specs.declared.script.Work.{Work}
use Rattle.weave_text.specs.Lines.{Word, Line}
use Rattle.weave_script.specs.declared.fault.Cause.TheVariants as causes
use Rattle.weave_script.specs.declared.read.partial_script.Opening.{Opening}
use Rattle.weave_data.specs.Steps.{◌>>=◌}
use Rattle.weave_data.specs.Limits.{last_session, most_bound}
use Rattle.weave_script.specs.Fields.{ReadOrCause, or_refused, name_word, number_in}

-- the name, the session and the gatekeeper, below `gates`, of a request
abbrev pub opening_of : ℕ → Word → Word → Word → ReadOrCause Opening
opening_of gates name session gate =
    name_word name >>= λ name.
    number_in 0 last_session causes.Session session >>= λ session.
    number_in 0 (gates - 1) causes.Gatekeeper gate >>= λ gate.
    Ok (record { name = name; session = session; gate = gate })

-- the request with this work
abbrev pub request_of : Opening → Work → Request
request_of opening work = record { name = opening.name; session = opening.session; gate = opening.gate; work = work }

-- the words after `tx`
abbrev pub tx_of : ℕ → Line → ReadOrCause Opening
tx_of gates (name ∷ session ∷ gate ∷ []) = opening_of gates name session gate
tx_of gates _ = Err causes.Line

-- `None` if the words don't have the form; otherwise the result of reading their fields.
abbrev pub Form : Type 0 → Type 0
Form A = Option (ReadOrCause A)

-- the filter by a key and a value
abbrev pub tag_of : Word → Word → ReadOrCause (Option Filter)
tag_of key value = name_word key >>= λ key. name_word value >>= λ value. Ok (Some (record { key = key; value = value }))

-- no filter, or a key and a value after `where`
abbrev pub filter_of : Line → Form (Option Filter)
filter_of [] = Some (Ok None)
filter_of (word ∷ key ∷ value ∷ []) =
    if bytes_eq word (codes "where") then Some (tag_of key value) else None
filter_of _ = None

-- a bound on edges
abbrev pub bound_word : Word → ReadOrCause ℕ
bound_word = number_in 0 most_bound causes.Bound

-- a program by its fields, from the left; a filter is read last
abbrev pub show_program : Word → ReadOrCause Program
show_program v = name_word v >>= λ v. Ok (Show v)

abbrev pub reach_program : Word → Word → ReadOrCause (Option Filter) → ReadOrCause Program
reach_program from to filter =
    name_word from >>= λ from. name_word to >>= λ to. filter >>= λ pass. Ok (Reach from to pass)

abbrev pub around_program : Word → Word → ReadOrCause (Option Filter) → ReadOrCause Program
around_program from bound filter =
    name_word from >>= λ from. bound_word bound >>= λ bound. filter >>= λ pass. Ok (Around from bound pass)

abbrev pub path_program : Word → Word → Word → ReadOrCause (Option Filter) → ReadOrCause Program
path_program from to bound filter =
    name_word from >>= λ from. name_word to >>= λ to. bound_word bound >>= λ bound. filter >>= λ pass.
    Ok (Path from to bound pass)

abbrev pub price_program : Word → Word → Word → ReadOrCause Program
price_program from to key =
    name_word from >>= λ from. name_word to >>= λ to. name_word key >>= λ key. Ok (Price from to key)

-- the words after `show`
abbrev pub show_of : Line → Form Program
show_of (v ∷ []) = Some (show_program v)
show_of _ = None

-- the words after `reach`
abbrev pub reach_of : Line → Form Program
reach_of (from ∷ to ∷ words) = option_map (reach_program from to) (filter_of words)
reach_of _ = None

-- the words after `around`
abbrev pub around_of : Line → Form Program
around_of (from ∷ bound ∷ words) = option_map (around_program from bound) (filter_of words)
around_of _ = None

-- the words after `path`
abbrev pub path_of : Line → Form Program
path_of (from ∷ to ∷ bound ∷ words) = option_map (path_program from to bound) (filter_of words)
path_of _ = None

-- the words after `price`, which takes no filter
abbrev pub price_of : Line → Form Program
price_of (from ∷ to ∷ key ∷ []) = Some (price_program from to key)
price_of _ = None

-- the program of these words
abbrev pub program_of : Line → Form Program
program_of [] = None
program_of (word ∷ words) =
    if bytes_eq word (codes "show") then show_of words
    else if bytes_eq word (codes "reach") then reach_of words
    else if bytes_eq word (codes "around") then around_of words
    else if bytes_eq word (codes "path") then path_of words
    else if bytes_eq word (codes "price") then price_of words
    else None

-- the words after `prog`: their form first, then the fields from the left
abbrev pub prog_of : ℕ → Line → ReadOrCause (Opening × Program)
prog_of gates (name ∷ session ∷ gate ∷ words) =
    or_refused causes.Line (program_of words) >>= λ program.
    opening_of gates name session gate >>= λ opening.
    program >>= λ program.
    Ok (opening, program)
prog_of gates _ = Err causes.Line
