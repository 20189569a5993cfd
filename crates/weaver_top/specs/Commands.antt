-- The words of a command.
use Rattle.std.specs.Prelude.{◌≡◌, ◌≤◌, ⊤, ℕ, Bool, true, false, ◌&&◌, nat_le, nat_lt, List, [], ◌∷◌, Option, Some, None, codes, nat_eq, if◌then◌else◌}
use Rattle.std.specs.Cmp.Lexicographic.{pointwise}
use Rattle.weave_data.specs.Limits.{most_requests}
use Rattle.weave_text.specs.Numbers.{number_of_word}
use Rattle.weaver_top.specs.declared.command.Command.{Command}
use Rattle.weaver_top.specs.declared.command.Command.TheVariants.{Run, Check, Trace, Load}

-- the command of this name
abbrev pub command_named : List ℕ → Option Command
command_named word =
    if pointwise nat_eq word (codes "run") then Some Run
    else (if pointwise nat_eq word (codes "check") then Some Check
    else (if pointwise nat_eq word (codes "trace") then Some Trace
    else None))

-- a size is 1 to 10,000
abbrev pub is_size : ℕ → Bool
is_size size = nat_lt 0 size && nat_le size most_requests

-- `load` of a seed and a size, if both are numbers of 64 bits and the size can be one
abbrev pub load_numbered : Option ℕ → Option ℕ → Option Command
load_numbered (Some seed) (Some size) = if is_size size then Some (Load seed size) else None
load_numbered (Some seed) None = None
load_numbered None size = None

-- the command `load` with its seed and its size: each is `0`, or decimal digits of which the first isn't 0
abbrev pub load_of : List ℕ → List ℕ → List ℕ → Option Command
load_of word seed size =
    if pointwise nat_eq word (codes "load") then load_numbered (number_of_word seed) (number_of_word size) else None

-- the command that the words ask for: its name alone, or `load` with a seed and a size
abbrev pub command_of : List (List ℕ) → Option Command
command_of (word ∷ []) = command_named word
command_of (word ∷ seed ∷ size ∷ []) = load_of word seed size
command_of _ = None

-- the words ask for this command
abbrev pub AreWordsOf : List (List ℕ) → Command → Type 0
AreWordsOf words command = command_of words ≡ Some command

-- the command reads an input: all but `load` do
abbrev pub reads_input : Command → Bool
reads_input Run = true
reads_input Check = true
reads_input Trace = true
reads_input (Load seed size) = false

-- the size of a `load` is 1 to 10,000. No public contract cites this.
abbrev pub IsSized : Command → Type 0
IsSized Run = ⊤
IsSized Check = ⊤
IsSized Trace = ⊤
IsSized (Load seed size) = (1 ≤ size) × (size ≤ most_requests)
