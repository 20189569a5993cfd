-- The words of a command of `explain`.
use Rattle.std.specs.Prelude.{ℕ, ◌&&◌, nat_lt, List, [], ◌∷◌, Option, Some, None, codes, nat_eq, if◌then◌else◌}
use Rattle.std.specs.Cmp.Lexicographic.{pointwise}
use Rattle.weave_text.specs.Numbers.{number_of_word}
use Rattle.explain_top.specs.declared.command.Command.{Command}
use Rattle.explain_top.specs.declared.command.Command.TheVariants.{Check, Script, Picture}

-- the picture of the first 60 requests
abbrev pub first_sixty : Command
first_sixty = Picture (record { from = 1; count = 60 })

-- the command of this name
abbrev pub command_by_word : List ℕ → Option Command
command_by_word word =
    if pointwise nat_eq word (codes "script") then Some Script
    else (if pointwise nat_eq word (codes "picture") then Some first_sixty else None)

-- a picture from this place on, of so many requests: both are at least 1
abbrev pub picture_from : ℕ → ℕ → Option Command
picture_from from count =
    if nat_lt 0 from && nat_lt 0 count then Some (Picture (record { from = from; count = count })) else None

-- the same, if both are numbers of 64 bits
abbrev pub picture_numbered : Option ℕ → Option ℕ → Option Command
picture_numbered (Some from) (Some count) = picture_from from count
picture_numbered (Some from) None = None
picture_numbered None count = None

-- `picture` with its two numbers: each is decimal digits of which the first isn't 0
abbrev pub picture_of : List ℕ → List ℕ → List ℕ → Option Command
picture_of word from count =
    if pointwise nat_eq word (codes "picture") then picture_numbered (number_of_word from) (number_of_word count)
    else None

-- the command that the words ask for: that of `check` without words; its name alone; or `picture` with two numbers
abbrev pub command_asked : List (List ℕ) → Option Command
command_asked [] = Some Check
command_asked (word ∷ []) = command_by_word word
command_asked (word ∷ from ∷ count ∷ []) = picture_of word from count
command_asked _ = None
