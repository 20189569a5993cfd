-- Words that are numbers.
use Rattle.std.specs.Prelude.{ℕ, ◌^◌, Bool, false, ◌&&◌, ◌||◌, not, ◌==◌, nat_le, nat_lt, [], ◌∷◌, length, Option, Some, None, if◌then◌else◌}
use Rattle.std.specs.Char.{is_ascii_digit}
use Rattle.std.specs.List.{list_all}
use Rattle.std.specs.Str.Parse.{digits_value}
use Rattle.weave_text.specs.Lines.{Word}
use Rattle.weave_text.specs.declared.numbers.Numeral.{Numeral}
use Rattle.weave_text.specs.declared.numbers.Numeral.TheVariants.{NoNumber, TooLarge, Number}

-- the word is one decimal digit or more, and begins with 0 only if it is `0`
abbrev pub is_number : Word → Bool
is_number [] = false
is_number (first ∷ rest) = (not (first == 48) || (length rest == 0)) && list_all is_ascii_digit (first ∷ rest)

-- the number that the digits write, from the left
abbrev pub value_of : Word → ℕ
value_of word = digits_value 10 word

-- the number that the word is, if it is one of 64 bits
unfoldable pub number_of_word : Word → Option ℕ
number_of_word word = if is_number word && nat_lt (value_of word) (2 ^ 64) then Some (value_of word) else None

-- what the word is as a number of at most `most`
unfoldable pub number_up_to : ℕ → Word → Numeral
number_up_to most word =
    if is_number word then (if nat_le (value_of word) most then Number (value_of word) else TooLarge) else NoNumber
