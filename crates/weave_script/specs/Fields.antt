-- Fields of lines: what a word is read as, or for which cause it is refused.
use Rattle.std.specs.Prelude.{ℕ, Option, Some, None, Result, Ok, Err, nat_lt, if◌then◌else◌}
use Rattle.weave_data.specs.Steps.{◌>>=◌}
use Rattle.weave_data.specs.Names.{is_name}
use Rattle.weave_data.specs.declared.name.Name.{Name}
use Rattle.weave_text.specs.Lines.{Word}
use Rattle.weave_text.specs.Numbers.{number_up_to}
use Rattle.weave_text.specs.declared.numbers.Numeral.{Numeral}
use Rattle.weave_text.specs.declared.numbers.Numeral.TheVariants.{NoNumber, TooLarge, Number}
use Rattle.weave_script.specs.declared.fault.Cause.{Cause}
use Rattle.weave_script.specs.declared.fault.Cause.TheVariants as causes

-- what is read, or the cause for which it is refused
abbrev pub ReadOrCause : Type 0 → Type 0
ReadOrCause A = Result A Cause

-- what is there, or refused for the cause
abbrev pub or_refused : {A : Type 0} → Cause → Option A → ReadOrCause A
or_refused cause None = Err cause
or_refused cause (Some value) = Ok value

-- the name that the word is
abbrev pub name_word : Word → ReadOrCause Name
name_word word = if is_name word then Ok word else Err causes.Name

-- the number that was found, or this cause for a larger one
abbrev pub found_number : Cause → Numeral → ReadOrCause ℕ
found_number cause NoNumber = Err causes.Number
found_number cause TooLarge = Err cause
found_number cause (Number n) = Ok n

-- the number, if it is at least `least`
abbrev pub at_least : ℕ → Cause → ℕ → ReadOrCause ℕ
at_least least cause n = if nat_lt n least then Err cause else Ok n

-- the number that the word is; outside of least to most the cause is that of its place
abbrev pub number_in : ℕ → ℕ → Cause → Word → ReadOrCause ℕ
number_in least most cause word = found_number cause (number_up_to most word) >>= λ n. at_least least cause n
