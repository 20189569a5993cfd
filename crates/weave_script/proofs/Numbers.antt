-- A word read as a number is at most the limit, and a word is told as a number exactly if it is one.
-- Used by `is_number`, `number_in` and HeaderLaws.
use Rattle.std.proofs.Common.{◌≡◌, ℕ, ◌≤◌, Bool, true, false, cond, refl, subst}
use Rattle.std.proofs.lemmas.Bool.{leb-true}
use Rattle.std.specs.Prelude.{nat_le}
use Rattle.weave_text.specs.Lines.{Word}
use Rattle.weave_text.specs.Numbers.{is_number, value_of, number_up_to}
use Rattle.weave_text.specs.declared.numbers.Numeral.TheVariants.{NoNumber, TooLarge, Number}
use Rattle.weave_text.specs.declared.numbers.Numeral.{Numeral}

found : (number small : Bool) (value n : ℕ) → cond number (cond small (Number value) TooLarge) NoNumber ≡ Number n → (small ≡ true) × (value ≡ n)
found true true value n e = (refl, cc)
found true false value n e = absurd cc
found false small value n e = absurd cc

-- a word that is read as a number up to a limit gives one that is at most the limit
pub number_up_to-most : (most : ℕ) (word : Word) (n : ℕ) → number_up_to most word ≡ Number n → n ≤ most
unfolding number_up_to
number_up_to-most most word n e =
    let h = found (is_number word) (nat_le (value_of word) most) (value_of word) n e in
    subst (λ m. m ≤ most) h.1 (leb-true (value_of word) most h.0)

-- a word was told as a number, be it too large or not
abbrev pub is_told : Numeral → Bool
is_told NoNumber = false
is_told TooLarge = true
is_told (Number n) = true

told : (number small : Bool) (value : ℕ) → is_told (cond number (cond small (Number value) TooLarge) NoNumber) ≡ number
told true true value = refl
told true false value = refl
told false small value = refl

-- a word is told as a number, be it too large or not, exactly if it is a number
pub is_told-number_up_to : (most : ℕ) (word : Word) → is_told (number_up_to most word) ≡ is_number word
unfolding number_up_to
is_told-number_up_to most word = told (is_number word) (nat_le (value_of word) most) (value_of word)
