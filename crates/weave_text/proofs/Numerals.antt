-- The number that a word is, and the one word of a number.
-- Used by `number`, `number_up_to`, `numbers_come_back` and Clean.
use Rattle.std.proofs.Common.{◌≡◌, ℕ, zero, suc, ◌<◌, ◌≤◌, ◌^◌, Bool, true, false, ◌==◌, ◌&&◌, ◌||◌, not, cond, [], ◌∷◌, length, Some, None, refl, sym, ap, ◌∙◌, arith, lit<}
use Rattle.std.specs.Prelude.{nat_lt, nat_le, Result, Ok, Err, get_or}
use Rattle.std.specs.Char.{is_ascii_digit}
use Rattle.std.specs.Fmt.{decimal}
use Rattle.std.specs.List.{list_all}
use Rattle.std.specs.Result.{OkIff, result_ok}
use Rattle.std.specs.Str.{IsUtf8}
use Rattle.std.specs.Str.Parse.{ParsesUnsigned}
use Rattle.std.proofs.lemmas.Bool.{and_parts, cond-true, cond-false, lt-ltb, ltb-true, ltb-false, le-leb, leb-true, eqb-true, eq-eqb, false_from_ne_true}
use Rattle.std.proofs.lemmas.Fmt.{IsAscii-from_digits, decimal_digit, decimal_nonempty, first_decimal, digits_decimal, digits_value-decimal, decimal-digits_value}
use Rattle.std.proofs.lemmas.Option.{cond_some}
use Rattle.std.proofs.lemmas.Str.{IsUtf8-from_ascii}
use Rattle.std.proofs.lemmas.Str.Parse.{parse_digits}
use Rattle.weave_data.proofs.Digits.{digits_are_numerals}
use Rattle.weave_text.specs.Lines.{Word}
use Rattle.weave_text.specs.Numbers.{is_number, value_of, number_of_word, number_up_to}
use Rattle.weave_text.specs.declared.numbers.Numeral.TheVariants.{NoNumber, TooLarge, Number}

-- a word of digits that doesn't begin with 0, or is `0`
record IsPlain (word : Word) : Type 0 where
  digits : list_all is_ascii_digit word ≡ true
  some : 0 < length word
  leading : get_or word 0 0 ≡ 48 → length word ≡ 1

alone : (zero last : Bool) → (not zero || last) ≡ true → zero ≡ true → last ≡ true
alone true last h e = h
alone false last h e = absurd cc

alone_from : (zero last : Bool) → (zero ≡ true → last ≡ true) → (not zero || last) ≡ true
alone_from true last h = h refl
alone_from false last h = refl

plain_of : (word : Word) → is_number word ≡ true → IsPlain word
plain_of [] h = absurd cc
plain_of (first ∷ rest) h =
    let parts = and_parts (not (first == 48) || (length rest == 0)) (list_all is_ascii_digit (first ∷ rest)) h in
    record {
      digits = parts.1;
      some = omega arith;
      leading = λ zero. omega (arith, eqb-true (length rest) 0 (alone (first == 48) (length rest == 0) parts.0 (eq-eqb first 48 zero)));
    }

is_number-from : (word : Word) → IsPlain word → is_number word ≡ true
is_number-from [] h = absurd (omega (arith, h.some))
is_number-from (first ∷ rest) h =
    let leads : (not (first == 48) || (length rest == 0)) ≡ true = alone_from (first == 48) (length rest == 0) (λ e. eq-eqb (length rest) 0 (omega (arith, h.leading (eqb-true first 48 e)))) in
    ap (λ b. b && list_all is_ascii_digit (first ∷ rest)) leads ∙ h.digits

-- a number is a text
pub number_is_utf8 : (word : Word) → is_number word ≡ true → IsUtf8 word
number_is_utf8 word h = IsUtf8-from_ascii word (IsAscii-from_digits word (digits_are_numerals.to word (plain_of word h).digits))

-- what is read, if the form of the word is known
pub number_of-tested : (word : Word) (form : Bool) → is_number word ≡ form → number_of_word word ≡ cond (form && nat_lt (value_of word) (2 ^ 64)) (Some (value_of word)) None
unfolding number_of_word
number_of-tested word form h = ap (λ form. cond (form && nat_lt (value_of word) (2 ^ 64)) (Some (value_of word)) None) h

-- a word that is a number is parsed as it
pub parsed_number : {E : Type 0} (word : Word) (r : Result ℕ E) → is_number word ≡ true → ParsesUnsigned 64 10 word r → result_ok r ≡ number_of_word word
parsed_number {E} word r h p =
    let plain = plain_of word h in
    given r (parse_digits digits_are_numerals 64 word r p plain.digits) plain.some
  where
    given : (r : Result ℕ E) → OkIff r ((0 < length word) × (value_of word < 2 ^ 64)) (value_of word) → 0 < length word → result_ok r ≡ number_of_word word
    given (Ok x) k some = sym (number_of-tested word true h ∙ cond-true (nat_lt (value_of word) (2 ^ 64)) _ _ (lt-ltb _ _ k.0.1) ∙ ap (λ n. Some n) (sym k.1))
    given (Err e) k some = sym (number_of-tested word true h ∙ cond-false (nat_lt (value_of word) (2 ^ 64)) _ _ (false_from_ne_true _ (λ small. k (some, ltb-true _ _ small))))

-- ---- numbers and their words

decimal_is_plain : (n : ℕ) → n < 2 ^ 64 → IsPlain (decimal n)
decimal_is_plain n small = record { digits = digits_decimal digits_are_numerals n small; some = decimal_nonempty n small; leading = leads n small }
  where
    leads : (n : ℕ) → n < 2 ^ 64 → get_or (decimal n) 0 0 ≡ 48 → length (decimal n) ≡ 1
    leads zero small e = ap (λ word. length word) (decimal_digit 0 (lit< tt))
    leads (suc n) small e = absurd (omega (arith, e, first_decimal (suc n) (omega arith) small))

-- a number's word is read as it
pub number_of-decimal : (n : ℕ) → n < 2 ^ 64 → number_of_word (decimal n) ≡ Some n
number_of-decimal n small =
    let value = digits_value-decimal digits_are_numerals n small in
    number_of-tested (decimal n) true (is_number-from (decimal n) (decimal_is_plain n small))
    ∙ ap (λ m. cond (nat_lt m (2 ^ 64)) (Some m) None) value
    ∙ cond-true (nat_lt n (2 ^ 64)) _ _ (lt-ltb _ _ small)

-- what is read as a number is its word
pub decimal_of-number : (word : Word) (n : ℕ) → number_of_word word ≡ Some n → word ≡ decimal n
unfolding number_of_word
decimal_of-number word n e =
    let read = cond_some (is_number word && nat_lt (value_of word) (2 ^ 64)) (value_of word) n e in
    let parts = and_parts (is_number word) (nat_lt (value_of word) (2 ^ 64)) read.0 in
    let plain = plain_of word parts.0 in
    sym (decimal-digits_value digits_are_numerals word plain.digits plain.some plain.leading (ltb-true _ _ parts.1)) ∙ ap decimal read.1

-- ---- numbers of at most so much

unlike : (b : Bool) (n : ℕ) → cond b (Some n) None ≡ None → b ≡ false
unlike true n e = absurd cc
unlike false n e = refl

is_within : (most : ℕ) (word : Word) → is_number word ≡ true → value_of word ≤ most → number_up_to most word ≡ Number (value_of word)
unfolding number_up_to
is_within most word form small =
    cond-true (is_number word) _ _ form ∙ cond-true (nat_le (value_of word) most) _ _ (le-leb _ _ small)

is_past : (most : ℕ) (word : Word) → is_number word ≡ true → most < value_of word → number_up_to most word ≡ TooLarge
unfolding number_up_to
is_past most word form large =
    cond-true (is_number word) _ _ form ∙ cond-false (nat_le (value_of word) most) _ _ (false_from_ne_true _ (λ small. absurd (omega (arith, leb-true _ _ small))))

record IsRead (word : Word) (n : ℕ) : Type 0 where
  form : is_number word ≡ true
  value : value_of word ≡ n

read_of : (word : Word) (n : ℕ) → number_of_word word ≡ Some n → IsRead word n
unfolding number_of_word
read_of word n e =
    let read = cond_some (is_number word && nat_lt (value_of word) (2 ^ 64)) (value_of word) n e in
    record { form = (and_parts (is_number word) (nat_lt (value_of word) (2 ^ 64)) read.0).0; value = read.1 }

-- a word that is a number of 64 bits and at most so much is found to be this number
pub number_up_to-within : (most : ℕ) (word : Word) (n : ℕ) → number_of_word word ≡ Some n → n ≤ most → number_up_to most word ≡ Number n
number_up_to-within most word n e small =
    let read = read_of word n e in
    is_within most word read.form (omega (arith, read.value)) ∙ ap (λ n. Number n) read.value

-- one that is a greater number of 64 bits is too large
pub number_up_to-past : (most : ℕ) (word : Word) (n : ℕ) → number_of_word word ≡ Some n → most < n → number_up_to most word ≡ TooLarge
number_up_to-past most word n e large =
    let read = read_of word n e in
    is_past most word read.form (omega (arith, read.value))

-- so is a number that doesn't have 64 bits, if the bound has
pub number_up_to-long : (most : ℕ) (word : Word) → most < 2 ^ 64 → number_of_word word ≡ None → is_number word ≡ true → number_up_to most word ≡ TooLarge
number_up_to-long most word fits e form =
    let none = unlike (nat_lt (value_of word) (2 ^ 64)) (value_of word) (sym (number_of-tested word true form) ∙ e) in
    is_past most word form (omega (arith, ltb-false _ _ none))

-- a word that is no number is found to be none
pub number_up_to-none : (most : ℕ) (word : Word) → is_number word ≡ false → number_up_to most word ≡ NoNumber
unfolding number_up_to
number_up_to-none most word form = cond-false (is_number word) _ _ form

-- the word of a number of 64 bits consists of digits
pub digits_of_decimal : (n : ℕ) → n < 2 ^ 64 → list_all is_ascii_digit (decimal n) ≡ true
digits_of_decimal n small = (decimal_is_plain n small).digits

below : (word : Word) (n : ℕ) → number_of_word word ≡ Some n → n < 2 ^ 64
unfolding number_of_word
below word n e =
    let read = cond_some (is_number word && nat_lt (value_of word) (2 ^ 64)) (value_of word) n e in
    let parts = and_parts (is_number word) (nat_lt (value_of word) (2 ^ 64)) read.0 in
    omega (arith, ltb-true _ _ parts.1, read.1)

-- what is read as a number is its word, and the number has 64 bits
pub word_of-number : (word : Word) (n : ℕ) → number_of_word word ≡ Some n → (word ≡ decimal n) × (n < 2 ^ 64)
word_of-number word n e = (decimal_of-number word n e, below word n e)

-- the word of a number that is at most a bound of 64 bits is found to be this number
pub number_up_to-decimal : (most n : ℕ) → most < 2 ^ 64 → n ≤ most → number_up_to most (decimal n) ≡ Number n
number_up_to-decimal most n fits small = number_up_to-within most (decimal n) n (number_of-decimal n (omega arith)) small

record IsBounded (most : ℕ) (word : Word) (n : ℕ) : Type 0 where
  form : is_number word ≡ true
  small : value_of word ≤ most
  value : value_of word ≡ n

bounded : (form small : Bool) (v n : ℕ) → cond form (cond small (Number v) TooLarge) NoNumber ≡ Number n → (form ≡ true) × (small ≡ true) × (v ≡ n)
bounded true true v n e = (refl, refl, cc)
bounded true false v n e = absurd cc
bounded false small v n e = absurd cc

bounded_of : (most : ℕ) (word : Word) (n : ℕ) → number_up_to most word ≡ Number n → IsBounded most word n
unfolding number_up_to
bounded_of most word n e =
    let parts = bounded (is_number word) (nat_le (value_of word) most) (value_of word) n e in
    record { form = parts.0; small = leb-true _ _ parts.1; value = parts.2 }

-- what is found to be a number of at most a bound of 64 bits is its word, and the number is at most the bound
pub word_of-bounded : (most : ℕ) (word : Word) (n : ℕ) → most < 2 ^ 64 → number_up_to most word ≡ Number n → (word ≡ decimal n) × (n ≤ most)
word_of-bounded most word n fits e =
    let read = bounded_of most word n e in
    let plain = plain_of word read.form in
    (sym (decimal-digits_value digits_are_numerals word plain.digits plain.some plain.leading (omega (arith, read.small))) ∙ ap decimal read.value, omega (arith, read.small, read.value))
