-- Numbers of 128 bits come back from their words, which are clean.
-- Used by `is_number`, `wide_number`, PricedRead and ReportClean.
use Rattle.std.proofs.Common.{◌≡◌, ℕ, zero, suc, ◌+◌, ◌*◌, ◌/◌, ◌%◌, ◌<◌, ◌≤◌, ◌^◌, Bool, true, false, ◌==◌, ◌&&◌, ◌||◌, not, cond, List, [], ◌∷◌, ◌++◌, length, Some, None, refl, sym, ap, subst, ◌∙◌, append_assoc, append-nil, length-append, arith, lit<}
use Rattle.std.specs.Prelude.{nat_le, nat_lt, Result, Ok, Err, get_or, codes}
use lib.ListN.{get_or-append}
use Rattle.std.specs.Char.{is_ascii_digit, digit_value}
use Rattle.std.specs.Fmt.{decimal}
use Rattle.std.specs.List.{list_all}
use Rattle.std.specs.Result.{OkIff, result_ok}
use Rattle.std.specs.Str.{IsUtf8, bytes_eq}
use Rattle.std.specs.Str.Parse.{AllDigits, ParsesUnsigned, digits_value, digits_value_after}
use Rattle.std.proofs.lemmas.Bool.{and_parts, and_from, cond-true, cond-false, lt-ltb, ltb-true, eqb-true, eq-eqb, false_from_ne_true}
use Rattle.std.proofs.lemmas.Fmt.{IsAscii-from_digits, decimal_by_steps_wide, decimal_digit, decimal_is_IsNumeral_wide, decimal_step_wide}
use Rattle.std.proofs.lemmas.Option.{cond_some}
use Rattle.std.proofs.lemmas.Slice.Eq.{bytes_eq-Decides}
use Rattle.std.proofs.lemmas.Str.{IsUtf8-from_ascii, digit_value_digit}
use Rattle.std.proofs.lemmas.Str.Parse.{digit_from_value, parse_digits}
use Rattle.weave_data.proofs.Digits.{digits_are_numerals}
use Rattle.weave_text.specs.Cutting.{is_absent_from, is_clean}
use Rattle.weave_text.specs.Lines.{Word}
use Rattle.weave_text.specs.Numbers.{is_number, number_up_to, value_of}
use Rattle.weave_text.specs.declared.numbers.Numeral.TheVariants.{NoNumber, TooLarge, Number}
use Rattle.weave_report.specs.ReadingPriced.{wide_number_of}

-- ---- digits

-- a word of digits that doesn't begin with 0, or is `0`
record IsPlain (word : Word) : Type 0 where
  digits : list_all is_ascii_digit word ≡ true
  some : 0 < length word
  leading : get_or word 0 0 ≡ 48 → length word ≡ 1

alone : (zero last : Bool) → (not zero || last) ≡ true → zero ≡ true → last ≡ true
alone true last h e = h
alone false last h e = absurd cc

alone_from : (zero last : Bool) → (zero ≡ true → last ≡ true) → (not zero || last) ≡ true
alone_from true last h = h refl
alone_from false last h = refl

plain_of : (word : Word) → is_number word ≡ true → IsPlain word
plain_of [] h = absurd cc
plain_of (first ∷ rest) h =
    let parts = and_parts (not (first == 48) || (length rest == 0)) (list_all is_ascii_digit (first ∷ rest)) h in
    record {
      digits = parts.1;
      some = omega arith;
      leading = λ zero. omega (arith, eqb-true (length rest) 0 (alone (first == 48) (length rest == 0) parts.0 (eq-eqb first 48 zero)));
    }

is_number-from : (word : Word) → IsPlain word → is_number word ≡ true
is_number-from [] h = absurd (omega (arith, h.some))
is_number-from (first ∷ rest) h =
    let leads : (not (first == 48) || (length rest == 0)) ≡ true = alone_from (first == 48) (length rest == 0) (λ e. eq-eqb (length rest) 0 (omega (arith, h.leading (eqb-true first 48 e)))) in
    ap (λ b. b && list_all is_ascii_digit (first ∷ rest)) leads ∙ h.digits

-- a number is a text
pub number_is_utf8 : (word : Word) → is_number word ≡ true → IsUtf8 word
number_is_utf8 word h = IsUtf8-from_ascii word (IsAscii-from_digits word (digits_are_numerals.to word (plain_of word h).digits))

-- what is read, if the form of the word is known
pub wide_of-tested : (word : Word) (form : Bool) → is_number word ≡ form → wide_number_of word ≡ cond (form && nat_lt (value_of word) (2 ^ 128)) (Some (value_of word)) None
unfolding wide_number_of
wide_of-tested word form h = ap (λ form. cond (form && nat_lt (value_of word) (2 ^ 128)) (Some (value_of word)) None) h

-- a word that is a number is parsed as it
pub parsed_wide : {E : Type 0} (word : Word) (r : Result ℕ E) → is_number word ≡ true → ParsesUnsigned 128 10 word r → result_ok r ≡ wide_number_of word
parsed_wide {E} word r h p =
    let plain = plain_of word h in
    given r (parse_digits digits_are_numerals 128 word r p plain.digits) plain.some
  where
    given : (r : Result ℕ E) → OkIff r ((0 < length word) × (value_of word < 2 ^ 128)) (value_of word) → 0 < length word → result_ok r ≡ wide_number_of word
    given (Ok x) k some = sym (wide_of-tested word true h ∙ cond-true (nat_lt (value_of word) (2 ^ 128)) _ _ (lt-ltb _ _ k.0.1) ∙ ap (λ n. Some n) (sym k.1))
    given (Err e) k some = sym (wide_of-tested word true h ∙ cond-false (nat_lt (value_of word) (2 ^ 128)) _ _ (false_from_ne_true _ (λ small. k (some, ltb-true _ _ small))))

-- ---- numbers and their words

le_value_after : (n : ℕ) (ds : List ℕ) → n ≤ digits_value_after 10 n ds
le_value_after n [] = omega arith
le_value_after n (c ∷ cs) = omega (arith, le_value_after (n * 10 + digit_value c) cs)

decimal_value_after : (n : ℕ) (ds : List ℕ) → 0 < n → AllDigits 10 ds → digits_value_after 10 n ds < 10 ^ 64 → decimal (digits_value_after 10 n ds) ≡ decimal n ++ ds
decimal_value_after n [] some d small = sym (append-nil (decimal n))
decimal_value_after n (c ∷ cs) some d small =
    let m : ℕ = n * 10 + digit_value c in
    let k = digit_value_digit c (digit_from_value c d.0) in
    let front : m / 10 ≡ n = omega (arith, d.0) in
    let end : 48 + m % 10 ≡ c = omega (arith, d.0) in
    decimal_value_after m cs (omega arith) d.1 small
    ∙ ap (λ x. x ++ cs) (decimal_step_wide m (omega arith) (omega (arith, le_value_after m cs)) ∙ (λ i. decimal (front i) ++ (end i ∷ [])))
    ∙ append_assoc (decimal n) (c ∷ []) cs

decimal_value_digits : (ds : List ℕ) → AllDigits 10 ds → 0 < length ds → (get_or ds 0 0 ≡ 48 → length ds ≡ 1) → digits_value 10 ds < 10 ^ 64 → decimal (digits_value 10 ds) ≡ ds
decimal_value_digits [] d some lead small = absurd (omega arith)
decimal_value_digits (c ∷ []) d some lead small =
    let k = digit_value_digit c (digit_from_value c d.0) in
    decimal_digit (0 * 10 + digit_value c) (omega (arith, d.0)) ∙ ap (λ x. x ∷ []) (omega arith)
decimal_value_digits (c ∷ e ∷ cs) d some lead small =
    let k = digit_value_digit c (digit_from_value c d.0) in
    let no : c ≡ 48 → ⊥ = λ z. omega (arith, lead z) in
    let is : 48 + (0 * 10 + digit_value c) ≡ c = omega arith in
    decimal_value_after (0 * 10 + digit_value c) (e ∷ cs) (omega arith) d.1 small
    ∙ ap (λ x. x ++ (e ∷ cs)) (decimal_digit (0 * 10 + digit_value c) (omega (arith, d.0)) ∙ ap (λ x. x ∷ []) is)

-- the first digit of a number above 0 isn't 0
first_digit : (n : ℕ) → 0 < n → n < 10 ^ 64 → 48 < get_or (decimal n) 0 0
first_digit n some small = (decimal_by_steps_wide (λ m ds. (0 < length ds) × (0 < m → 48 < get_or ds 0 0)) (λ m l. (omega arith, λ a. omega arith))
    (λ m ds l h. (omega (arith, length-append ds ((48 + m % 10) ∷ [])), λ a. omega (arith, get_or-append ds ((48 + m % 10) ∷ []) 0 0 h.0, h.1 (omega arith)))) n small).1 some

decimal_is_plain : (n : ℕ) → n < 2 ^ 128 → IsPlain (decimal n)
decimal_is_plain n small =
    let numeral = decimal_is_IsNumeral_wide n (omega arith) in
    record { digits = digits_are_numerals.from (decimal n) numeral.0.1; some = numeral.0.0; leading = leads n small }
  where
    leads : (n : ℕ) → n < 2 ^ 128 → get_or (decimal n) 0 0 ≡ 48 → length (decimal n) ≡ 1
    leads zero small e = ap (λ word. length word) (decimal_digit 0 (lit< tt))
    leads (suc n) small e = absurd (omega (arith, e, first_digit (suc n) (omega arith) (omega arith)))

value_of_decimal : (n : ℕ) → n < 2 ^ 128 → value_of (decimal n) ≡ n
value_of_decimal n small = (decimal_is_IsNumeral_wide n (omega arith)).1

-- a number's word is read as it
pub wide_of-decimal : (n : ℕ) → n < 2 ^ 128 → wide_number_of (decimal n) ≡ Some n
wide_of-decimal n small =
    wide_of-tested (decimal n) true (is_number-from (decimal n) (decimal_is_plain n small))
    ∙ ap (λ m. cond (nat_lt m (2 ^ 128)) (Some m) None) (value_of_decimal n small)
    ∙ cond-true (nat_lt n (2 ^ 128)) _ _ (lt-ltb _ _ small)

-- what is read as a number is its word, and the number has 128 bits
pub word_of-wide : (word : Word) (n : ℕ) → wide_number_of word ≡ Some n → (word ≡ decimal n) × (n < 2 ^ 128)
unfolding wide_number_of
word_of-wide word n e =
    let read = cond_some (is_number word && nat_lt (value_of word) (2 ^ 128)) (value_of word) n e in
    let parts = and_parts (is_number word) (nat_lt (value_of word) (2 ^ 128)) read.0 in
    let plain = plain_of word parts.0 in
    let small : value_of word < 2 ^ 128 = ltb-true _ _ parts.1 in
    let same = decimal_value_digits word (digits_are_numerals.to word plain.digits) plain.some plain.leading (omega (arith, small)) in
    (sym same ∙ ap decimal read.1, subst (λ n. n < 2 ^ 128) read.1 small)

-- ---- words of numbers

lacks_by : (other : ℕ) → not (is_ascii_digit other) ≡ true → (word : List ℕ) → list_all is_ascii_digit word ≡ true → is_absent_from other word ≡ true
lacks_by other none [] h = refl
lacks_by other none (byte ∷ word) h =
    let parts = and_parts (is_ascii_digit byte) (list_all is_ascii_digit word) h in
    and_from _ _ (unlike byte (byte == other) refl parts.0) (lacks_by other none word parts.1)
  where
    both : (b : Bool) → not b ≡ true → b ≡ true → ⊥
    both b e k = cc

    unlike : (byte : ℕ) (same : Bool) → (byte == other) ≡ same → is_ascii_digit byte ≡ true → not same ≡ true
    unlike byte true e digit = absurd (both (is_ascii_digit other) none (ap is_ascii_digit (sym (eqb-true byte other e)) ∙ digit))
    unlike byte false e digit = refl

-- the word of a number is clean
pub wide_is_clean : (n : ℕ) → n < 2 ^ 128 → is_clean (decimal n) ≡ true
wide_is_clean n small =
    let digits = (decimal_is_plain n small).digits in
    and_from _ _ (lacks_by 32 refl (decimal n) digits) (lacks_by 10 refl (decimal n) digits)

-- the word of a number isn't `none`
pub wide_is_not_none : (n : ℕ) → n < 2 ^ 128 → bytes_eq (decimal n) (codes "none") ≡ false
wide_is_not_none n small = false_from_ne_true _ (λ e.
    let word = (bytes_eq-Decides (decimal n) (codes "none")).0 e in
    no_digits (subst (λ word. list_all is_ascii_digit word ≡ true) word (decimal_is_plain n small).digits))
  where
    no_digits : list_all is_ascii_digit (codes "none") ≡ true → ⊥
    no_digits e = cc

-- ---- the test for a number

form_of-none : (form small : Bool) (v : ℕ) → cond form (cond small (Number v) TooLarge) NoNumber ≡ NoNumber → form ≡ false
form_of-none true true v e = absurd cc
form_of-none true false v e = absurd cc
form_of-none false small v e = refl

form_of-large : (form small : Bool) (v : ℕ) → cond form (cond small (Number v) TooLarge) NoNumber ≡ TooLarge → form ≡ true
form_of-large true small v e = refl
form_of-large false small v e = absurd cc

form_of-some : (form small : Bool) (v n : ℕ) → cond form (cond small (Number v) TooLarge) NoNumber ≡ Number n → form ≡ true
form_of-some true small v n e = refl
form_of-some false small v n e = absurd cc

-- a word that is found to be no number is none
pub no_number : (word : Word) → number_up_to 0 word ≡ NoNumber → is_number word ≡ false
unfolding number_up_to
no_number word e = form_of-none (is_number word) (nat_le (value_of word) 0) (value_of word) e

-- one that is too large is one
pub large_number : (word : Word) → number_up_to 0 word ≡ TooLarge → is_number word ≡ true
unfolding number_up_to
large_number word e = form_of-large (is_number word) (nat_le (value_of word) 0) (value_of word) e

-- and one that is this number
pub some_number : (word : Word) (n : ℕ) → number_up_to 0 word ≡ Number n → is_number word ≡ true
unfolding number_up_to
some_number word n e = form_of-some (is_number word) (nat_le (value_of word) 0) (value_of word) n e
