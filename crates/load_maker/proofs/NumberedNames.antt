-- A small letter and a number are a name, and what is parsed of them is this name.
-- Used by `numbered`, NamesApart and ValidScripts.
use Rattle.std.proofs.Common.{◌≡◌, ◌+◌, take, Option, Some, None, cond, ℕ, ◌<◌, ◌^◌, true, ◌&&◌, List, [], ◌∷◌, ◌++◌, length, IsTrue, refl, ap, ◌∙◌, arith, lit<}
use Rattle.std.specs.Prelude.{nat_le}
use Rattle.std.specs.Char.{is_ascii_digit}
use Rattle.std.specs.Fmt.{decimal}
use Rattle.std.specs.List.{list_all}
use Rattle.std.proofs.Math.Seq.{take-append_seam}
use Rattle.std.proofs.lemmas.Bool.{cond-true, and_parts, and_from, or_left, or_right, le-leb}
use Rattle.std.proofs.lemmas.Fmt.{digits_decimal, length-decimal-le}
use Rattle.weave_data.specs.Names.{is_name, is_name_byte}
use Rattle.weave_data.proofs.Digits.{digits_are_numerals}

digit_is_letter : (b : ℕ) → is_ascii_digit b ≡ true → is_name_byte b ≡ true
digit_is_letter b h = or_left _ _ (or_right (nat_le 97 b && nat_le b 122) _ h)

digits_are_letters : (word : List ℕ) → list_all is_ascii_digit word ≡ true → list_all is_name_byte word ≡ true
digits_are_letters [] h = refl
digits_are_letters (b ∷ word) h =
    let parts = and_parts _ _ h in
    and_from _ _ (digit_is_letter b parts.0) (digits_are_letters word parts.1)

-- a small letter and a number of at most 32 bits are a name
pub numbered_is_name : (letter n : ℕ) → IsTrue (nat_le 97 letter && nat_le letter 122) → n < 2 ^ 32 → is_name (letter ∷ decimal n) ≡ true
numbered_is_name letter n small_letter small =
    let short = length-decimal-le 20 n (lit< tt) (omega (arith, small)) (omega (arith, small)) in
    and_from _ _ (and_from _ _ (le-leb 1 (length (letter ∷ decimal n)) (omega arith)) (le-leb (length (letter ∷ decimal n)) 32 (omega (arith, short))))
    (and_from _ _ (or_left _ _ (or_left _ _ small_letter)) (digits_are_letters (decimal n) (digits_decimal digits_are_numerals n (omega (arith, small)))))

-- the bytes of a buffer that begins with a letter and digits
spelled : (letter : ℕ) (digits copied rest : List ℕ) → copied ≡ digits → take (1 + length digits) (letter ∷ (copied ++ rest)) ≡ letter ∷ digits
spelled letter digits copied rest e =
    let len : 1 + length digits ≡ length (letter ∷ digits) = omega arith in
    ap (λ copied. take (1 + length digits) (letter ∷ (copied ++ rest))) e ∙ ap (λ n. take n ((letter ∷ digits) ++ rest)) len ∙ take-append_seam (letter ∷ digits) rest

-- what is parsed of them
pub parsed : (letter n : ℕ) (digits copied rest : List ℕ) (o : Option (List ℕ)) → IsTrue (nat_le 97 letter && nat_le letter 122) → n < 2 ^ 32 → digits ≡ decimal n → copied ≡ digits
    → (let bytes = take (1 + length digits) (letter ∷ (copied ++ rest)) in o ≡ cond (is_name bytes) (Some bytes) None) → o ≡ Some (letter ∷ decimal n)
parsed letter n digits copied rest o small_letter small digit_text copy parse =
    let bytes = spelled letter digits copied rest copy ∙ ap (λ digits. letter ∷ digits) digit_text in
    parse ∙ ap (λ (bytes : List ℕ). cond (is_name bytes) (Some bytes) None) bytes ∙ cond-true (is_name (letter ∷ decimal n)) _ _ (numbered_is_name letter n small_letter small)
