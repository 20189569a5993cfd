-- Names and numbers are clean words.
-- Used by `words_are_clean`, `words_lack_other_bytes` and crate weave_script.
use Rattle.std.proofs.Common.{◌≡◌, ℕ, Bool, true, false, not, ◌==◌, ◌<◌, ◌^◌, List, [], ◌∷◌, ◌++◌, length, refl, sym, ap, ◌∙◌}
use Rattle.std.specs.Prelude.{◌&&◌, nat_le}
use Rattle.std.specs.Char.{is_ascii_digit}
use Rattle.std.specs.Fmt.{decimal}
use Rattle.std.specs.List.{list_all}
use Rattle.std.proofs.lemmas.Bool.{and_parts, eqb-true, false_from_ne_true, both_ways}
use Rattle.weave_data.specs.Names.{is_name, is_name_byte}
use Rattle.weave_text.specs.Cutting.{is_skipped, is_absent_from, is_clean}
use Rattle.weave_text.proofs.Joined.{both, unset, lacks-append}
use Rattle.weave_text.proofs.Numerals.{digits_of_decimal}

-- a byte that passes a test is none that fails it
unlike : (test : ℕ → Bool) (byte other : ℕ) → not (test other) ≡ true → test byte ≡ true → not (byte == other) ≡ true
unlike test byte other none some =
    ap not (false_from_ne_true (byte == other) (λ e. both_ways (test other) (unset _ none) (sym (ap test (eqb-true byte other e)) ∙ some)))

lacks_by : (test : ℕ → Bool) (other : ℕ) → not (test other) ≡ true → (word : List ℕ) → list_all test word ≡ true → is_absent_from other word ≡ true
lacks_by test other none [] h = refl
lacks_by test other none (byte ∷ word) h =
    let parts = and_parts (test byte) (list_all test word) h in
    both _ _ (unlike test byte other none parts.0) (lacks_by test other none word parts.1)

record IsNamed (word : List ℕ) : Type 0 where
  some : nat_le 1 (length word) ≡ true
  letters : list_all is_name_byte word ≡ true

named : (word : List ℕ) → is_name word ≡ true → IsNamed word
named word h =
    let parts = and_parts (nat_le 1 (length word) && nat_le (length word) 32) (list_all is_name_byte word) h in
    record { some = (and_parts (nat_le 1 (length word)) (nat_le (length word) 32) parts.0).0; letters = parts.1 }

-- a name has no byte that isn't one of names
pub name_lacks : (byte : ℕ) (word : List ℕ) → not (is_name_byte byte) ≡ true → is_name word ≡ true → is_absent_from byte word ≡ true
name_lacks byte word none h = lacks_by is_name_byte byte none word (named word h).letters

-- the word of a number of 64 bits has no byte that isn't a digit
pub decimal_lacks : (byte n : ℕ) → not (is_ascii_digit byte) ≡ true → n < 2 ^ 64 → is_absent_from byte (decimal n) ≡ true
decimal_lacks byte n none small = lacks_by is_ascii_digit byte none (decimal n) (digits_of_decimal n small)

-- a name has neither a space nor a line feed
pub name_is_clean : (word : List ℕ) → is_name word ≡ true → is_clean word ≡ true
name_is_clean word h = both _ _ (name_lacks 32 word refl h) (name_lacks 10 word refl h)

-- nor has the word of a number of 64 bits
pub decimal_is_clean : (n : ℕ) → n < 2 ^ 64 → is_clean (decimal n) ≡ true
decimal_is_clean n small = both _ _ (decimal_lacks 32 n refl small) (decimal_lacks 10 n refl small)

-- two clean words put together are a clean word
pub is_clean-append : (a b : List ℕ) → is_clean a ≡ true → is_clean b ≡ true → is_clean (a ++ b) ≡ true
is_clean-append a b h k =
    let first = and_parts (is_absent_from 32 a) (is_absent_from 10 a) h in
    let second = and_parts (is_absent_from 32 b) (is_absent_from 10 b) k in
    both _ _ (lacks-append 32 a b first.0 second.0) (lacks-append 10 a b first.1 second.1)

kept : (word : List ℕ) → IsNamed word → not (is_skipped word) ≡ true
kept [] h = absurd (both_ways false refl h.some)
kept (byte ∷ word) h = unlike is_name_byte byte 35 refl (and_parts (is_name_byte byte) (list_all is_name_byte word) h.letters).0

-- a line that is a name isn't skipped
pub name_is_kept : (word : List ℕ) → is_name word ≡ true → not (is_skipped word) ≡ true
name_is_kept word h = kept word (named word h)
