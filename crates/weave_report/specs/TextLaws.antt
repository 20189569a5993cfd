-- The laws of words and lines that the laws of reports rely on, in one record. No public contract cites this.
use Rattle.std.specs.Prelude.{◌≡◌, ◌<◌, ◌^◌, ◌++◌, ◌∷◌, [], ℕ, List, Some, IsTrue, not}
use Rattle.std.specs.Char.{is_ascii_digit}
use Rattle.std.specs.Fmt.{decimal}
use Rattle.std.specs.List.{list_all}
use Rattle.weave_data.specs.Names.{is_name, is_name_byte}
use Rattle.weave_text.specs.Cutting.{is_clean, is_clean_line, kept_lines, is_absent_from, lines_of, pieces_of}
use Rattle.weave_text.specs.Lines.{Bytes, Line, Word, joined_texts, lines_text}
use Rattle.weave_text.specs.Numbers.{number_of_word}

-- names and numbers are clean and lack other bytes; pieces, lines and numbers come back from their texts
pub record TextLaws : Type 0 where
  pub name_lacks : (byte : ℕ) (word : Word) → IsTrue (not (is_name_byte byte)) → IsTrue (is_name word)
      → IsTrue (is_absent_from byte word)
  pub decimal_lacks : (byte n : ℕ) → IsTrue (not (is_ascii_digit byte)) → n < 2 ^ 64
      → IsTrue (is_absent_from byte (decimal n))
  pub lacks-append : (byte : ℕ) (a b : Bytes) → IsTrue (is_absent_from byte a) → IsTrue (is_absent_from byte b)
      → IsTrue (is_absent_from byte (a ++ b))
  pub name_is_clean : (word : Word) → IsTrue (is_name word) → IsTrue (is_clean word)
  pub decimal_is_clean : (n : ℕ) → n < 2 ^ 64 → IsTrue (is_clean (decimal n))
  pub is_clean-append : (a b : Word) → IsTrue (is_clean a) → IsTrue (is_clean b) → IsTrue (is_clean (a ++ b))
  pub pieces_come_back : (byte : ℕ) (piece : Bytes) (pieces : List Bytes)
      → IsTrue (list_all (is_absent_from byte) (piece ∷ pieces))
      → pieces_of byte (joined_texts (byte ∷ []) (piece ∷ pieces)) ≡ piece ∷ pieces
  pub joined_of-pieces : (byte : ℕ) (text : Bytes) → joined_texts (byte ∷ []) (pieces_of byte text) ≡ text
  pub kept : (lines : List Line) → IsTrue (list_all is_clean_line lines)
      → kept_lines (lines_of (lines_text lines)) ≡ lines
  pub number_of-decimal : (n : ℕ) → n < 2 ^ 64 → number_of_word (decimal n) ≡ Some n
  pub word_of-number : (word : Word) (n : ℕ) → number_of_word word ≡ Some n → (word ≡ decimal n) × (n < 2 ^ 64)
