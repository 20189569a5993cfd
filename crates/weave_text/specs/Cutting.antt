-- Texts cut into lines, and lines into words, as they are read.
use Rattle.std.specs.Prelude.{ℕ, Bool, true, false, not, ◌==◌, ◌&&◌, List, [], ◌∷◌, Option, Some, None, if◌then◌else◌}
use Rattle.std.specs.List.{list_all, onto_first, slice_split}
use Rattle.weave_text.specs.Lines.{Bytes, Word, Line}

-- a text's lines: each ends with a line feed, which the last may lack, and a text of no bytes has none
abbrev pub lines_of : Bytes → List Bytes
lines_of [] = []
lines_of (byte ∷ text) = if byte == 10 then [] ∷ lines_of text else onto_first byte (lines_of text)

-- a text's pieces: what is before, between and after the occurrences of this byte
abbrev pub pieces_of : ℕ → Bytes → List Bytes
pieces_of byte text = slice_split (λ b. b == byte) text

-- there are no pieces, or no words
abbrev pub is_empty : List Bytes → Bool
is_empty [] = true
is_empty (piece ∷ pieces) = false

-- the pieces that are still to come of a text, of which this is left
abbrev pub pieces_left : ℕ → Option Bytes → List Bytes
pieces_left byte None = []
pieces_left byte (Some text) = pieces_of byte text

-- a line's words: what is before, between and after its spaces
abbrev pub words_of : Bytes → Line
words_of line = pieces_of 32 line

-- the line is skipped: it is empty, or begins with `#`
abbrev pub is_skipped : Bytes → Bool
is_skipped [] = true
is_skipped (first ∷ rest) = first == 35

-- the lines that aren't skipped, as their words
abbrev pub kept_lines : List Bytes → List Line
kept_lines [] = []
kept_lines (line ∷ lines) = if is_skipped line then kept_lines lines else words_of line ∷ kept_lines lines

-- the byte isn't in the text
abbrev pub is_absent_from : ℕ → Bytes → Bool
is_absent_from byte text = list_all (λ b. not (b == byte)) text

-- the word has neither a space nor a line feed
abbrev pub is_clean : Word → Bool
is_clean word = is_absent_from 32 word && is_absent_from 10 word

-- a line has clean words, and its first word keeps it from being skipped
abbrev pub is_clean_line : Line → Bool
is_clean_line [] = false
is_clean_line (word ∷ words) = not (is_skipped word) && list_all is_clean (word ∷ words)
