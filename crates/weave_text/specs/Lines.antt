-- Texts of lines of words, as they are written.
use Rattle.std.specs.Prelude.{ℕ, List, [], ◌∷◌, ◌++◌, codes}
use Rattle.std.specs.List.{flat_map}

-- a text, as its bytes
abbrev pub Bytes : Type 0
Bytes = List ℕ

-- a word, as its bytes
abbrev pub Word : Type 0
Word = Bytes

-- a line, as its words
abbrev pub Line : Type 0
Line = List Word

-- texts with this mark before each
abbrev pub marked_texts : Bytes → List Bytes → Bytes
marked_texts mark texts = flat_map (λ text. mark ++ text) texts

-- texts with this mark between each two
abbrev pub joined_texts : Bytes → List Bytes → Bytes
joined_texts mark [] = []
joined_texts mark (first ∷ more) = first ++ marked_texts mark more

-- words as they go on after a line's first one
abbrev pub spaced_words : List Word → Bytes
spaced_words = marked_texts (codes " ")

-- a line's words with one space between
abbrev pub joined_words : Line → Bytes
joined_words = joined_texts (codes " ")

-- a line's words with one space between, and a line feed
abbrev pub line_text : Line → Bytes
line_text words = joined_words words ++ codes "\n"

-- the lines' texts in a row
abbrev pub lines_text : List Line → Bytes
lines_text lines = flat_map line_text lines
