-- The words of the command `keep`.
use Rattle.std.specs.Prelude.{ℕ, Bool, false, List, [], ◌∷◌, codes, nat_eq}
use Rattle.std.specs.Cmp.Lexicographic.{pointwise}

-- the words are `keep` and one more
abbrev pub are_keep_words : List (List ℕ) → Bool
are_keep_words (word ∷ path ∷ []) = pointwise nat_eq word (codes "keep")
are_keep_words _ = false
