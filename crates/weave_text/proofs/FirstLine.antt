-- Where the first line of a text ends.
-- Used by `first_line`.
use Rattle.std.proofs.Common.{◌≡◌, ℕ, suc, ◌+◌, ◌-◌, ◌≤◌, ◌<◌, ◌==◌, Bool, true, false, not, cond, ltb, List, [], ◌∷◌, length, take, drop, Some, None, refl, sym, ap, ◌∙◌, arith}
use Rattle.std.specs.List.{position, position_or_len, onto_first}
use Rattle.std.proofs.lemmas.Bool.{ltb-true, ltb-false}
use Rattle.std.proofs.lemmas.List.{take_all, length-drop}
use Rattle.std.proofs.lemmas.Option.{cond_some}
use Rattle.weave_text.specs.Cutting.{lines_of}
use Rattle.weave_text.proofs.FirstPiece.{test_failed}

-- the byte ends a line
abbrev is_line_feed : ℕ → Bool
is_line_feed byte = byte == 10

abbrev first : List ℕ → ℕ
first text = position_or_len is_line_feed text

before : (byte : ℕ) (text : List ℕ) (n m : ℕ) → n ≡ suc (first text) → m ≡ suc (first text + 1) → lines_of text ≡ take (first text) text ∷ lines_of (drop (first text + 1) text)
    → onto_first byte (lines_of text) ≡ take n (byte ∷ text) ∷ lines_of (drop m (byte ∷ text))
before byte text n m e k rest = rw (e, k) (ap (onto_first byte) rest)

step : (feed : Bool) (byte : ℕ) (text : List ℕ) → (first text < length text → lines_of text ≡ take (first text) text ∷ lines_of (drop (first text + 1) text)) → cond (not feed) (1 + first text) 0 < suc (length text)
    → cond feed ([] ∷ lines_of text) (onto_first byte (lines_of text)) ≡ take (cond (not feed) (1 + first text) 0) (byte ∷ text) ∷ lines_of (drop (cond (not feed) (1 + first text) 0 + 1) (byte ∷ text))
step true byte text rest h = refl
step false byte text rest h = before byte text (1 + first text) (1 + first text + 1) (omega arith) (omega arith) (rest (omega arith))

to_feed : (text : List ℕ) → first text < length text → lines_of text ≡ take (first text) text ∷ lines_of (drop (first text + 1) text)
to_feed [] h = absurd (omega arith)
to_feed (byte ∷ text) h = step (is_line_feed byte) byte text (to_feed text) h

-- it ends at the first line feed
pub lines_of-cut : (text : List ℕ) (end : ℕ) → position (λ byte. byte == 10) text ≡ Some end → lines_of text ≡ take end text ∷ lines_of (take (length text - (end + 1)) (drop (end + 1) text))
lines_of-cut text end e =
    let found = cond_some (ltb (first text) (length text)) (first text) end e in
    let rest : take (length text - (end + 1)) (drop (end + 1) text) ≡ drop (end + 1) text = take_all _ _ (omega (arith, length-drop (end + 1) text)) in
    to_feed text (ltb-true _ _ found.0) ∙ ap (λ at. take at text ∷ lines_of (drop (at + 1) text)) found.1 ∙ ap (λ left. take end text ∷ lines_of left) (sym rest)

one : (feed : Bool) (byte : ℕ) (text : List ℕ) → (1 ≤ length text → lines_of text ≡ text ∷ []) → suc (length text) ≤ cond (not feed) (1 + first text) 0
    → cond feed ([] ∷ lines_of text) (onto_first byte (lines_of text)) ≡ (byte ∷ text) ∷ []
one true byte text rest h = absurd (omega arith)
one false byte [] rest h = refl
one false byte (next ∷ text) rest h = ap (onto_first byte) (rest (omega arith))

to_end : (text : List ℕ) → 1 ≤ length text → length text ≤ first text → lines_of text ≡ text ∷ []
to_end [] some h = absurd (omega arith)
to_end (byte ∷ text) some h = one (is_line_feed byte) byte text (λ some. to_end text some (after (is_line_feed byte) h)) h
  where
    after : (feed : Bool) → suc (length text) ≤ cond (not feed) (1 + first text) 0 → length text ≤ first text
    after true h = absurd (omega arith)
    after false h = omega arith

-- without a line feed the text is one line, if it has a byte
pub lines_of-whole : (text : List ℕ) → 1 ≤ length text → position (λ byte. byte == 10) text ≡ None → lines_of text ≡ text ∷ []
lines_of-whole text some e = to_end text some (ltb-false _ _ (test_failed (ltb (first text) (length text)) (first text) e))

-- a text that isn't empty has a byte
pub has_bytes : (text : List ℕ) (empty : Bool) → empty ≡ (length text == 0) → empty ≡ false → 1 ≤ length text
has_bytes [] empty e none = absurd cc
has_bytes (byte ∷ text) empty e none = omega arith
