-- Lines, words and pieces that were joined are cut into themselves, and what was cut is joined into itself.
-- Used by `clean_lines_come_back`, `cut_texts_are_joined`, `joined_pieces_come_back`, `lines_are_few`,
-- `lines_follow_one_another`, `words_lack_other_bytes` and Clean.
use Rattle.std.proofs.Common.{◌≡◌, ℕ, suc, Bool, true, false, not, ◌&&◌, ◌==◌, ◌<◌, ◌≤◌, cond, List, [], ◌∷◌, ◌++◌, map, length, refl, sym, ap, ◌∙◌, append_assoc, arith}
use Rattle.std.specs.List.{list_all, onto_first}
use Rattle.std.proofs.lemmas.Bool.{and_parts, cond-true, cond-false, eqb-true, eq-eqb}
use Rattle.std.proofs.lemmas.List.Splits.{length-slice_split}
use Rattle.weave_text.specs.Lines.{Bytes, Word, Line, marked_texts, joined_texts, spaced_words, joined_words, line_text, lines_text}
use Rattle.weave_text.specs.Cutting.{lines_of, pieces_of, words_of, kept_lines, is_skipped, is_absent_from, is_clean, is_clean_line}

-- two tests that pass also pass together
pub both : (a b : Bool) → a ≡ true → b ≡ true → (a && b) ≡ true
both true b e h = h
both false b e h = absurd cc

-- a test whose opposite passes fails
pub unset : (a : Bool) → not a ≡ true → a ≡ false
unset true h = absurd cc
unset false h = refl

-- a byte that neither of two texts has isn't in both put together
pub lacks-append : (byte : ℕ) (a b : Bytes) → is_absent_from byte a ≡ true → is_absent_from byte b ≡ true → is_absent_from byte (a ++ b) ≡ true
lacks-append byte [] b h k = k
lacks-append byte (x ∷ a) b h k =
    let parts = and_parts (not (x == byte)) (is_absent_from byte a) h in
    both _ _ parts.0 (lacks-append byte a b parts.1 k)

-- ---- pieces

-- a piece is cut off before the byte
cut_piece : (byte : ℕ) (piece rest : Bytes) → is_absent_from byte piece ≡ true → pieces_of byte (piece ++ byte ∷ rest) ≡ piece ∷ pieces_of byte rest
cut_piece byte [] rest h = cond-true (byte == byte) _ _ (eq-eqb byte byte refl)
cut_piece byte (b ∷ piece) rest h =
    let parts = and_parts (not (b == byte)) (is_absent_from byte piece) h in
    cond-false (b == byte) _ _ (unset _ parts.0) ∙ ap (onto_first b) (cut_piece byte piece rest parts.1)

-- and is one by itself
last_piece : (byte : ℕ) (piece : Bytes) → is_absent_from byte piece ≡ true → pieces_of byte (piece ++ []) ≡ piece ∷ []
last_piece byte [] h = refl
last_piece byte (b ∷ piece) h =
    let parts = and_parts (not (b == byte)) (is_absent_from byte piece) h in
    cond-false (b == byte) _ _ (unset _ parts.0) ∙ ap (onto_first b) (last_piece byte piece parts.1)

-- pieces that lack a byte and are joined by it, one at least, are cut at it into themselves
pub pieces_come_back : (byte : ℕ) (piece : Bytes) (pieces : List Bytes) → list_all (is_absent_from byte) (piece ∷ pieces) ≡ true → pieces_of byte (joined_texts (byte ∷ []) (piece ∷ pieces)) ≡ piece ∷ pieces
pieces_come_back byte piece [] h = last_piece byte piece (and_parts (is_absent_from byte piece) true h).0
pieces_come_back byte piece (next ∷ pieces) h =
    let parts = and_parts (is_absent_from byte piece) (list_all (is_absent_from byte) (next ∷ pieces)) h in
    cut_piece byte piece (joined_texts (byte ∷ []) (next ∷ pieces)) parts.0 ∙ ap (λ cut. piece ∷ cut) (pieces_come_back byte next pieces parts.1)

join_more : (byte : ℕ) (is_mark : Bool) (b : ℕ) (text : Bytes) (cut : List Bytes) → 0 < length cut → (is_mark ≡ true → b ≡ byte) → joined_texts (byte ∷ []) cut ≡ text
    → joined_texts (byte ∷ []) (cond is_mark ([] ∷ cut) (onto_first b cut)) ≡ b ∷ text
join_more byte is_mark b text [] some at e = absurd (omega arith)
join_more byte true b text (piece ∷ pieces) some at e = ap (λ b. b ∷ piece ++ marked_texts (byte ∷ []) pieces) (sym (at refl)) ∙ ap (λ rest. b ∷ rest) e
join_more byte false b text (piece ∷ pieces) some at e = ap (λ rest. b ∷ rest) e

-- what was cut at a byte is joined into itself
pub joined_of-pieces : (byte : ℕ) (text : Bytes) → joined_texts (byte ∷ []) (pieces_of byte text) ≡ text
joined_of-pieces byte [] = refl
joined_of-pieces byte (b ∷ text) =
    join_more byte (b == byte) b text (pieces_of byte text) (omega (arith, length-slice_split (λ b. b == byte) text)) (λ e. eqb-true b byte e) (joined_of-pieces byte text)

-- ---- words

each_lacks_space : (words : List Word) → list_all is_clean words ≡ true → list_all (is_absent_from 32) words ≡ true
each_lacks_space [] h = refl
each_lacks_space (word ∷ words) h =
    let parts = and_parts (is_clean word) (list_all is_clean words) h in
    both _ _ (and_parts (is_absent_from 32 word) (is_absent_from 10 word) parts.0).0 (each_lacks_space words parts.1)

spaced_lacks_feed : (words : List Word) → list_all is_clean words ≡ true → is_absent_from 10 (spaced_words words) ≡ true
spaced_lacks_feed [] h = refl
spaced_lacks_feed (word ∷ words) h =
    let parts = and_parts (is_clean word) (list_all is_clean words) h in
    lacks-append 10 word (spaced_words words) (and_parts (is_absent_from 32 word) (is_absent_from 10 word) parts.0).1 (spaced_lacks_feed words parts.1)

-- what a clean line is
record IsCleanLine (word : Word) (words : List Word) : Type 0 where
  told : is_skipped word ≡ false
  each : list_all is_clean (word ∷ words) ≡ true

clean_of : (word : Word) (words : List Word) → is_clean_line (word ∷ words) ≡ true → IsCleanLine word words
clean_of word words h =
    let parts = and_parts (not (is_skipped word)) (list_all is_clean (word ∷ words)) h in
    record { told = unset _ parts.0; each = parts.1 }

-- the words of a clean line, joined by spaces, are cut into themselves
pub words_come_back : (line : Line) → is_clean_line line ≡ true → words_of (joined_words line) ≡ line
words_come_back [] h = absurd cc
words_come_back (word ∷ words) h = pieces_come_back 32 word words (each_lacks_space (word ∷ words) (clean_of word words h).each)

-- ---- lines

-- a line is cut off before a line feed
cut_line : (line text : Bytes) → is_absent_from 10 line ≡ true → lines_of (line ++ 10 ∷ text) ≡ line ∷ lines_of text
cut_line [] text h = refl
cut_line (byte ∷ line) text h =
    let parts = and_parts (not (byte == 10)) (is_absent_from 10 line) h in
    cond-false (byte == 10) _ _ (unset _ parts.0) ∙ ap (onto_first byte) (cut_line line text parts.1)

joined_lacks_feed : (line : Line) → is_clean_line line ≡ true → is_absent_from 10 (joined_words line) ≡ true
joined_lacks_feed [] h = absurd cc
joined_lacks_feed (word ∷ words) h =
    let parts = and_parts (is_clean word) (list_all is_clean words) (clean_of word words h).each in
    lacks-append 10 word (spaced_words words) (and_parts (is_absent_from 32 word) (is_absent_from 10 word) parts.0).1 (spaced_lacks_feed words parts.1)

-- the text of clean lines, with more text after it, is cut into these lines and then those of the rest
pub lines_come_back : (lines : List Line) (text : Bytes) → list_all is_clean_line lines ≡ true → lines_of (lines_text lines ++ text) ≡ map joined_words lines ++ lines_of text
lines_come_back [] text h = refl
lines_come_back (line ∷ lines) text h =
    let parts = and_parts (is_clean_line line) (list_all is_clean_line lines) h in
    ap lines_of (append_assoc (line_text line) (lines_text lines) text ∙ append_assoc (joined_words line) (10 ∷ []) (lines_text lines ++ text))
    ∙ cut_line (joined_words line) (lines_text lines ++ text) (joined_lacks_feed line parts.0)
    ∙ ap (λ rest. joined_words line ∷ rest) (lines_come_back lines text parts.1)

is_told : (word rest : Bytes) → is_skipped word ≡ false → is_skipped (word ++ rest) ≡ false
is_told [] rest h = absurd cc
is_told (byte ∷ word) rest h = h

line_is_told : (line : Line) → is_clean_line line ≡ true → is_skipped (joined_words line) ≡ false
line_is_told [] h = absurd cc
line_is_told (word ∷ words) h = is_told word (spaced_words words) (clean_of word words h).told

-- of clean lines in front of others none is skipped, and their words come back
pub kept_joined : (lines : List Line) (rest : List Bytes) → list_all is_clean_line lines ≡ true → kept_lines (map joined_words lines ++ rest) ≡ lines ++ kept_lines rest
kept_joined [] rest h = refl
kept_joined (line ∷ lines) rest h =
    let parts = and_parts (is_clean_line line) (list_all is_clean_line lines) h in
    cond-false (is_skipped (joined_words line)) _ _ (line_is_told line parts.0)
    ∙ ap (λ words. words ∷ kept_lines (map joined_words lines ++ rest)) (words_come_back line parts.0)
    ∙ ap (λ more. line ∷ more) (kept_joined lines rest parts.1)

-- ---- texts one after another

onto-append : (byte : ℕ) (cut more : List Bytes) → 1 ≤ length cut → onto_first byte (cut ++ more) ≡ onto_first byte cut ++ more
onto-append byte [] more some = absurd (omega (arith, some))
onto-append byte (line ∷ cut) more some = refl

-- a text that ends with a line feed has a line
has_line : (text : Bytes) → 1 ≤ length (lines_of (text ++ 10 ∷ []))
has_line [] = omega arith
has_line (byte ∷ text) = go (byte == 10) (lines_of (text ++ 10 ∷ []))
  where
    go : (feed : Bool) (cut : List Bytes) → 1 ≤ length (cond feed ([] ∷ cut) (onto_first byte cut))
    go true cut = omega arith
    go false [] = omega arith
    go false (line ∷ cut) = omega arith

-- the lines of a text that ends with a line feed, and then those of what follows it
pub lines_in_turn : (text more : Bytes) → lines_of (text ++ 10 ∷ more) ≡ lines_of (text ++ 10 ∷ []) ++ lines_of more
lines_in_turn [] more = refl
lines_in_turn (byte ∷ text) more = go (byte == 10) (lines_of (text ++ 10 ∷ more)) (lines_of (text ++ 10 ∷ [])) (lines_in_turn text more) (has_line text)
  where
    go : (feed : Bool) (all cut : List Bytes) → all ≡ cut ++ lines_of more → 1 ≤ length cut
        → cond feed ([] ∷ all) (onto_first byte all) ≡ cond feed ([] ∷ cut) (onto_first byte cut) ++ lines_of more
    go true all cut same some = ap (λ lines. [] ∷ lines) same
    go false all cut same some = ap (onto_first byte) same ∙ onto-append byte cut (lines_of more) some

few : (feed : Bool) (byte : ℕ) (cut : List Bytes) (n : ℕ) → length cut ≤ n → length (cond feed ([] ∷ cut) (onto_first byte cut)) ≤ suc n
few true byte cut n h = omega arith
few false byte [] n h = omega arith
few false byte (line ∷ cut) n h = omega arith

-- a text has at most as many lines as bytes
pub length-lines_of : (text : Bytes) → length (lines_of text) ≤ length text
length-lines_of [] = omega arith
length-lines_of (byte ∷ text) = few (byte == 10) byte (lines_of text) (length text) (length-lines_of text)
