-- Where the first piece of a text ends.
-- Used by `is_empty`, `next`, FirstLine and crate weave_report.
use Rattle.std.proofs.Common.{◌≡◌, Bor, ℕ, suc, ◌+◌, ◌-◌, ◌≤◌, ◌==◌, Bool, true, false, not, cond, ltb, List, [], ◌∷◌, length, take, drop, Some, None, refl, sym, ap, ◌∙◌, arith}
use Rattle.std.specs.List.{position, position_or_len, onto_first}
use Rattle.std.proofs.lemmas.Bool.{ltb-true, ltb-false}
use Rattle.std.proofs.lemmas.List.{take_rest}
use Rattle.std.proofs.lemmas.List.Splits.{slice_split_first}
use Rattle.std.proofs.lemmas.Option.{cond_some}
use Rattle.weave_text.specs.Lines.{Bytes}
use Rattle.std.specs.Prelude.{Option, is_some, option_map}
use Rattle.weave_text.specs.Cutting.{is_empty, pieces_of, pieces_left}

-- it ends at the first byte that is this one
pub pieces_of-cut : (at : ℕ) (text : Bytes) (end : ℕ) → position (λ byte. byte == at) text ≡ Some end
    → pieces_of at text ≡ take end text ∷ pieces_of at (take (length text - (end + 1)) (drop (end + 1) text))
pieces_of-cut at text end e =
    let first = position_or_len (λ byte. byte == at) text in
    let found = cond_some (ltb first (length text)) first end e in
    slice_split_first (λ byte. byte == at) text 0 (ltb-true _ _ found.0)
    ∙ ap (λ n. take n text ∷ pieces_of at (drop (n + 1) text)) found.1
    ∙ ap (λ left. take end text ∷ pieces_of at left) (sym (take_rest text (end + 1)))

one : (is_mark : Bool) (byte at : ℕ) (text : Bytes) → (length text ≤ position_or_len (λ b. b == at) text → pieces_of at text ≡ text ∷ [])
    → suc (length text) ≤ cond (not is_mark) (1 + position_or_len (λ b. b == at) text) 0 → cond is_mark ([] ∷ pieces_of at text) (onto_first byte (pieces_of at text)) ≡ (byte ∷ text) ∷ []
one true byte at text rest h = absurd (omega arith)
one false byte at text rest h = ap (onto_first byte) (rest (omega arith))

to_end : (at : ℕ) (text : Bytes) → length text ≤ position_or_len (λ b. b == at) text → pieces_of at text ≡ text ∷ []
to_end at [] h = refl
to_end at (byte ∷ text) h = one (byte == at) byte at text (to_end at text) h

-- a test that gave nothing failed
pub test_failed : (b : Bool) (at : ℕ) → cond b (Some at) None ≡ None → b ≡ false
test_failed true at e = absurd cc
test_failed false at e = refl

-- without such a byte the text is one piece
pub pieces_of-whole : (at : ℕ) (text : Bytes) → position (λ byte. byte == at) text ≡ None → pieces_of at text ≡ text ∷ []
pieces_of-whole at text e =
    let first = position_or_len (λ byte. byte == at) text in
    to_end at text (ltb-false _ _ (test_failed (ltb first (length text)) first e))

has_piece : (is_mark : Bool) (byte : ℕ) (pieces : List Bytes) → is_empty (cond is_mark ([] ∷ pieces) (onto_first byte pieces)) ≡ false
has_piece true byte pieces = refl
has_piece false byte [] = refl
has_piece false byte (piece ∷ pieces) = refl

has_pieces : (at : ℕ) (text : Bytes) → is_empty (pieces_of at text) ≡ false
has_pieces at [] = refl
has_pieces at (byte ∷ text) = has_piece (byte == at) byte (pieces_of at text)

-- if a text is left, a piece is
pub none_left : (at : ℕ) (none : Bool) (left : Option (Bor Bytes)) → not none ≡ is_some left → none ≡ is_empty (pieces_left at (option_map (λ text. text.now) left))
none_left at true None e = refl
none_left at false None e = absurd cc
none_left at true (Some text) e = absurd cc
none_left at false (Some text) e = sym (has_pieces at text.now)
