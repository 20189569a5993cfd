-- Pieces that move from one list to another. (As in weave_io.)
-- Used by `read_from`.
use Rattle.std.proofs.Common.{◌≡◌, ◌≤◌, ◌+◌, ◌-◌, ℕ, List, ◌++◌, length, take, drop, ◌∙◌, ap, refl}
use Rattle.std.proofs.lemmas.List.{take_at, drop-drop, take-append-drop, length-take-le, take_rest}

-- a piece that was copied, and the bytes after it
pub piece_and_rest : (bytes slice copied buf : List ℕ) (at n : ℕ) → slice ≡ bytes → n ≤ length (take (length slice - at) (drop at slice)) → copied ≡ take n (take (length slice - at) (drop at slice)) → drop at bytes ≡ take n (copied ++ drop n buf) ++ drop (at + n) bytes
piece_and_rest bytes slice copied buf at n same within is_copy =
    let rest : take (length slice - at) (drop at slice) ≡ drop at bytes = take_rest slice at ∙ ap (λ l. drop at l) same in
    let front : take n (copied ++ drop n buf) ≡ copied = take_at copied (drop n buf) n (ap length is_copy ∙ length-take-le n (take (length slice - at) (drop at slice)) within) in
    let behind : drop n (drop at bytes) ≡ drop (at + n) bytes = drop-drop n at bytes in
    rw (front, is_copy, rest, ← behind, take-append-drop) refl
