-- Bytes that are written over others, in place.
-- Used by `overwrite`.
use Rattle.std.proofs.Common.{◌≡◌, ⊎_elim, ℕ, zero, suc, ◌+◌, ◌-◌, ◌≤◌, ◌<◌, List, [], ◌∷◌, ◌++◌, length, take, drop, replicate, sym, ◌∙◌, ap, arith, append_assoc, length-append, length-take, length-drop}
use Rattle.std.proofs.lemmas.Bool.{cases_lt}
use Rattle.std.proofs.lemmas.List.{take_all, take_at, drop_all, append-nil, take-append-le, take-replicate, length-replicate}
use Rattle.store_journal.specs.Disk.{written_at}
use Rattle.store_journal.specs.Grown.{IsLongEnough}

-- where there is room
pub written_within : (at : ℕ) (bytes old : List ℕ) → at + length bytes ≤ length old → take at old ++ (bytes ++ drop (at + length bytes) old) ≡ written_at at bytes old
written_within at bytes old room =
    let none : 0 ≡ at - length old = omega (arith, room) in
    ap (λ k. take at old ++ (replicate k 0 ++ (bytes ++ drop (at + length bytes) old))) none

take_past : (xs ys : List ℕ) (n : ℕ) → length xs ≤ n → take n (xs ++ ys) ≡ xs ++ take (n - length xs) ys
take_past [] ys n long = ap (λ k. take k ys) (omega arith)
take_past (x ∷ xs) ys zero long = absurd (omega arith)
take_past (x ∷ xs) ys (suc n) long = ap (λ l. x ∷ l) (take_past xs ys n (omega arith)) ∙ ap (λ k. x ∷ xs ++ take k ys) (omega arith)

front_grown : (at n : ℕ) (old : List ℕ) → length old < at + n → take at (old ++ replicate (at + n - length old) 0) ≡ take at old ++ replicate (at - length old) 0
front_grown at n old short = ⊎_elim
    (λ past. take_past old (replicate (at + n - length old) 0) at (omega (arith, past)) ∙ ap (λ l. old ++ l) (take-replicate (at - length old) (at + n - length old) 0 (omega arith)) ∙ ap (λ l. l ++ replicate (at - length old) 0) (sym (take_all at old (omega (arith, past)))))
    (λ within. take-append-le at old (replicate (at + n - length old) 0) within ∙ sym (append-nil (take at old)) ∙ ap (λ k. take at old ++ replicate k 0) (none within))
    (cases_lt (length old) at)
  where
    none : at ≤ length old → 0 ≡ at - length old
    none within = omega arith

-- where it was made
pub written_grown : (at : ℕ) (bytes old grown : List ℕ) → length old < at + length bytes → grown ≡ take (at + length bytes) old ++ replicate (at + length bytes - length old) 0
    → take at grown ++ (bytes ++ drop (at + length bytes) grown) ≡ written_at at bytes old
written_grown at bytes old grown short is =
    let n = length bytes in
    let gap : List ℕ = replicate (at + n - length old) 0 in
    let zeros : length gap ≡ at + n - length old = length-replicate (at + n - length old) 0 in
    let grown_is : grown ≡ old ++ gap = is ∙ ap (λ l. l ++ gap) (take_all (at + n) old (omega (arith, short))) in
    let long : length grown ≡ at + n = ap length grown_is ∙ omega (arith, length-append old gap, zeros, short) in
    ap (λ l. take at grown ++ (bytes ++ l)) (drop_all (at + n) grown (omega (arith, long)) ∙ sym (drop_all (at + n) old (omega (arith, short))))
    ∙ ap (λ l. take at l ++ (bytes ++ drop (at + n) old)) grown_is
    ∙ ap (λ l. l ++ (bytes ++ drop (at + n) old)) (front_grown at n old short)
    ∙ append_assoc (take at old) (replicate (at - length old) 0) (bytes ++ drop (at + n) old)

-- bytes put in place into a file that was made long enough, as a `Vec` gives them back
pub written_back : (at end len : ℕ) (bytes old grown slice put : List ℕ) → end ≡ at + length bytes → IsLongEnough end old grown → slice ≡ grown → len ≡ length grown
    → put ≡ take at slice ++ (bytes ++ drop (at + length bytes) slice) → take len (put ++ drop (length put) grown) ≡ written_at at bytes old
written_back at end len bytes old grown slice put end_is is_grown same long put_is =
    let n = length bytes in
    let written : put ≡ take at grown ++ (bytes ++ drop (at + n) grown) = put_is ∙ ap (λ l. take at l ++ (bytes ++ drop (at + n) l)) same in
    let room : at + n ≤ length grown = omega (arith, end_is, is_grown.long) in
    let size : length put ≡ length grown = ap length written ∙ omega (arith, length-append (take at grown) (bytes ++ drop (at + n) grown), length-append bytes (drop (at + n) grown), length-take at grown, length-drop (at + n) grown, room) in
    let whole : take len (put ++ drop (length put) grown) ≡ put = take_at put (drop (length put) grown) len (omega (arith, size, long)) in
    whole ∙ written ∙ ⊎_elim
    (λ short. written_grown at bytes old grown (omega (arith, short, end_is)) (is_grown.filled short ∙ ap (λ e. take e old ++ replicate (e - length old) 0) end_is))
    (λ fits. ap (λ l. take at l ++ (bytes ++ drop (at + n) l)) (is_grown.same fits) ∙ written_within at bytes old (omega (arith, fits, end_is)))
    (cases_lt (length old) end)
