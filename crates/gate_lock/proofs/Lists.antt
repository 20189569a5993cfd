-- Lists with the same element at each place are equal.
-- Used by Accounts, Meeting and crate weaver_locks.
use Rattle.std.proofs.Common.{◌≡◌, ℕ, zero, suc, List, [], ◌∷◌, ◌++◌, length, get_or, refl, arith}

-- lists of one length with the same element at each place
pub alike : {A : Type 0} (d : A) (xs ys : List A) → length xs ≡ length ys → ((k : ℕ) → get_or xs k d ≡ get_or ys k d) → xs ≡ ys
alike d [] [] e same = refl
alike d [] (y ∷ ys) e same = absurd (omega arith)
alike d (x ∷ xs) [] e same = absurd (omega arith)
alike d (x ∷ xs) (y ∷ ys) e same =
    let first : x ≡ y = same zero in
    let rest : xs ≡ ys = alike d xs ys (omega arith) (λ k. same (suc k)) in
    λ i. first i ∷ rest i

-- the parts of two lists that were put together, if the first parts are as long
pub append_parts : {A : Type 0} (xs us ys vs : List A) → length xs ≡ length us → xs ++ ys ≡ us ++ vs → (xs ≡ us) × (ys ≡ vs)
append_parts [] [] ys vs e is = (refl, is)
append_parts [] (u ∷ us) ys vs e is = absurd (omega arith)
append_parts (x ∷ xs) [] ys vs e is = absurd (omega arith)
append_parts (x ∷ xs) (u ∷ us) ys vs e is =
    let first : x ≡ u = cc in
    let tails : xs ++ ys ≡ us ++ vs = cc in
    let rest = append_parts xs us ys vs (omega arith) tails in
    (λ i. first i ∷ rest.0 i, rest.1)
