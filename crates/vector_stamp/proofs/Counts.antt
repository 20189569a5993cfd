-- The counts of two clocks, side by side.
-- Used by `at_most_each`, `clocks_keep_the_laws`, `compare`, `counts_one_by_one`,
-- `counts_past_the_gatekeepers_stay_0`, `order_gate_by_gate`, Hearing, Meeting, Orders and Ticks.
use Rattle.std.proofs.Common.{◌≡◌, ℕ, zero, suc, slice_index, ◌≤◌, ◌&&◌, IsTrue, List, [], ◌∷◌, length, nat_le, refl, ap, arith, rules}
use Rattle.std.proofs.lemmas.Bool.{leb-true, le-leb, and_from}
use Rattle.std.specs.Cmp.Lexicographic.{bytes_decides, as_long}
use Rattle.std.specs.List.{list_all, zip}
use Rattle.vector_stamp.specs.Order.{counts_at_most, same_counts}
use Rattle.vector_stamp.proofs.Reading.{both_left, both_right}

-- counts are at most themselves
pub at_most-refl : (xs : List ℕ) → IsTrue (counts_at_most xs xs)
at_most-refl [] = refl
at_most-refl (x ∷ xs) = and_from _ _ (le-leb x x (omega arith)) (at_most-refl xs)

-- counts that are at most others are at most all that these are at most
pub at_most-trans : (xs ys zs : List ℕ) → IsTrue (counts_at_most xs ys) → IsTrue (counts_at_most ys zs) → IsTrue (counts_at_most xs zs)
at_most-trans [] [] zs g h = h
at_most-trans [] (y ∷ ys) zs g h = absurd (cc)
at_most-trans (x ∷ xs) [] zs g h = absurd (cc)
at_most-trans (x ∷ xs) (y ∷ ys) [] g h = absurd (cc)
at_most-trans (x ∷ xs) (y ∷ ys) (z ∷ zs) g h =
    let le : x ≤ y = leb-true x y (both_left _ _ g) in
    let le' : y ≤ z = leb-true y z (both_left _ _ h) in
    and_from _ _ (le-leb x z (omega arith)) (at_most-trans xs ys zs (both_right _ _ g) (both_right _ _ h))

-- lists of counts that are at most each other are equal
pub at_most-same : (xs ys : List ℕ) → IsTrue (counts_at_most xs ys) → IsTrue (counts_at_most ys xs) → xs ≡ ys
at_most-same [] [] g h = refl
at_most-same [] (y ∷ ys) g h = absurd (cc)
at_most-same (x ∷ xs) [] g h = absurd (cc)
at_most-same (x ∷ xs) (y ∷ ys) g h =
    let le : x ≤ y = leb-true x y (both_left _ _ g) in
    let ge : y ≤ x = leb-true y x (both_left _ _ h) in
    let e : x ≡ y = omega arith in
    λ i. e i ∷ at_most-same xs ys (both_right _ _ g) (both_right _ _ h) i

-- equal lists of counts pass the test of equality
pub same_counts-refl : (xs ys : List ℕ) → xs ≡ ys → IsTrue (same_counts xs ys)
same_counts-refl xs ys e = (bytes_decides xs ys).1 e

-- lists of counts that pass the test of equality are equal
pub same_counts-is : (xs ys : List ℕ) → IsTrue (same_counts xs ys) → xs ≡ ys
same_counts-is xs ys h = (bytes_decides xs ys).0 h

-- each at most the other: the counts are the same
pub same_from_both : (xs ys : List ℕ) → IsTrue (counts_at_most xs ys) → IsTrue (counts_at_most ys xs) → IsTrue (same_counts xs ys)
same_from_both xs ys g h = same_counts-refl xs ys (at_most-same xs ys g h)

-- counts are at most others if they are as many and each is at most the one in its place
pub at_most-by : (xs ys : List ℕ) → length xs ≡ length ys → ((k : ℕ) → slice_index xs k ≤ slice_index ys k) → IsTrue (counts_at_most xs ys)
at_most-by [] [] e each = refl
at_most-by [] (y ∷ ys) e each = absurd (omega arith)
at_most-by (x ∷ xs) [] e each = absurd (omega arith)
at_most-by (x ∷ xs) (y ∷ ys) e each = and_from _ _ (le-leb x y (each 0)) (at_most-by xs ys (omega arith) (λ k. each (suc k)))

-- lists of counts of which one is at most the other are equally long
pub at_most-long : (xs ys : List ℕ) → IsTrue (counts_at_most xs ys) → length xs ≡ length ys
at_most-long xs ys h = as_long nat_le xs ys h

-- if counts are at most others, each of them is at most the one in its place
pub at_most-at : (xs ys : List ℕ) (k : ℕ) → IsTrue (counts_at_most xs ys) → slice_index xs k ≤ slice_index ys k
at_most-at [] [] k h = omega arith
at_most-at [] (y ∷ ys) k h = absurd (cc)
at_most-at (x ∷ xs) [] k h = absurd (cc)
at_most-at (x ∷ xs) (y ∷ ys) zero h = leb-true x y (both_left _ _ h)
at_most-at (x ∷ xs) (y ∷ ys) (suc k) h = at_most-at xs ys k (both_right (nat_le x y) _ h)

-- of lists of one length, each pair is tested
pub list_all-zip : (xs ys : List ℕ) → length xs ≡ length ys → list_all (λ (p : ℕ × ℕ). nat_le p.0 p.1) (zip xs ys) ≡ counts_at_most xs ys
list_all-zip [] [] e = refl
list_all-zip [] (y ∷ ys) e = absurd (omega arith)
list_all-zip (x ∷ xs) [] e = absurd (omega arith)
list_all-zip (x ∷ xs) (y ∷ ys) e = ap (λ b. nat_le x y && b) (list_all-zip xs ys (omega arith))

-- in the first clock of an epoch nothing is counted
pub none-counted : (gate : ℕ) → slice_index (0 ∷ 0 ∷ 0 ∷ 0 ∷ 0 ∷ 0 ∷ 0 ∷ 0 ∷ []) gate ≡ 0
none-counted gate = search rules
