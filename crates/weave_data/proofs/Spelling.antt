-- Letters compared as numbers of eight letters each.
-- Used by `cmp` and `order`.
use Rattle.std.proofs.Common.{arith, ◌≡◌, ◌<◌, ◌≤◌, ◌+◌, ◌*◌, ℕ, ◌-◌, nat_le, zero, suc, Bool, true, false, ◌&&◌, IsTrue, true≢false, ◌⊎◌, inl, inr, List, [], ◌∷◌, ◌++◌, length, get_or, take, drop, replicate, refl, sym, ap, subst, ◌∙◌}
use Rattle.std.proofs.lemmas.Bool.{cases_order, leb-true}
use Rattle.std.proofs.lemmas.List.{length-drop, get_or-drop, drop-drop}
use Rattle.std.specs.FinMap.{nat_cmp-IsAntisymmetric}
use Rattle.std.specs.Cmp.{nat_cmp_is}
use Rattle.std.specs.Cmp.Lexicographic.{slice_cmp}
use Rattle.std.specs.Ordering.{nat_cmp, ordering_then}
use Rattle.std.specs.List.{list_all}
use Rattle.std.specs.Slice.Scan.{big_endian}
use Rattle.weave_data.specs.Names.{is_name, is_name_byte, name_cmp, padded_bytes, IsStored}
use Rattle.std.specs.declared.cmp.Ordering.{Ordering}
use Rattle.std.specs.declared.cmp.Ordering.TheVariants.{Less, Equal, Greater}

less : (x y : ℕ) → x < y → nat_cmp x y ≡ Less
less x y h = sym (nat_cmp_is x y Less h)

equal : (x : ℕ) → nat_cmp x x ≡ Equal
equal x = sym (nat_cmp_is x x Equal refl)

greater : (x y : ℕ) → y < x → nat_cmp x y ≡ Greater
greater x y h = sym (nat_cmp_is x y Greater h)

first_of_three : (a b c : Ordering) → ordering_then (ordering_then a b) c ≡ ordering_then a (ordering_then b c)
first_of_three Less b c = refl
first_of_three Equal b c = refl
first_of_three Greater b c = refl

alone : (a : Ordering) → a ≡ ordering_then a Equal
alone Less = refl
alone Equal = refl
alone Greater = refl

-- one more digit in base 256
digit : (n m x y : ℕ) → x < 256 → y < 256 → nat_cmp (n * 256 + x) (m * 256 + y) ≡ ordering_then (nat_cmp n m) (nat_cmp x y)
digit n m x y small small' = at (cases_order n m)
  where
    same : (x y : ℕ) → nat_cmp (n * 256 + x) (n * 256 + y) ≡ nat_cmp x y
    same x y = of (cases_order x y)
      where
        of : (x ≡ y) ⊎ ((x < y) ⊎ (y < x)) → nat_cmp (n * 256 + x) (n * 256 + y) ≡ nat_cmp x y
        of (inl e) = subst (λ z. nat_cmp (n * 256 + x) (n * 256 + z) ≡ nat_cmp x z) e (equal (n * 256 + x) ∙ sym (equal x))
        of (inr (inl h)) = less (n * 256 + x) (n * 256 + y) (omega (arith, h)) ∙ sym (less x y h)
        of (inr (inr h)) = greater (n * 256 + x) (n * 256 + y) (omega (arith, h)) ∙ sym (greater x y h)

    at : (n ≡ m) ⊎ ((n < m) ⊎ (m < n)) → nat_cmp (n * 256 + x) (m * 256 + y) ≡ ordering_then (nat_cmp n m) (nat_cmp x y)
    at (inl e) = subst (λ k. nat_cmp (n * 256 + x) (k * 256 + y) ≡ ordering_then (nat_cmp n k) (nat_cmp x y)) e (same x y ∙ ap (λ o. ordering_then o (nat_cmp x y)) (sym (equal n)))
    at (inr (inl h)) = less (n * 256 + x) (m * 256 + y) (omega (arith, h, small, small')) ∙ ap (λ o. ordering_then o (nat_cmp x y)) (sym (less n m h))
    at (inr (inr h)) = greater (n * 256 + x) (m * 256 + y) (omega (arith, h, small, small')) ∙ ap (λ o. ordering_then o (nat_cmp x y)) (sym (greater n m h))

-- each of them is a byte
abbrev pub AreBytes : List ℕ → Type 0
AreBytes xs = (i : ℕ) → get_or xs i 0 < 256

-- the first letters of two lists as numbers, and then the others
parts : (n m k : ℕ) (xs ys : List ℕ) → k ≤ length xs → k ≤ length ys → AreBytes xs → AreBytes ys
    → ordering_then (nat_cmp n m) (slice_cmp nat_cmp xs ys) ≡ ordering_then (nat_cmp (big_endian n (take k xs)) (big_endian m (take k ys))) (slice_cmp nat_cmp (drop k xs) (drop k ys))
parts n m zero xs ys long long' bytes bytes' = refl
parts n m (suc k) [] ys long long' bytes bytes' = absurd (omega (arith, long))
parts n m (suc k) (x ∷ xs) [] long long' bytes bytes' = absurd (omega (arith, long'))
parts n m (suc k) (x ∷ xs) (y ∷ ys) long long' bytes bytes' =
    sym (first_of_three (nat_cmp n m) (nat_cmp x y) (slice_cmp nat_cmp xs ys))
    ∙ ap (λ o. ordering_then o (slice_cmp nat_cmp xs ys)) (sym (digit n m x y (bytes 0) (bytes' 0)))
    ∙ parts (n * 256 + x) (m * 256 + y) k xs ys (omega (arith, long)) (omega (arith, long')) (λ i. bytes (suc i)) (λ i. bytes' (suc i))

-- eight letters on
pub eight_on : (xs ys : List ℕ) (i : ℕ) → i + 8 ≤ length xs → length xs ≡ length ys → AreBytes xs → AreBytes ys
    → slice_cmp nat_cmp (drop i xs) (drop i ys) ≡ ordering_then (nat_cmp (big_endian 0 (take 8 (drop i xs))) (big_endian 0 (take 8 (drop i ys)))) (slice_cmp nat_cmp (drop (i + 8) xs) (drop (i + 8) ys))
eight_on xs ys i long same bytes bytes' =
    let left = length-drop i xs in
    let left' = length-drop i ys in
    parts 0 0 8 (drop i xs) (drop i ys) (omega (arith, long, left)) (omega (arith, long, same, left'))
    (λ k. subst (λ b. b < 256) (sym (get_or-drop i xs k 0)) (bytes (i + k))) (λ k. subst (λ b. b < 256) (sym (get_or-drop i ys k 0)) (bytes' (i + k)))
    ∙ rw (drop-drop 8 i xs, drop-drop 8 i ys) refl

-- numbers that differ decide
pub decided : (x y : ℕ) (more : Ordering) → (x ≡ y → ⊥) → ordering_then (nat_cmp x y) more ≡ nat_cmp x y
decided x y more apart = at (nat_cmp x y) refl
  where
    at : (o : Ordering) → nat_cmp x y ≡ o → ordering_then o more ≡ o
    at Less e = refl
    at Equal e = absurd (apart (nat_cmp-IsAntisymmetric x y e))
    at Greater e = refl

-- equal numbers leave it to the others
pub undecided : (x y : ℕ) (more : Ordering) → x ≡ y → ordering_then (nat_cmp x y) more ≡ more
undecided x y more same = subst (λ z. ordering_then (nat_cmp x z) more ≡ more) same (ap (λ o. ordering_then o more) (equal x))

-- each of them is above 0
abbrev pub ArePositive : List ℕ → Type 0
ArePositive [] = Unit
ArePositive (x ∷ xs) = (0 < x) × ArePositive xs

zeros : (n : ℕ) → slice_cmp nat_cmp (replicate n 0) (replicate n 0) ≡ Equal
zeros zero = refl
zeros (suc n) = zeros n

-- zeros after positive bytes change nothing in the order, if both lists get the same length
pub behind : (xs ys : List ℕ) (n m : ℕ) → ArePositive xs → ArePositive ys → length xs + n ≡ length ys + m
    → slice_cmp nat_cmp (xs ++ replicate n 0) (ys ++ replicate m 0) ≡ slice_cmp nat_cmp xs ys
behind [] [] n m above above' same = subst (λ k. slice_cmp nat_cmp (replicate n 0) (replicate k 0) ≡ Equal) {x = n} (omega (arith, same)) (zeros n)
behind [] (y ∷ ys) zero m above above' same = absurd (omega (arith, same))
behind [] (y ∷ ys) (suc n) m above above' same = ap (λ o. ordering_then o (slice_cmp nat_cmp (replicate n 0) (ys ++ replicate m 0))) (less 0 y above'.0)
behind (x ∷ xs) [] n zero above above' same = absurd (omega (arith, same))
behind (x ∷ xs) [] n (suc m) above above' same = ap (λ o. ordering_then o (slice_cmp nat_cmp (xs ++ replicate n 0) (replicate m 0))) (greater x 0 above.0)
behind (x ∷ xs) (y ∷ ys) n m above above' same = ap (λ o. ordering_then (nat_cmp x y) o) (behind xs ys n m above.1 above'.1 (omega (arith, same)))

positive : (b : ℕ) → is_name_byte b ≡ true → 0 < b
positive zero e = absurd (true≢false (sym e))
positive (suc b) e = omega arith

both : (a b : Bool) → a && b ≡ true → (a ≡ true) × (b ≡ true)
both true b e = (refl, e)
both false b e = absurd (true≢false (sym e))

all_positive : (xs : List ℕ) → list_all is_name_byte xs ≡ true → ArePositive xs
all_positive [] e = tt
all_positive (x ∷ xs) e = let each = both _ _ e in (positive x each.0, all_positive xs each.1)

of_name : (name : List ℕ) → IsTrue (is_name name) → (length name ≤ 32) × ArePositive name
of_name name is =
    let whole = both (nat_le 1 (length name) && nat_le (length name) 32) (list_all is_name_byte name) is in
    (leb-true (length name) 32 (both (nat_le 1 (length name)) (nat_le (length name) 32) whole.0).1, all_positive name whole.1)

-- two names compare as the letters that hold them
pub names_as_letters : (len len' : ℕ) (letters letters' : List ℕ) → IsStored len letters → IsStored len' letters'
    → slice_cmp nat_cmp letters letters' ≡ name_cmp (take len letters) (take len' letters')
names_as_letters len len' letters letters' is is' =
    let name = take len letters in
    let name' = take len' letters' in
    let one = of_name name is.0 in
    let other = of_name name' is'.0 in
    let short = one.0 in
    let short' = other.0 in
    subst (λ (xs : List ℕ). slice_cmp nat_cmp xs letters' ≡ name_cmp name name') (sym is.2)
    (subst (λ (xs : List ℕ). slice_cmp nat_cmp (padded_bytes name) xs ≡ name_cmp name name') (sym is'.2)
    (behind name name' (32 - length name) (32 - length name') one.1 other.1 (omega (arith, short, short'))))
