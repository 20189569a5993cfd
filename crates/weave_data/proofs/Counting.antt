-- How many: a list in which nothing comes twice is no longer than one that has all its members, in a longer list at
-- least as many pass a test; and two places of a list.
-- Used by crate weave_account.
use Rattle.std.proofs.Common.{◌≡◌, ◌≢◌, ℕ, suc, ◌≤◌, Bool, true, false, cond, nat_eq, List, [], ◌∷◌, ◌++◌, length, count_by, IsTrue, inl, inr, refl, sym, ap, subst, ◌∙◌, arith}
use Rattle.std.proofs.lemmas.Bool.{cases_eq, eq-eqb, ne_eqb}
use Rattle.std.specs.List.{list_any}
use Rattle.std.proofs.lemmas.List.{append_assoc, append-nil}
use Rattle.weave_data.proofs.Ends.{by_last, count_push}
use Rattle.weave_data.proofs.Numbers.{IsSorted, in-head, in-tail, in-cases}

-- the list without one occurrence of a number
abbrev pub drop_one : ℕ → List ℕ → List ℕ
drop_one n [] = []
drop_one n (x ∷ xs) = cond (nat_eq n x) xs (x ∷ drop_one n xs)

length-drop_one : (n : ℕ) (xs : List ℕ) → IsTrue (list_any (nat_eq n) xs) → length xs ≡ suc (length (drop_one n xs))
length-drop_one n [] h = cc
length-drop_one n (x ∷ xs) h =
    elim (cases_eq n x) [
      | inl same ↦ ap (λ b. suc (length (cond b xs (x ∷ drop_one n xs)))) {x = true} (sym (eq-eqb n x same))
      | inr differ ↦
          let e = ne_eqb n x differ in
          elim (in-cases n x xs h) [
            | inl same ↦ absurd (differ same)
            | inr more ↦ ap suc (length-drop_one n xs more) ∙ ap (λ b. suc (length (cond b xs (x ∷ drop_one n xs)))) {x = false} (sym e)
          ]
    ]

in-drop_one : (n k : ℕ) (xs : List ℕ) → IsTrue (list_any (nat_eq k) xs) → k ≢ n → IsTrue (list_any (nat_eq k) (drop_one n xs))
in-drop_one n k [] h differ = h
in-drop_one n k (x ∷ xs) h differ =
    elim (cases_eq n x) [
      | inl same ↦ subst (λ b. IsTrue (list_any (nat_eq k) (cond b xs (x ∷ drop_one n xs)))) {x = true} (sym (eq-eqb n x same)) (elim (in-cases k x xs h) [ inl is ↦ absurd (differ (is ∙ sym same)) | inr more ↦ more ])
      | inr other ↦ subst (λ b. IsTrue (list_any (nat_eq k) (cond b xs (x ∷ drop_one n xs)))) {x = false} (sym (ne_eqb n x other))
          (elim (in-cases k x xs h) [ inl is ↦ subst (λ j. IsTrue (list_any (nat_eq k) (j ∷ drop_one n xs))) is (in-head k (drop_one n xs)) | inr more ↦ in-tail k x (drop_one n xs) (in-drop_one n k xs more differ) ])
    ]

-- nothing comes twice
abbrev pub IsOnce : List ℕ → Type 0
IsOnce = IsSorted (λ a b. a ≢ b)

-- a list in which nothing comes twice is no longer than one that has all its members
pub no-longer : (xs ys : List ℕ) → IsOnce xs → ((n : ℕ) → IsTrue (list_any (nat_eq n) xs) → IsTrue (list_any (nat_eq n) ys)) → length xs ≤ length ys
no-longer [] ys once among = omega arith
no-longer (x ∷ xs) ys once among =
    let rest = no-longer xs (drop_one x ys) once.1 (λ n h. in-drop_one x n ys (among n (in-tail n x xs h)) (λ same. once.0 n h (sym same))) in
    let long = length-drop_one x ys (among x (in-head x xs)) in
    omega (arith, rest, long)

-- a longer list has at least as many that pass
pub count-more : {A : Type 0} (p : A → Bool) (xs ys : List A) → count_by p xs ≤ count_by p (xs ++ ys)
count-more p xs =
    by_last (λ ys. count_by p xs ≤ count_by p (xs ++ ys))
    (let e = ap (count_by p) (append-nil xs) in omega (arith, e))
    (λ ys y more.
    let longer = ap (count_by p) (append_assoc xs ys (y ∷ [])) in
    let last = count_push p (xs ++ ys) y in
    omega (arith, more, longer, last))

-- Two places of a list

module _ {A : Type 0} where
  -- one is before the other, or they are the same
  pub data Apart (b₁ : List A) (x : A) (b₂ : List A) (y : A) : Type 0 where
    First : (rest : List A) → b₂ ≡ b₁ ++ x ∷ rest → Apart b₁ x b₂ y
    Same : b₁ ≡ b₂ → x ≡ y → Apart b₁ x b₂ y
    Second : (rest : List A) → b₁ ≡ b₂ ++ y ∷ rest → Apart b₁ x b₂ y

  -- of two places in one list one is first, or they are the same
  pub apart : (b₁ : List A) (x : A) (a₁ b₂ : List A) (y : A) (a₂ : List A) → b₁ ++ x ∷ a₁ ≡ b₂ ++ y ∷ a₂ → Apart b₁ x b₂ y
  apart [] x a₁ [] y a₂ e = Same refl cc
  apart [] x a₁ (z ∷ b₂) y a₂ e = let head : x ≡ z = cc in First b₂ (ap (λ k. k ∷ b₂) (sym head))
  apart (z ∷ b₁) x a₁ [] y a₂ e = let head : z ≡ y = cc in Second b₁ (ap (λ k. k ∷ b₁) head)
  apart (z ∷ b₁) x a₁ (w ∷ b₂) y a₂ e =
      let head : z ≡ w = cc in
      let tail : b₁ ++ x ∷ a₁ ≡ b₂ ++ y ∷ a₂ = cc in
      elim (apart b₁ x a₁ b₂ y a₂ tail) [
        | First rest is ↦ First rest (λ i. sym head i ∷ is i)
        | Same is same ↦ Same (λ i. head i ∷ is i) same
        | Second rest is ↦ Second rest (λ i. head i ∷ is i)
      ]
