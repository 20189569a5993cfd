-- What is at a place of a list, of its images and of what is left.
-- Used by `deal_hand`, `fill_row`, `open_row`, Hands, Meetings, Notings, Openings and 5 crates above.
use Rattle.std.proofs.Common.{◌≡◌, ◌≢◌, ℕ, zero, suc, ◌+◌, ◌<◌, ◌≤◌, List, [], ◌∷◌, ◌++◌, length, map, get_or, take, drop, refl, sym, ap, ◌∙◌, subst, arith}
use Rattle.std.proofs.lemmas.List.{get_or_push, map-append}
use Rattle.std.proofs.Math.Seq.{take-append_seam}
use mathlib.Core.List.{IsPrefix}
use Rattle.chronicle.proofs.Logs.{head_or}

-- an element of a list
pub one_of : {A : Type 0} (xs : List A) (k : ℕ) → k < length xs → A
one_of [] k l = absurd (omega arith)
one_of (x ∷ xs) k l = x

-- what was written through a reference to all elements is the list
pub written : {A : Type 0} (n : ℕ) (new old : List A) → length new ≡ n → take n (new ++ drop (length new) old) ≡ new
written {A} n new old e = subst (λ (k : ℕ). take k (new ++ drop (length new) old) ≡ new) e (take-append_seam new (drop (length new) old))

-- the last of a longer list
pub last : {A : Type 0} (xs : List A) (x d : A) (k : ℕ) → k ≡ length xs → get_or (xs ++ x ∷ []) k d ≡ x
last xs x d k e = get_or_push xs x d k (sym e)

-- lists whose elements have the same image at each place have the same images
pub mapped_alike : {A B C : Type 0} (f : A → C) (g : B → C) (xs : List A) (ys : List B) → length ys ≡ length xs
    → ((k : ℕ) (a : A) (b : B) → k < length xs → g (get_or ys k b) ≡ f (get_or xs k a)) → map g ys ≡ map f xs
mapped_alike f g [] [] e same = refl
mapped_alike f g [] (y ∷ ys) e same = absurd (omega arith)
mapped_alike f g (x ∷ xs) [] e same = absurd (omega arith)
mapped_alike {A} {B} {C} f g (x ∷ xs) (y ∷ ys) e same =
    let first : g y ≡ f x = same zero x y (omega arith) in
    let rest : map g ys ≡ map f xs = mapped_alike f g xs ys (omega arith) (λ k a b l. same (suc k) a b (omega arith)) in
    λ i. first i ∷ rest i

-- the image of a beginning begins the image
pub mapped_on : {A B : Type 0} (f : A → B) (xs ys : List A) → IsPrefix xs ys
    → (rest : List B) × (map f ys ≡ map f xs ++ rest)
mapped_on {A} {B} f xs ys on = (map f on.0, ap (λ (l : List A). map f l) (sym on.1) ∙ map-append f xs on.0)

-- Places and counts of a loop, each as a fact on numbers alone: a tactic has less to read here than in the loop

-- a place is below the end while something is left
pub one_left : (k left after all : ℕ) → k + left ≡ all → after + 1 ≡ left → k < all
one_left k left after all count some = omega arith

-- after one more
pub one_on : (k left after all : ℕ) → k + left ≡ all → after + 1 ≡ left → k + 1 + after ≡ all
one_on k left after all count some = omega arith

-- if nothing is left, the end was reached
pub all_done : (k left all : ℕ) → k + left ≡ all → left ≡ 0 → k ≡ all
all_done k left all count none = omega arith

-- the bound of a place may be replaced by an equal one
pub below_same : (k n m : ℕ) → k < n → m ≡ n → k < m
below_same k n m low same = omega arith

-- a place is not before itself
pub itself : (k : ℕ) → k ≤ k
itself k = omega arith

-- a place after this one is not before it
pub later_too : (k j : ℕ) → k + 1 ≤ j → k ≤ j
later_too k j far = omega arith

-- and is another one
pub later_other : (k j : ℕ) → k + 1 ≤ j → j ≢ k
later_other k j far same = absurd (omega arith)

-- the count of what is left is its length after one more too
pub long_on : {A : Type 0} (count after : ℕ) (xs rest : List A) (x : A) → count ≡ length xs → after + 1 ≡ count → xs ≡ x ∷ rest → after ≡ length rest
long_on {A} count after xs rest x long some is = let e : length xs ≡ length (x ∷ rest) = ap (λ (l : List A). length l) is in omega arith

module _ {A : Type 0} where
  none_left : (k : ℕ) (x : A) (ys : List A) → x ∷ ys ≡ drop k [] → ⊥
  none_left zero x ys e = let n : length (x ∷ ys) ≡ length {A = A} [] = ap (λ (l : List A). length l) e in absurd (omega arith)
  none_left (suc k) x ys e = let n : length (x ∷ ys) ≡ length {A = A} [] = ap (λ (l : List A). length l) e in absurd (omega arith)

  -- the first of what is left is at the place that was reached
  pub first_left : (xs : List A) (k : ℕ) (x d : A) (ys : List A) → x ∷ ys ≡ drop k xs → get_or xs k d ≡ x
  first_left [] k x d ys e = absurd (none_left k x ys e)
  first_left (z ∷ zs) zero x d ys e = ap (head_or d) (sym e)
  first_left (z ∷ zs) (suc k) x d ys e = first_left zs k x d ys e

  rest_left : (xs : List A) (k : ℕ) (x : A) (ys : List A) → x ∷ ys ≡ drop k xs → ys ≡ drop (suc k) xs
  rest_left [] k x ys e = absurd (none_left k x ys e)
  rest_left (z ∷ zs) zero x ys e = ap (drop 1) e
  rest_left (z ∷ zs) (suc k) x ys e = rest_left zs k x ys e

  -- behind the first of what is left is what is left one place later
  pub next_left : (xs : List A) (k : ℕ) (x : A) (ys : List A) → x ∷ ys ≡ drop k xs → ys ≡ drop (k + 1) xs
  next_left xs k x ys e = let n : suc k ≡ k + 1 = omega arith in
      subst (λ (i : ℕ). ys ≡ drop i xs) n (rest_left xs k x ys e)
