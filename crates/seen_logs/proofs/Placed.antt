-- Elements made of lists have a relation if it holds within each list and from each list to each later one.
-- Used by Asking, ExampleRun, MakesAccount, Onward, Reading and crates hands_account, sessions_account and
-- workers_account.
use Rattle.std.proofs.Common.{◌≡◌, ℕ, zero, suc, ◌<◌, List, [], ◌∷◌, ◌++◌, length, get_or, Contains, AllPairs, inl, inr, sym, ap, subst, ◌∙◌, arith}
use Rattle.std.specs.List.{flat_map}
use Rattle.std.proofs.lemmas.List.Elements.{Contains-append_cases, Contains-append_left, Contains-append_right}
use Rattle.weave_data.proofs.Members.{flat_has, has_head, has_none, has_tail}
use Rattle.weave_data.proofs.Ordered.{pairs_across, pairs_cons, pairs_front, pairs_head, pairs_none, pairs_tail}
use Rattle.weave_account.proofs.Replying.{place-of}
use Rattle.weave_account.proofs.RepliesClause.{pairs-right}

-- of two places of one list the first is in front of the second
pub earlier : {A : Type 0} (before rest after later : List A) (e d : A) → before ++ e ∷ after ≡ rest ++ d ∷ later
    → length before < length rest → (mid : List A) × (rest ≡ before ++ e ∷ mid)
earlier [] [] after later e d is less = absurd (omega (arith, less))
earlier [] (r ∷ rest) after later e d is less = (rest, let same : r ≡ e = cc in ap (λ x. x ∷ rest) same)
earlier (b ∷ before) [] after later e d is less = absurd (omega (arith, less))
earlier (b ∷ before) (r ∷ rest) after later e d is less =
    let heads : r ≡ b = cc in
    let tails : before ++ e ∷ after ≡ rest ++ d ∷ later = cc in
    let mid = earlier before rest after later e d tails (omega (arith, less)) in
    (mid.0, ap (λ x. x ∷ rest) heads ∙ ap (λ xs. b ∷ xs) mid.1)

-- a place within the first part of a list is one of that part
pub in-front : {A : Type 0} (xs more before after : List A) (e : A) → xs ++ more ≡ before ++ e ∷ after → length before < length xs
    → (rest : List A) × (xs ≡ before ++ e ∷ rest)
in-front [] more before after e is less = absurd (omega (arith, less))
in-front (x ∷ xs) more [] after e is less = (xs, let same : x ≡ e = cc in ap (λ y. y ∷ xs) same)
in-front (x ∷ xs) more (b ∷ before) after e is less =
    let heads : x ≡ b = cc in
    let tails : xs ++ more ≡ before ++ e ∷ after = cc in
    let rest = in-front xs more before after e tails (omega (arith, less)) in
    (rest.0, ap (λ y. y ∷ xs) heads ∙ ap (λ ys. b ∷ ys) rest.1)

module _ {B : Type 0} (R : B → B → Type 0) where
  -- two lists, together, if each of the first has the relation to each of the second
  pub pairs-append : (xs ys : List B) → AllPairs R xs → AllPairs R ys → ((x y : B) → Contains xs x → Contains ys y → R x y)
      → AllPairs R (xs ++ ys)
  pairs-append [] ys first second across = second
  pairs-append (x ∷ xs) ys first second across =
      pairs_cons R x (xs ++ ys)
      (λ y h. elim (Contains-append_cases xs ys y h) [
        | inl near ↦ pairs_head R x xs y first near
        | inr far ↦ across x y (has_head x xs) far
      ])
      (pairs-append xs ys (pairs_tail R x xs first) second (λ z y h k. across z y (has_tail x xs z h) k))

  -- a list of one has no two
  pub pairs-one : (x : B) → AllPairs R (x ∷ [])
  pairs-one x i j d below within = absurd (omega (arith, below, within))

module _ {A B : Type 0} (R : B → B → Type 0) (f : List A → List B) (none : f [] ≡ []) where
  in-flat : (xss : List (List A)) (i : ℕ) (y : B) → Contains (f (get_or xss i [])) y → Contains (flat_map f xss) y
  in-flat [] i y h = absurd (has_none y (subst (λ l. Contains l y) none h))
  in-flat (xs ∷ xss) zero y h = Contains-append_left (f xs) (flat_map f xss) y h
  in-flat (xs ∷ xss) (suc i) y h = Contains-append_right (f xs) (flat_map f xss) y (in-flat xss i y h)

  -- what is made of an earlier list has the relation to what is made of a later one
  pub lists-across : (xss : List (List A)) → AllPairs R (flat_map f xss) → (i j : ℕ) → i < j → (x y : B)
      → Contains (f (get_or xss i [])) x → Contains (f (get_or xss j [])) y → R x y
  lists-across [] pairs i j less x y h k = absurd (has_none x (subst (λ l. Contains l x) none h))
  lists-across (xs ∷ xss) pairs i zero less x y h k = absurd (omega (arith, less))
  lists-across (xs ∷ xss) pairs zero (suc j) less x y h k = pairs_across R (f xs) (flat_map f xss) x y pairs h (in-flat xss j y k)
  lists-across (xs ∷ xss) pairs (suc i) (suc j) less x y h k =
      lists-across xss (pairs-right R (f xs) (flat_map f xss) pairs) i j (omega (arith, less)) x y h k

  -- and what is made of one list has it among itself
  pub list-within : (xss : List (List A)) → AllPairs R (flat_map f xss) → (i : ℕ) → AllPairs R (f (get_or xss i []))
  list-within [] pairs i = subst (AllPairs R) (sym none) (pairs_none R)
  list-within (xs ∷ xss) pairs zero = pairs_front R (f xs) (flat_map f xss) pairs
  list-within (xs ∷ xss) pairs (suc i) = list-within xss (pairs-right R (f xs) (flat_map f xss) pairs) i

-- what is made of lists, all together, if it has the relation within each and from each to each later one
pub lists-together : {A B : Type 0} (R : B → B → Type 0) (f : List A → List B) (xss : List (List A))
    → ((i : ℕ) → AllPairs R (f (get_or xss i [])))
    → ((i j : ℕ) → i < j → (x y : B) → Contains (f (get_or xss i [])) x → Contains (f (get_or xss j [])) y → R x y)
    → AllPairs R (flat_map f xss)
lists-together R f [] within across = pairs_none R
lists-together R f (xs ∷ xss) within across =
    pairs-append R (f xs) (flat_map f xss) (within 0)
    (lists-together R f xss (λ i. within (suc i)) (λ i j less. across (suc i) (suc j) (omega (arith, less))))
    (λ x y h k. (
    let list = flat_has f xss y k in
    let place = place-of xss list.0 list.1 in
    across 0 (suc place.0) (omega arith) x y h (subst (λ l. Contains (f l) y) (sym place.1) list.2)))
