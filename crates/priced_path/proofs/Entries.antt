-- What a heap's clauses say of the entries.
-- Used by `put` and `take`.
use Rattle.std.proofs.Common.{◌≡◌, ℕ, sym, subst, List, ◌∷◌, map, IsPermutation, inl, inr, arith}
use Rattle.std.proofs.lemmas.List.Sorted.{IsPermutation-map, length_permutation, Contains-permutation}
use Rattle.weave_data.proofs.Members.{has_head, has_tail, has_read}
use Rattle.priced_path.specs.Tables.{IsEntryPut, IsEntryTaken}

module _ {X : Type 0} (f : X → ℕ × ℕ) where
  -- a heap with one item more
  pub put-is : (x : X) (xs ys : List X) → IsPermutation (x ∷ xs) ys → IsEntryPut (f x) (map f xs) (map f ys)
  put-is x xs ys h =
      let p : IsPermutation (f x ∷ map f xs) (map f ys) = IsPermutation-map f (x ∷ xs) ys h in
      record {
        one = omega (arith, length_permutation _ _ p);
        kept = λ y has. Contains-permutation _ _ y p (has_tail (f x) (map f xs) y has);
        there = Contains-permutation _ _ (f x) p (has_head (f x) (map f xs));
      }

  -- a heap with one item less
  pub take-is : (x : X) (xs ys : List X) → IsPermutation xs (x ∷ ys) → IsEntryTaken (f x) (map f xs) (map f ys)
  take-is x xs ys h =
      let p : IsPermutation (map f xs) (f x ∷ map f ys) = IsPermutation-map f xs (x ∷ ys) h in
      record {
        one = omega (arith, length_permutation _ _ p);
        kept = λ y has. elim (has_read (f x) (map f ys) y (Contains-permutation _ _ y p has)) [ inl same ↦ inr (sym same) | inr more ↦ inl more ];
      }

  -- with one more, over the list that was seen before
  pub put-from : (x : X) (xs ys : List X) (old : List (ℕ × ℕ)) → map f xs ≡ old → IsPermutation (x ∷ xs) ys → IsEntryPut (f x) old (map f ys)
  put-from x xs ys old e h = subst (λ (zs : List (ℕ × ℕ)). IsEntryPut (f x) zs (map f ys)) e (put-is x xs ys h)

  -- with one less, over the list that was seen before
  pub take-from : (x : X) (xs ys : List X) (old : List (ℕ × ℕ)) → map f xs ≡ old → IsPermutation xs (x ∷ ys) → IsEntryTaken (f x) old (map f ys)
  take-from x xs ys old e h = subst (λ (zs : List (ℕ × ℕ)). IsEntryTaken (f x) zs (map f ys)) e (take-is x xs ys h)
