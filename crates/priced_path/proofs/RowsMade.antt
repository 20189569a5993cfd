-- Rows are made of kept edges, one after another.
-- Used by `add_edge`, `rows_of` and Reading.
use Rattle.std.proofs.Common.{◌≡◌, ◌<◌, ◌++◌, ℕ, zero, suc, true, false, refl, sym, ap, subst, ◌∙◌, List, [], ◌∷◌, length, Some, slice_get, slice_set, slice_index_or, take, ◌+◌, ◌⊎◌, inl, inr, arith, get_or-set_same, get_or-set_other, length-set}
use Rattle.std.proofs.lemmas.Bool.{both_ways, cases_eq}
use Rattle.std.proofs.lemmas.List.{take_more}
use Rattle.std.proofs.lemmas.Option.{slice_get_within}
use Rattle.weave_data.specs.declared.name.Name.{Name}
use Rattle.weave_data.proofs.Lists.{get-here, get_kept}
use Rattle.graph_ops.specs.Mentions.{is_among}
use Rattle.program_defs.specs.Labels.{row_in}
use Rattle.program_defs.specs.Rising.{is_rising}
use Rattle.program_defs.proofs.Placing.{one-number, place-among}
use Rattle.priced_path.specs.Kept.{HasKept, AreRowsKept}
use Rattle.priced_path.specs.declared.kept_edge.KeptEdge.{KeptEdge}

-- Kept edges

-- an edge of the first list is kept in both together
pub kept-left : (xs ys : List KeptEdge) (v w : Name) (price : ℕ) → HasKept xs v w price → HasKept (xs ++ ys) v w price
kept-left [] ys v w price h = absurd h
kept-left (x ∷ xs) ys v w price (inl here) = inl here
kept-left (x ∷ xs) ys v w price (inr there) = inr (kept-left xs ys v w price there)

-- and so is one of the second
pub kept-right : (xs ys : List KeptEdge) (v w : Name) (price : ℕ) → HasKept ys v w price → HasKept (xs ++ ys) v w price
kept-right [] ys v w price h = h
kept-right (x ∷ xs) ys v w price h = inr (kept-right xs ys v w price h)

-- an edge kept in both together is kept in one of them
pub kept-cases : (xs ys : List KeptEdge) (v w : Name) (price : ℕ) → HasKept (xs ++ ys) v w price → HasKept xs v w price ⊎ HasKept ys v w price
kept-cases [] ys v w price h = inr h
kept-cases (x ∷ xs) ys v w price (inl here) = inl (inl here)
kept-cases (x ∷ xs) ys v w price (inr there) = elim (kept-cases xs ys v w price there) [ inl left ↦ inl (inr left) | inr right ↦ inr right ]

-- Rows

-- before the first edge
pub rows-begin : (vertices : List Name) (rows : List (List (ℕ × ℕ))) → length rows ≡ length vertices → ((i : ℕ) → row_in rows i ≡ []) → AreRowsKept vertices [] rows
rows-begin vertices rows all empty =
    record {
      all = all;
      kept = λ i k j price e. let none = subst (λ (row : List (ℕ × ℕ)). slice_get row k ≡ Some (j, price)) (empty i) e in cc;
      each = λ i j price v w e f h. absurd h;
    }

-- what is at a place of a list with one more
push-cases : {A : Type 0} (xs : List A) (x y : A) (k : ℕ) → slice_get (xs ++ x ∷ []) k ≡ Some y → (slice_get xs k ≡ Some y) ⊎ (x ≡ y)
push-cases [] x y zero e = let same : x ≡ y = cc in inr same
push-cases [] x y (suc k) e = cc
push-cases (z ∷ xs) x y zero e = inl e
push-cases (z ∷ xs) x y (suc k) e = push-cases xs x y k e

abbrev HasEnds : List Name → List KeptEdge → ℕ → ℕ → ℕ → Type 0
HasEnds vertices edges i j price = (v : Name) × (w : Name) × (slice_get vertices i ≡ Some v) × (slice_get vertices j ≡ Some w) × HasKept edges v w price

module _ (vertices : List Name) (rising : is_rising vertices ≡ true) (edge : KeptEdge) (done : List KeptEdge) (old : List (List (ℕ × ℕ))) (are : AreRowsKept vertices done old) where
  -- an edge with an end that isn't among the vertices
  pub skip-edge : (is_among vertices edge.from ≡ false) ⊎ (is_among vertices edge.target ≡ false) → AreRowsKept vertices (done ++ edge ∷ []) old
  skip-edge none =
      record {
        all = are.all;
        kept = λ i k j price e.
            let a = are.kept i k j price e in
            (a.0, a.1, a.2, a.3, kept-left done (edge ∷ []) a.0 a.1 price a.4);
        each = λ i j price v w e f h. elim (kept-cases done (edge ∷ []) v w price h) [
          | inl before ↦ are.each i j price v w e f before
          | inr (inl this) ↦ absurd (not-this i j v w e f this.0 this.1 none)
          | inr (inr none_more) ↦ absurd none_more
        ];
      }
    where
      not-this : (i j : ℕ) (v w : Name) → slice_get vertices i ≡ Some v → slice_get vertices j ≡ Some w → edge.from ≡ v → edge.target ≡ w → (is_among vertices edge.from ≡ false) ⊎ (is_among vertices edge.target ≡ false) → ⊥
      not-this i j v w e f from target (inl lacks) = both_ways _ lacks (place-among vertices edge.from i (e ∙ ap Some (sym from)))
      not-this i j v w e f from target (inr lacks) = both_ways _ lacks (place-among vertices edge.target j (f ∙ ap Some (sym target)))

  -- an edge between two of the vertices
  pub put-edge : (at target : ℕ) (new : List (List (ℕ × ℕ))) → slice_get vertices at ≡ Some edge.from → slice_get vertices target ≡ Some edge.target
      → new ≡ slice_set old at (row_in old at ++ (target, edge.price) ∷ []) → AreRowsKept vertices (done ++ edge ∷ []) new
  put-edge at target new from_at target_at is =
      record {
        all = ap length is ∙ length-set old at (row_in old at ++ (target, edge.price) ∷ []) ∙ are.all;
        kept = λ i k j price e. kept i k j price e (cases_eq i at);
        each = λ i j price v w e f h. each i j price v w e f (kept-cases done (edge ∷ []) v w price h) (cases_eq i at);
      }
    where
      below : at < length old
      below = omega (arith, slice_get_within vertices at edge.from from_at, are.all)

      now : row_in new at ≡ row_in old at ++ (target, edge.price) ∷ []
      now = ap (λ (rows : List (List (ℕ × ℕ))). row_in rows at) is ∙ get_or-set_same old at (row_in old at ++ (target, edge.price) ∷ []) [] below

      others : (i : ℕ) → (i ≡ at → ⊥) → row_in new i ≡ row_in old i
      others i other = ap (λ (rows : List (List (ℕ × ℕ))). row_in rows i) is ∙ get_or-set_other old at i (row_in old at ++ (target, edge.price) ∷ []) [] other

      longer : (i j price : ℕ) → HasEnds vertices done i j price → HasEnds vertices (done ++ edge ∷ []) i j price
      longer i j price a = (a.0, a.1, a.2, a.3, kept-left done (edge ∷ []) a.0 a.1 price a.4)

      this : (i j price : ℕ) → i ≡ at → target ≡ j → edge.price ≡ price → HasEnds vertices (done ++ edge ∷ []) i j price
      this i j price same_at same_target same_price = (
        edge.from,
        edge.target,
        subst (λ n. slice_get vertices n ≡ Some edge.from) (sym same_at) from_at,
        subst (λ n. slice_get vertices n ≡ Some edge.target) same_target target_at,
        kept-right done (edge ∷ []) edge.from edge.target price (inl (refl, refl, same_price)),
      )

      kept : (i k j price : ℕ) → slice_get (row_in new i) k ≡ Some (j, price) → (i ≡ at) ⊎ (i ≡ at → ⊥) → HasEnds vertices (done ++ edge ∷ []) i j price
      kept i k j price e (inr other) = longer i j price (are.kept i k j price (subst (λ (row : List (ℕ × ℕ)). slice_get row k ≡ Some (j, price)) (others i other) e))
      kept i k j price e (inl same) =
          let here = subst (λ (row : List (ℕ × ℕ)). slice_get row k ≡ Some (j, price)) (ap (row_in new) same ∙ now) e in
          elim (push-cases (row_in old at) (target, edge.price) (j, price) k here) [
            | inl before ↦ longer i j price (are.kept i k j price (subst (λ n. slice_get (row_in old n) k ≡ Some (j, price)) (sym same) before))
            | inr one ↦ this i j price same (ap (λ (p : ℕ × ℕ). p.0) one) (ap (λ (p : ℕ × ℕ). p.1) one)
          ]

      each : (i j price : ℕ) (v w : Name) → slice_get vertices i ≡ Some v → slice_get vertices j ≡ Some w → HasKept done v w price ⊎ HasKept (edge ∷ []) v w price → (i ≡ at) ⊎ (i ≡ at → ⊥) → (k : ℕ) × (slice_get (row_in new i) k ≡ Some (j, price))
      each i j price v w e f (inl before) (inr other) =
          let a = are.each i j price v w e f before in
          (a.0, subst (λ (row : List (ℕ × ℕ)). slice_get row a.0 ≡ Some (j, price)) (sym (others i other)) a.1)
      each i j price v w e f (inl before) (inl same) =
          let a = are.each i j price v w e f before in
          let there = get_kept (row_in old at) ((target, edge.price) ∷ []) a.0 (j, price) (subst (λ n. slice_get (row_in old n) a.0 ≡ Some (j, price)) same a.1) in
          (a.0, subst (λ (row : List (ℕ × ℕ)). slice_get row a.0 ≡ Some (j, price)) (sym (ap (row_in new) same ∙ now)) there)
      each i j price v w e f (inr (inl new_one)) by_place =
          let same : i ≡ at = one-number vertices rising i at edge.from (e ∙ ap Some (sym new_one.0)) from_at in
          let same_target : target ≡ j = one-number vertices rising target j edge.target target_at (f ∙ ap Some (sym new_one.1)) in
          let there : slice_get (row_in old at ++ (target, edge.price) ∷ []) (length (row_in old at)) ≡ Some (target, edge.price) = get-here (row_in old at) (target, edge.price) [] in
          let pair : ◌≡◌ {A = ℕ × ℕ} (target, edge.price) (j, price) = λ n. (same_target n, new_one.2 n) in
          (length (row_in old at), subst (λ (row : List (ℕ × ℕ)). slice_get row (length (row_in old at)) ≡ Some (j, price)) (sym (ap (row_in new) same ∙ now)) (there ∙ ap Some pair))
      each i j price v w e f (inr (inr none)) by_place = absurd none

-- The edges up to a place

-- with the one at this place
pub one-more : (edges : List KeptEdge) (i : ℕ) (edge : KeptEdge) → i < length edges → edge ≡ slice_index_or edges i edge → take (i + 1) edges ≡ take i edges ++ edge ∷ []
one-more edges i edge below is = take_more edges i edge below ∙ ap (λ e. take i edges ++ e ∷ []) (sym is)
