-- The tests of labels, vertex by vertex and edge by edge.
-- Used by `are_onward`, `are_rising` and `listed_bounds`.
use Rattle.std.proofs.Common.{◌≡◌, ℕ, zero, suc, ◌+◌, ◌<◌, ◌≤◌, true, refl, ap, subst, ◌∙◌, List, [], ◌∷◌, ◌++◌, length, drop, get_or, Option, Some, None, slice_get, arith}
use Rattle.std.specs.List.{list_all}
use Rattle.std.proofs.lemmas.Bool.{and_from, and_parts, leb-true, le-leb}
use Rattle.std.proofs.lemmas.List.{drop_more}
use Rattle.std.proofs.lemmas.Option.{same_Some}
use Rattle.weave_data.specs.declared.name.Name.{Name}
use Rattle.program_defs.specs.Certificate.{is_number_within}
use Rattle.program_defs.specs.Labels.{bounds_of, label_in, IsLabelledWithin}
use Rattle.program_defs.specs.Rising.{is_rising}

-- Edges

-- a number that is there and at most this one
pub within-is : (o : Option ℕ) (n : ℕ) → is_number_within o n ≡ true → (e : ℕ) × (o ≡ Some e) × (e ≤ n)
within-is None n h = cc
within-is (Some e) n h = (e, refl, leb-true e n h)

-- the other way round
pub is-within : (o : Option ℕ) (n e : ℕ) → o ≡ Some e → e ≤ n → is_number_within o n ≡ true
is-within o n e is le = ap (λ x. is_number_within x n) is ∙ le-leb e n le

-- each edge of a row passes the test exactly if it leads to such a label
pub row-onward : (label : ℕ → Option ℕ) (start : ℕ) (row : List (ℕ × ℕ)) → list_all (λ edge. is_number_within (label edge.0) (start + edge.1)) row ≡ true
    → (k w p : ℕ) → slice_get row k ≡ Some (w, p) → IsLabelledWithin label w (start + p)
row-onward label start [] h k w p e = cc
row-onward label start (edge ∷ row) h zero w p e =
    let one : edge ≡ (w, p) = same_Some _ _ e in
    subst (λ (x : ℕ × ℕ). IsLabelledWithin label x.0 (start + x.1)) one (within-is (label edge.0) (start + edge.1) ((and_parts _ _ h).0))
row-onward label start (edge ∷ row) h (suc k) w p e = row-onward label start row ((and_parts _ _ h).1) k w p e

-- if each edge leads to such a label, each passes the test
pub onward-row : (label : ℕ → Option ℕ) (start : ℕ) (row : List (ℕ × ℕ)) → ((k w p : ℕ) → slice_get row k ≡ Some (w, p) → IsLabelledWithin label w (start + p))
    → list_all (λ edge. is_number_within (label edge.0) (start + edge.1)) row ≡ true
onward-row label start [] all = refl
onward-row label start (edge ∷ row) all =
    let near = all 0 edge.0 edge.1 refl in
    and_from _ _ (is-within (label edge.0) (start + edge.1) near.0 near.1 near.2) (onward-row label start row (λ k w p e. all (suc k) w p e))

-- Names

-- no more than one name is left
pub rising-end : (names : List Name) (k : ℕ) → length names ≤ k + 1 → is_rising (drop k names) ≡ true
rising-end [] zero l = refl
rising-end [] (suc k) l = refl
rising-end (x ∷ []) zero l = refl
rising-end (x ∷ y ∷ names) zero l = absurd (omega (arith, l))
rising-end (x ∷ names) (suc k) l = rising-end names k (omega (arith, l))

-- Bounds

-- the bounds from a place on are that of the vertex, if it has a label, and those after it
pub bounds-next : (vertices : List Name) (labels : List (Option ℕ)) (i : ℕ) (o : Option ℕ) → i < length vertices → i < length labels → label_in labels i ≡ o
    → bounds_of (drop i vertices) (drop i labels) ≡ bounds_of (get_or vertices i [] ∷ []) (o ∷ []) ++ bounds_of (drop (i + 1) vertices) (drop (i + 1) labels)
bounds-next vertices labels i o inside within is =
    (λ k. bounds_of (drop_more vertices i [] inside k) (drop_more labels i None within k))
    ∙ ap (λ x. bounds_of (get_or vertices i [] ∷ drop (i + 1) vertices) (x ∷ drop (i + 1) labels)) is
    ∙ at o
  where
    at : (o : Option ℕ) → bounds_of (get_or vertices i [] ∷ drop (i + 1) vertices) (o ∷ drop (i + 1) labels) ≡ bounds_of (get_or vertices i [] ∷ []) (o ∷ []) ++ bounds_of (drop (i + 1) vertices) (drop (i + 1) labels)
    at None = refl
    at (Some label) = refl
