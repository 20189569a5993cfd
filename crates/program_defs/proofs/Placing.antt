-- Names in rising order by their places, and what a binary search says of them.
-- Used by `labelled_place`, `place_among`, `rows_between`, NumberedRows, Proving and crate priced_path.
use Rattle.std.proofs.Common.{◌≡◌, ◌<◌, ◌≤◌, ℕ, zero, suc, Bool, true, false, refl, ap, subst, ◌∙◌, List, [], ◌∷◌, length, Some, slice_get, slice_index_or, IsTrue, inl, inr, arith}
use Rattle.std.specs.Ordering.{is_eq, ordering_index}
use Rattle.std.specs.declared.cmp.Ordering.{Ordering}
use Rattle.std.specs.declared.cmp.Ordering.TheVariants.{Less, Equal, Greater}
use Rattle.std.specs.List.{HoldsAt}
use Rattle.std.specs.List.Sorted.{IsNonDecreasingBy, IsPartitionPoint}
use Rattle.std.proofs.lemmas.Bool.{and_parts, cases_lt, cases_order, or_cases, or_left, or_right}
use Rattle.std.proofs.lemmas.Cmp.{nat_list_cmp_total, tied_itself}
use Rattle.std.proofs.lemmas.Option.{slice_get-get_or, get_or_from_slice_get, slice_get_within}
use Rattle.weave_data.specs.Names.{name_cmp, same_name, one_name}
use Rattle.weave_data.specs.declared.name.Name.{Name}
use Rattle.graph_ops.specs.Mentions.{is_among}
use Rattle.graph_ops.proofs.Vertices.{same_name-refl}
use Rattle.program_defs.specs.Rising.{is_rising}
use Rattle.program_defs.proofs.BoundLists.{is-less}

-- Places

-- a name among some has a place
pub among-place : (names : List Name) (v : Name) → IsTrue (is_among names v) → (place : ℕ) × (slice_get names place ≡ Some v)
among-place [] v k = cc
among-place (x ∷ names) v k =
    elim (or_cases (same_name x v) _ k) [
      | inl same ↦ (0, ap Some (one_name x v same))
      | inr more ↦ let m = among-place names v more in (suc m.0, m.1)
    ]

-- and one with a place is among them
pub place-among : (names : List Name) (v : Name) (place : ℕ) → slice_get names place ≡ Some v → IsTrue (is_among names v)
place-among [] v place e = cc
place-among (x ∷ names) v zero e = let same : x ≡ v = cc in or_left _ _ (subst (λ y. IsTrue (same_name x y)) same (same_name-refl x))
place-among (x ∷ names) v (suc place) e = or_right (same_name x v) _ (place-among names v place e)

-- the rest of rising names rise
pub rest-rises : (v : Name) (vertices : List Name) → is_rising (v ∷ vertices) ≡ true → is_rising vertices ≡ true
rest-rises v [] h = refl
rest-rises v (w ∷ vertices) h = (and_parts _ _ h).1

-- the first of rising names is before the others
pub first-less : (x : Name) (rest : List Name) → is_rising (x ∷ rest) ≡ true → (j : ℕ) (w : Name) → slice_get rest j ≡ Some w → name_cmp x w ≡ Less
first-less x [] rising j w e = cc
first-less x (y ∷ rest) rising zero w e =
    let same : y ≡ w = cc in
    subst (λ z. name_cmp x z ≡ Less) same (is-less _ ((and_parts _ _ rising).0))
first-less x (y ∷ rest) rising (suc j) w e =
    nat_list_cmp_total.trans x y w (is-less _ ((and_parts _ _ rising).0)) (first-less y rest ((and_parts _ _ rising).1) j w e)

-- numbers rise as names do
pub in-order : (vertices : List Name) (i j : ℕ) (v w : Name) → is_rising vertices ≡ true → i < j → slice_get vertices i ≡ Some v → slice_get vertices j ≡ Some w → name_cmp v w ≡ Less
in-order [] i j v w rising l e f = cc
in-order (x ∷ rest) i zero v w rising l e f = absurd (omega (arith, l))
in-order (x ∷ rest) zero (suc j) v w rising l e f =
    let same : x ≡ v = cc in
    subst (λ z. name_cmp z w ≡ Less) same (first-less x rest rising j w f)
in-order (x ∷ rest) (suc i) (suc j) v w rising l e f = in-order rest i j v w (rest-rises x rest rising) (omega (arith, l)) e f

-- no name is before itself
not-before-itself : (v : Name) → name_cmp v v ≡ Less → ⊥
not-before-itself v e = let same : name_cmp v v ≡ Equal = tied_itself nat_list_cmp_total v in cc

-- nor after itself
not-after-itself : (v : Name) → name_cmp v v ≡ Greater → ⊥
not-after-itself v e = let same : name_cmp v v ≡ Equal = tied_itself nat_list_cmp_total v in cc

-- a vertex has one number
pub one-number : (vertices : List Name) → is_rising vertices ≡ true → (i j : ℕ) (v : Name) → slice_get vertices i ≡ Some v → slice_get vertices j ≡ Some v → i ≡ j
one-number vertices rising i j v e f =
    elim (cases_order i j) [
      | inl same ↦ same
      | inr (inl less) ↦ absurd (not-before-itself v (in-order vertices i j v v rising less e f))
      | inr (inr more) ↦ absurd (not-before-itself v (in-order vertices j i v v rising more f e))
    ]

-- What a binary search says

at-most-two : (o : Ordering) → ordering_index o ≤ 2
at-most-two Less = omega arith
at-most-two Equal = omega arith
at-most-two Greater = omega arith

-- a lesser name compares with any other one as no greater
compares-no-greater : (a b v : Name) → name_cmp a b ≡ Less → ordering_index (name_cmp a v) ≤ ordering_index (name_cmp b v)
compares-no-greater a b v less = at (name_cmp b v) refl
  where
    at : (o : Ordering) → name_cmp b v ≡ o → ordering_index (name_cmp a v) ≤ ordering_index o
    at Less e = rw (nat_list_cmp_total.trans a b v less e) (omega arith)
    at Equal e =
        let same : name_cmp a v ≡ Less = subst (λ z. name_cmp a z ≡ Less) (one_name b v (ap is_eq e)) less in
        rw same (omega arith)
    at Greater e = at-most-two (name_cmp a v)

no-greater : (vertices : List Name) (v : Name) → is_rising vertices ≡ true → IsNonDecreasingBy (λ y. ordering_index (name_cmp y v)) vertices
no-greater vertices v rising i j d le below =
    elim (cases_order i j) [
      | inl same ↦ subst (λ k. ordering_index (name_cmp (slice_index_or vertices i d) v) ≤ ordering_index (name_cmp (slice_index_or vertices k d) v)) same (omega arith)
      | inr (inl less) ↦ compares-no-greater _ _ v (in-order vertices i j _ _ rising less (slice_get-get_or vertices i d (omega (arith, less, below))) (slice_get-get_or vertices j d below))
      | inr (inr more) ↦ absurd (omega (arith, more, le))
    ]

-- what compares as the same is the name
pub found-here : (vertices : List Name) (v : Name) (at : ℕ) → at < length vertices → HoldsAt (λ y. name_cmp y v ≡ Equal) vertices at → slice_get vertices at ≡ Some v
found-here vertices v at below here =
    slice_get-get_or vertices at v below ∙ ap Some (one_name _ v (ap is_eq (here v)))

-- between lesser and greater names there is none of this name
pub none-here : (vertices : List Name) (v : Name) (place : ℕ) → is_rising vertices ≡ true → (IsNonDecreasingBy (λ y. ordering_index (name_cmp y v)) vertices → IsPartitionPoint (λ y. name_cmp y v ≡ Less) (λ y. name_cmp y v ≡ Greater) vertices place) → is_among vertices v ≡ false
none-here vertices v place rising found = by (is_among vertices v) refl
  where
    parted : IsPartitionPoint (λ y. name_cmp y v ≡ Less) (λ y. name_cmp y v ≡ Greater) vertices place
    parted = found (no-greater vertices v rising)

    nowhere : (at : ℕ) → slice_get vertices at ≡ Some v → ⊥
    nowhere at e =
        let same : slice_index_or vertices at v ≡ v = get_or_from_slice_get vertices at v v e in
        elim (cases_lt at place) [
          | inl below ↦ not-before-itself v (subst (λ z. name_cmp z v ≡ Less) same (parted.0 at v (omega arith) below))
          | inr past ↦ not-after-itself v (subst (λ z. name_cmp z v ≡ Greater) same (parted.1 at v past (slice_get_within vertices at v e)))
        ]

    by : (b : Bool) → is_among vertices v ≡ b → is_among vertices v ≡ false
    by true e = let p = among-place vertices v e in absurd (nowhere p.0 p.1)
    by false e = e
