-- Changes of rising pairs: they stay rising, and what takes a change back.
-- Used by `new`, `remove`, Kept and crates graph_ops, version_parts and weaver_core.
use Rattle.std.proofs.Common.{◌≡◌, ℕ, List, [], ◌∷◌, Some, None, Option, true, false, cond, refl, sym, ap, ◌∙◌, subst}
use Rattle.std.specs.declared.cmp.Ordering.{Ordering}
use Rattle.std.specs.declared.cmp.Ordering.TheVariants.{Less, Equal, Greater}
use Rattle.std.specs.Cmp.Lexicographic.{nat_list_cmp_total}
use Rattle.std.specs.FinMap.{nat_cmp-IsAntisymmetric, slice_cmp-IsAntisymmetric}
use Rattle.std.specs.Ordering.{match_ordering, is_eq}
use Rattle.std.specs.List.{AllByRecursion}
use Rattle.std.specs.List.Sorted.{IsStrictlySortedBy}
use Rattle.std.specs.Map.{keys_of}
use Rattle.std.proofs.lemmas.Map.Keys.{sorted_head, sorted_tail}
use Rattle.std.proofs.lemmas.Cmp.{tied_itself}
use Rattle.weave_data.specs.Names.{name_cmp}
use Rattle.weave_data.specs.Pairs.{IsRising, at_key, put, without_key}
use Rattle.weave_data.proofs.Finding.{above_is_below}

weaker : {K : Type 0} {P Q : K → Type 0} → ((k : K) → P k → Q k) → (ks : List K) → AllByRecursion P ks → AllByRecursion Q ks
weaker f [] all = tt
weaker f (k ∷ ks) all = (f k all.0, weaker f ks all.1)

sorted : {K : Type 0} (c : K → K → Ordering) (k : K) (ks : List K) → AllByRecursion (λ y. c k y ≡ Less) ks → IsStrictlySortedBy c ks → IsStrictlySortedBy c (k ∷ ks)
unfolding IsStrictlySortedBy
sorted c k ks head tail = (head, tail)

none_sorted : {K : Type 0} (c : K → K → Ordering) → IsStrictlySortedBy c []
unfolding IsStrictlySortedBy
none_sorted c = tt

-- an empty list of pairs rises
pub none_rise : {X : Type 0} (es : List (List ℕ × X)) → es ≡ [] → IsRising es
none_rise es none = subst IsRising (sym none) (none_sorted name_cmp)

module _ {X : Type 0} (key : List ℕ) (value : X) where
  -- put, by how the key compares with the first
  abbrev pub put_by : Ordering → List ℕ × X → List (List ℕ × X) → List (List ℕ × X)
  put_by o e es = match_ordering o ((key, value) ∷ e ∷ es) ((e.0, value) ∷ es) (e ∷ put key value es)

  all_put : (P : List ℕ → Type 0) → P key → (es : List (List ℕ × X)) → AllByRecursion P (keys_of es) → AllByRecursion P (keys_of (put key value es))
  all_put P here [] all = (here, tt)
  all_put P here (e ∷ es) all =
      elim (name_cmp key e.0) as (λ o. AllByRecursion P (keys_of (put_by o e es))) [
        | Less ↦ (here, all)
        | Equal ↦ all
        | Greater ↦ (all.0, all_put P here es all.1)
      ]

  -- rising pairs still rise when a value is put
  pub rising_put : (es : List (List ℕ × X)) → IsRising es → IsRising (put key value es)
  rising_put [] rising = sorted name_cmp key [] tt (none_sorted name_cmp)
  rising_put (e ∷ es) rising =
      elim (name_cmp key e.0) as (λ o. name_cmp key e.0 ≡ o → IsRising (put_by o e es)) [
        | Less ↦ λ less. sorted name_cmp key (e.0 ∷ keys_of es) (less, weaker (λ k above. nat_list_cmp_total.trans key e.0 k less above) (keys_of es) (sorted_head name_cmp e.0 (keys_of es) rising)) rising
        | Equal ↦ λ equal. rising
        | Greater ↦ λ greater. sorted name_cmp e.0 (keys_of (put key value es)) (all_put (λ k. name_cmp e.0 k ≡ Less) (above_is_below e.0 key greater) es (sorted_head name_cmp e.0 (keys_of es) rising)) (rising_put es (sorted_tail name_cmp e.0 (keys_of es) rising))
      ] refl

  -- a value that was put at a key is found there
  pub found_put : (es : List (List ℕ × X)) → at_key key (put key value es) ≡ Some value
  found_put [] = ap (λ o. cond (is_eq o) (Some value) None) (tied_itself nat_list_cmp_total key)
  found_put (e ∷ es) =
      elim (name_cmp key e.0) as (λ o. name_cmp key e.0 ≡ o → at_key key (put_by o e es) ≡ Some value) [
        | Less ↦ λ less. ap (λ o. cond (is_eq o) (Some value) (at_key key (e ∷ es))) (tied_itself nat_list_cmp_total key)
        | Equal ↦ λ equal. ap (λ o. cond (is_eq o) (Some value) (at_key key es)) equal
        | Greater ↦ λ greater. ap (λ o. cond (is_eq o) (Some e.1) (at_key key (put key value es))) greater ∙ found_put es
      ] refl

  -- a new key is dropped again
  pub without_put : (es : List (List ℕ × X)) → at_key key es ≡ None → without_key key (put key value es) ≡ es
  without_put [] none = ap (λ o. cond (is_eq o) [] ((key, value) ∷ [])) (tied_itself nat_list_cmp_total key)
  without_put (e ∷ es) none =
      elim (name_cmp key e.0) as (λ o. name_cmp key e.0 ≡ o → cond (is_eq o) (Some e.1) (at_key key es) ≡ None → without_key key (put_by o e es) ≡ e ∷ es) [
        | Less ↦ λ less h. ap (λ o. cond (is_eq o) (e ∷ es) ((key, value) ∷ without_key key (e ∷ es))) (tied_itself nat_list_cmp_total key)
        | Equal ↦ λ equal h. cc
        | Greater ↦ λ greater h. ap (λ o. cond (is_eq o) (put key value es) (e ∷ without_key key (put key value es))) greater ∙ ap (λ rest. e ∷ rest) (without_put es h)
      ] refl none

  put_first : (es : List (List ℕ × X)) → AllByRecursion (λ k. name_cmp key k ≡ Less) (keys_of es) → put key value es ≡ (key, value) ∷ es
  put_first [] all = refl
  put_first (e ∷ es) all = ap (λ o. put_by o e es) all.0

module _ {X : Type 0} (key : List ℕ) where
  none_above : (es : List (List ℕ × X)) → AllByRecursion (λ k. name_cmp key k ≡ Less) (keys_of es) → at_key key es ≡ None
  none_above [] all = refl
  none_above (e ∷ es) all = ap (λ o. cond (is_eq o) (Some e.1) (at_key key es)) all.0 ∙ none_above es all.1

  none_at_less : (e : List ℕ × X) (es : List (List ℕ × X)) → IsRising (e ∷ es) → name_cmp key e.0 ≡ Less → at_key key es ≡ None
  none_at_less e es rising less = none_above es (weaker (λ k above. nat_list_cmp_total.trans key e.0 k less above) (keys_of es) (sorted_head name_cmp e.0 (keys_of es) rising))

  after_equal : (e : List ℕ × X) (es : List (List ℕ × X)) → IsRising (e ∷ es) → key ≡ e.0 → AllByRecursion (λ k. name_cmp key k ≡ Less) (keys_of es)
  after_equal e es rising is = subst (λ q. AllByRecursion (λ k. name_cmp q k ≡ Less) (keys_of es)) (sym is) (sorted_head name_cmp e.0 (keys_of es) rising)

  one_key : (e : List ℕ × X) → name_cmp key e.0 ≡ Equal → key ≡ e.0
  one_key e equal = slice_cmp-IsAntisymmetric nat_cmp-IsAntisymmetric key e.0 equal

  all_without : (P : List ℕ → Type 0) (es : List (List ℕ × X)) → AllByRecursion P (keys_of es) → AllByRecursion P (keys_of (without_key key es))
  all_without P [] all = tt
  all_without P (e ∷ es) all =
      elim (is_eq (name_cmp key e.0)) as (λ b. AllByRecursion P (keys_of (cond b es (e ∷ without_key key es)))) [
        | true ↦ all.1
        | false ↦ (all.0, all_without P es all.1)
      ]

  -- rising pairs still rise when a key is dropped
  pub rising_without : (es : List (List ℕ × X)) → IsRising es → IsRising (without_key key es)
  rising_without [] rising = rising
  rising_without (e ∷ es) rising =
      elim (is_eq (name_cmp key e.0)) as (λ b. IsRising (cond b es (e ∷ without_key key es))) [
        | true ↦ sorted_tail name_cmp e.0 (keys_of es) rising
        | false ↦ sorted name_cmp e.0 (keys_of (without_key key es)) (all_without (λ k. name_cmp e.0 k ≡ Less) es (sorted_head name_cmp e.0 (keys_of es) rising)) (rising_without es (sorted_tail name_cmp e.0 (keys_of es) rising))
      ]

  -- a key that was dropped is gone
  pub none_left : (es : List (List ℕ × X)) → IsRising es → at_key key (without_key key es) ≡ None
  none_left [] rising = refl
  none_left (e ∷ es) rising =
      elim (name_cmp key e.0) as (λ o. name_cmp key e.0 ≡ o → at_key key (cond (is_eq o) es (e ∷ without_key key es)) ≡ None) [
        | Less ↦ λ less. ap (λ o. cond (is_eq o) (Some e.1) (at_key key (without_key key es))) less ∙ none_left es (sorted_tail name_cmp e.0 (keys_of es) rising)
        | Equal ↦ λ equal. none_above es (after_equal e es rising (one_key e equal))
        | Greater ↦ λ greater. ap (λ o. cond (is_eq o) (Some e.1) (at_key key (without_key key es))) greater ∙ none_left es (sorted_tail name_cmp e.0 (keys_of es) rising)
      ] refl

  -- the value from before is written again
  pub put_put : (es : List (List ℕ × X)) (value before : X) → IsRising es → at_key key es ≡ Some before → put key before (put key value es) ≡ es
  put_put [] value before rising there = cc
  put_put (e ∷ es) value before rising there =
      elim (name_cmp key e.0) as (λ o. name_cmp key e.0 ≡ o → cond (is_eq o) (Some e.1) (at_key key es) ≡ Some before → put key before (put_by key value o e es) ≡ e ∷ es) [
        | Less ↦ λ less h. let none = none_at_less e es rising less in cc (none, h)
        | Equal ↦ λ equal h. ap (λ o. match_ordering o ((key, before) ∷ (e.0, value) ∷ es) ((e.0, before) ∷ es) ((e.0, value) ∷ put key before es)) equal ∙ ap (λ (x : Option X). pair_of x) (sym h)
        | Greater ↦ λ greater h. ap (λ o. match_ordering o ((key, before) ∷ e ∷ put key value es) ((e.0, before) ∷ put key value es) (e ∷ put key before (put key value es))) greater ∙ ap (λ rest. e ∷ rest) (put_put es value before (sorted_tail name_cmp e.0 (keys_of es) rising) h)
      ] refl there
    where
      pair_of : Option X → List (List ℕ × X)
      pair_of None = []
      pair_of (Some x) = (e.0, x) ∷ es

  -- the pair that was taken out is put back
  pub put_without : (es : List (List ℕ × X)) (value : X) → IsRising es → at_key key es ≡ Some value → put key value (without_key key es) ≡ es
  put_without [] value rising there = cc
  put_without (e ∷ es) value rising there =
      elim (name_cmp key e.0) as (λ o. name_cmp key e.0 ≡ o → cond (is_eq o) (Some e.1) (at_key key es) ≡ Some value → put key value (cond (is_eq o) es (e ∷ without_key key es)) ≡ e ∷ es) [
        | Less ↦ λ less h. let none = none_at_less e es rising less in cc (none, h)
        | Equal ↦ λ equal h. put_first key value es (after_equal e es rising (one_key e equal)) ∙ ap (λ (k : List ℕ). (k, value) ∷ es) (one_key e equal) ∙ ap (λ (x : Option X). pair_of x) (sym h)
        | Greater ↦ λ greater h. ap (λ o. match_ordering o ((key, value) ∷ e ∷ without_key key es) ((e.0, value) ∷ without_key key es) (e ∷ put key value (without_key key es))) greater ∙ ap (λ rest. e ∷ rest) (put_without es value (sorted_tail name_cmp e.0 (keys_of es) rising) h)
      ] refl there
    where
      pair_of : Option X → List (List ℕ × X)
      pair_of None = []
      pair_of (Some x) = (e.0, x) ∷ es

  -- to drop a key that isn't there changes nothing
  pub without_absent : (es : List (List ℕ × X)) → at_key key es ≡ None → without_key key es ≡ es
  without_absent [] none = refl
  without_absent (e ∷ es) none =
      elim (is_eq (name_cmp key e.0)) as (λ b. cond b (Some e.1) (at_key key es) ≡ None → cond b es (e ∷ without_key key es) ≡ e ∷ es) [
        | true ↦ λ h. cc
        | false ↦ λ h. ap (λ rest. e ∷ rest) (without_absent es h)
      ] none
