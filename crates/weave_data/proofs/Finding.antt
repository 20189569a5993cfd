-- Where a key is among rising pairs, and what the changes at that place result in.
-- Used by `add`, `cut`, `get`, `insert`, `put_back`, `remove`, `search`, `swap`, `take`, `write` and Changing.
use Rattle.std.proofs.Common.{◌≡◌, ℕ, zero, suc, ◌<◌, ◌≤◌, length, get_or, set, List, [], ◌∷◌, Some, None, is_some, true, cond, Result, Ok, Err, IfOk, IfErr, refl, sym, ap, ◌∙◌, subst, arith, add-one}
use Rattle.std.specs.declared.cmp.Ordering.TheVariants.{Less, Equal, Greater}
use Rattle.std.specs.Cmp.Lexicographic.{nat_list_cmp_total}
use Rattle.std.specs.FinMap.{nat_cmp-IsAntisymmetric, slice_cmp-IsAntisymmetric}
use Rattle.std.specs.Ordering.{match_ordering, ordering_reverse, is_eq, is_lt}
use Rattle.std.specs.BTreeMap.{is_at}
use Rattle.std.specs.List.{AllByRecursion, HoldsAt, insert, remove}
use Rattle.std.specs.List.Sorted.{IsSearchInRange, IsBinarySearchResult, IsPartitionPoint}
use Rattle.std.specs.Map.{keys_of}
use Rattle.std.proofs.lemmas.List.Sorted.{searchable_from_sorted}
use Rattle.std.proofs.lemmas.Map.{lookup-none}
use Rattle.std.proofs.lemmas.Map.Keys.{sorted_head, sorted_tail}
use Rattle.std.proofs.lemmas.Map.Entries.{none_below_head}
use Rattle.std.proofs.lemmas.Cmp.{tied_itself}
use Rattle.weave_data.specs.Names.{name_cmp}
use Rattle.weave_data.specs.Pairs.{IsRising, at_key, has, put, without_key}
use Rattle.weave_data.specs.Places.{IsAt, IsGap}

below_is_above : (low high : List ℕ) → name_cmp low high ≡ Less → name_cmp high low ≡ Greater
below_is_above low high less = nat_list_cmp_total.antisymm high low ∙ ap ordering_reverse less

-- if one name is above another, the other is below it
pub above_is_below : (low high : List ℕ) → name_cmp high low ≡ Greater → name_cmp low high ≡ Less
above_is_below low high greater = nat_list_cmp_total.antisymm low high ∙ ap ordering_reverse greater

module _ {X : Type 0} (key : List ℕ) where
  -- what holds of all keys holds of one that has a place
  of_key : (P : List ℕ → Type 0) (es : List (List ℕ × X)) (at : ℕ) → IsAt key es at → AllByRecursion P (keys_of es) → P key
  of_key P [] at here all = absurd here
  of_key P (e ∷ es) zero here all = subst P (sym here) all.0
  of_key P (e ∷ es) (suc at) here all = of_key P es at here.1 all.1

  -- an index in rising pairs whose pair has a key equal to this one is the key's place
  pub is_at_place : (es : List (List ℕ × X)) (at : ℕ) → IsRising es → at < length es → HoldsAt (λ pair. name_cmp pair.0 key ≡ Equal) es at → IsAt key es at
  is_at_place [] at rising inside here = absurd (omega (arith, inside))
  is_at_place (e ∷ es) zero rising inside here = sym (slice_cmp-IsAntisymmetric nat_cmp-IsAntisymmetric e.0 key (here e))
  is_at_place (e ∷ es) (suc at) rising inside here =
      let rest = is_at_place es at (sorted_tail name_cmp e.0 (keys_of es) rising) (omega (arith, inside)) (λ d. here d) in
      (below_is_above e.0 key (of_key (λ k. name_cmp e.0 k ≡ Less) es at rest (sorted_head name_cmp e.0 (keys_of es) rising)), rest)

  -- an index with lower keys before it and higher ones from it on is the key's gap
  pub is_gap_place : (es : List (List ℕ × X)) (at : ℕ) → at ≤ length es → IsPartitionPoint (λ pair. name_cmp pair.0 key ≡ Less) (λ pair. name_cmp pair.0 key ≡ Greater) es at → IsGap key es at
  is_gap_place [] at inside parted = omega (arith, inside)
  is_gap_place (e ∷ es) zero inside parted = above_is_below key e.0 (parted.1 zero e (omega arith) (omega arith))
  is_gap_place (e ∷ es) (suc at) inside parted = (
    below_is_above e.0 key (parted.0 zero e (omega arith) (omega arith)),
    is_gap_place es at (omega (arith, inside)) (
      λ k d low high. parted.0 (suc k) d (omega arith) (omega (arith, high)),
      λ k d low high. parted.1 (suc k) d (omega (arith, low)) (omega (arith, high)),
    ),
  )

  -- a key at its place

  -- the place of a key is within the pairs
  pub at_place_inside : (es : List (List ℕ × X)) (at : ℕ) → IsAt key es at → at < length es
  at_place_inside [] at here = absurd here
  at_place_inside (e ∷ es) zero here = omega arith
  at_place_inside (e ∷ es) (suc at) here = omega (arith, at_place_inside es at here.1)

  -- what is found at a key is the value of the pair at its place
  pub found_at : (es : List (List ℕ × X)) (at : ℕ) (d : List ℕ × X) → IsAt key es at → at_key key es ≡ Some (get_or es at d).1
  found_at [] at d here = absurd here
  found_at (e ∷ es) zero d here = ap (λ o. cond (is_eq o) (Some e.1) (at_key key es)) (subst (λ k. name_cmp key k ≡ Equal) here (tied_itself nat_list_cmp_total key))
  found_at (e ∷ es) (suc at) d here = ap (λ o. cond (is_eq o) (Some e.1) (at_key key es)) here.0 ∙ found_at es at d here.1

  -- to put a value at a key that has a place sets the pair there
  pub put_at : (es : List (List ℕ × X)) (at : ℕ) (value : X) → IsAt key es at → put key value es ≡ set es at (key, value)
  put_at [] at value here = absurd here
  put_at (e ∷ es) zero value here = ap (λ o. match_ordering o ((key, value) ∷ e ∷ es) ((e.0, value) ∷ es) (e ∷ put key value es)) (subst (λ k. name_cmp key k ≡ Equal) here (tied_itself nat_list_cmp_total key)) ∙ ap (λ k. (k, value) ∷ es) (sym here)
  put_at (e ∷ es) (suc at) value here = ap (λ o. match_ordering o ((key, value) ∷ e ∷ es) ((e.0, value) ∷ es) (e ∷ put key value es)) here.0 ∙ ap (λ rest. e ∷ rest) (put_at es at value here.1)

  -- to drop a key that has a place removes the pair there
  pub without_at : (es : List (List ℕ × X)) (at : ℕ) → IsAt key es at → without_key key es ≡ remove es at
  without_at [] at here = absurd here
  without_at (e ∷ es) zero here = ap (λ o. cond (is_eq o) es (e ∷ without_key key es)) (subst (λ k. name_cmp key k ≡ Equal) here (tied_itself nat_list_cmp_total key))
  without_at (e ∷ es) (suc at) here = ap (λ o. cond (is_eq o) es (e ∷ without_key key es)) here.0 ∙ ap (λ rest. e ∷ rest) (without_at es at here.1)

  -- a key at its gap

  -- the gap of a key is within the pairs, or right after them
  pub gap_inside : (es : List (List ℕ × X)) (at : ℕ) → IsGap key es at → at ≤ length es
  gap_inside [] at gap = omega (arith, gap)
  gap_inside (e ∷ es) zero gap = omega arith
  gap_inside (e ∷ es) (suc at) gap = omega (arith, gap_inside es at gap.1)

  -- at a key that has a gap in rising pairs there is nothing
  pub none_in_gap : (es : List (List ℕ × X)) (at : ℕ) → IsRising es → IsGap key es at → at_key key es ≡ None
  none_in_gap [] at rising gap = refl
  none_in_gap (e ∷ es) zero rising gap = lookup-none (is_at (name_cmp key)) (e ∷ es) (none_below_head nat_list_cmp_total key e es rising gap)
  none_in_gap (e ∷ es) (suc at) rising gap = ap (λ o. cond (is_eq o) (Some e.1) (at_key key es)) gap.0 ∙ none_in_gap es at (sorted_tail name_cmp e.0 (keys_of es) rising) gap.1

  -- to put a value at a key that has a gap inserts the pair there
  pub put_in_gap : (es : List (List ℕ × X)) (at : ℕ) (value : X) → IsGap key es at → put key value es ≡ insert es at (key, value)
  put_in_gap [] at value gap = subst (λ n. put key value [] ≡ insert [] n (key, value)) (sym gap) refl
  put_in_gap (e ∷ es) zero value gap = ap (λ o. match_ordering o ((key, value) ∷ e ∷ es) ((e.0, value) ∷ es) (e ∷ put key value es)) gap
  put_in_gap (e ∷ es) (suc at) value gap = ap (λ o. match_ordering o ((key, value) ∷ e ∷ es) ((e.0, value) ∷ es) (e ∷ put key value es)) gap.0 ∙ ap (λ rest. e ∷ rest) (put_in_gap es at value gap.1)

  next_above : (es : List (List ℕ × X)) → IsRising es → (k : ℕ) (d : List ℕ × X) → suc k < length es → name_cmp (get_or es k d).0 (get_or es (suc k) d).0 ≡ Less
  next_above [] rising k d inside = absurd (omega (arith, inside))
  next_above (e ∷ []) rising k d inside = absurd (omega (arith, inside))
  next_above (e ∷ f ∷ es) rising zero d inside = (sorted_head name_cmp e.0 (keys_of (f ∷ es)) rising).0
  next_above (e ∷ f ∷ es) rising (suc k) d inside = next_above (f ∷ es) (sorted_tail name_cmp e.0 (keys_of (f ∷ es)) rising) k d (omega (arith, inside))

  -- where a search by key ends
  pub searched : (es : List (List ℕ × X)) (r : Result ℕ ℕ) → IsRising es → IsSearchInRange r (length es) → IsBinarySearchResult (λ pair. name_cmp pair.0 key) es r → IfOk r (IsAt key es) × IfErr r (IsGap key es)
  searched es (Ok at) rising inside here = (is_at_place es at rising inside here, tt)
  searched es (Err at) rising inside parted = (tt, is_gap_place es at inside (parted (searchable_from_sorted nat_list_cmp_total (λ pair. pair.0) es key (λ k d low high. rw add-one (ap is_lt (below_is_above (get_or es k d).0 (get_or es (suc k) d).0 (next_above es rising k d (omega (arith, high)))))))))

  -- at a key that has a place there is something
  pub has_at_place : (es : List (List ℕ × X)) (at : ℕ) → IsAt key es at → has key es ≡ true
  has_at_place [] at here = absurd here
  has_at_place (e ∷ es) zero here = ap (λ o. is_some (cond (is_eq o) (Some e.1) (at_key key es))) (subst (λ k. name_cmp key k ≡ Equal) here (tied_itself nat_list_cmp_total key))
  has_at_place (e ∷ es) (suc at) here = ap (λ o. is_some (cond (is_eq o) (Some e.1) (at_key key es))) here.0 ∙ has_at_place es at here.1
