-- Sorted hops come by rank, and by target within a rank.
-- Used by `mark_targets`.
use Rattle.std.proofs.Common.{◌≡◌, ℕ, suc, ◌<◌, ◌≤◌, false, true, List, [], ◌∷◌, length, get_or, refl, sym, ap, subst, ◌∙◌, inl, inr, arith}
use Rattle.std.specs.Cmp.{IsTotalOrder, ranks}
use Rattle.std.specs.List.Sorted.{IsSorted}
use Rattle.std.specs.declared.cmp.Ordering.{Ordering}
use Rattle.std.specs.declared.cmp.Ordering.TheVariants.{Less, Equal, Greater}
use Rattle.std.specs.Ordering.{is_lt, is_le, nat_cmp, ordering_then, ordering_reverse, MatchOrdering}
use Rattle.std.proofs.lemmas.Cmp.{nat_list_cmp_total, nat_cmp_total, on_total, then_total}
use Rattle.std.proofs.lemmas.List.Sorted.{sorted_far, ranks_by}
use Rattle.weave_data.specs.Names.{name_cmp}
use Rattle.program_defs.specs.declared.path_search.Hop.{Hop}
use Rattle.program_defs.specs.LeastWalks.{IsIn, IsNoLater, HopsRise}

-- hops are compared by their ranks, then by their targets, then by their parents
abbrev pub hop_cmp : Hop → Hop → Ordering
hop_cmp x y = ordering_then (nat_cmp x.rank y.rank) (ordering_then (name_cmp x.target y.target) (name_cmp x.parent y.parent))

hop-total : IsTotalOrder hop_cmp
hop-total = then_total (on_total (λ (h : Hop). h.rank) nat_cmp_total) (then_total (on_total (λ (h : Hop). h.target) nat_list_cmp_total) (on_total (λ (h : Hop). h.parent) nat_list_cmp_total))

first-not-less : (a b c : Ordering) → is_lt (ordering_then a (ordering_then b c)) ≡ false → is_lt (ordering_then a b) ≡ false
first-not-less Less b c e = e
first-not-less Equal Less c e = e
first-not-less Equal Equal c e = refl
first-not-less Equal Greater c e = refl
first-not-less Greater b c e = refl

no-later : (x y : Hop) → is_lt (hop_cmp y x) ≡ false → IsNoLater x y
no-later x y e = at (nat_cmp y.rank x.rank) (ranks y.rank x.rank) (first-not-less (nat_cmp y.rank x.rank) (name_cmp y.target x.target) (name_cmp y.parent x.parent) e)
  where
    by-name : (o : Ordering) → name_cmp y.target x.target ≡ o → is_lt o ≡ false → is_le (name_cmp x.target y.target) ≡ true
    by-name Less is f = cc
    by-name Equal is f = ap is_le (nat_list_cmp_total.antisymm x.target y.target ∙ ap ordering_reverse is)
    by-name Greater is f = ap is_le (nat_list_cmp_total.antisymm x.target y.target ∙ ap ordering_reverse is)

    at : (o : Ordering) → MatchOrdering o (y.rank < x.rank) (y.rank ≡ x.rank) (x.rank < y.rank) → is_lt (ordering_then o (name_cmp y.target x.target)) ≡ false → IsNoLater x y
    at Less m f = absurd (cc)
    at Equal m f = inr (sym m, by-name (name_cmp y.target x.target) refl f)
    at Greater m f = inl m

above-all : (x : Hop) (xs : List Hop) → ((k : ℕ) → k < length xs → is_lt (hop_cmp (get_or xs k x) x) ≡ false) → (other : Hop) → IsIn xs other → IsNoLater x other
above-all x [] h other i = absurd i
above-all x (y ∷ ys) h other (inl same) = subst (IsNoLater x) same (no-later x y (h 0 (omega arith)))
above-all x (y ∷ ys) h other (inr i) = above-all x ys (λ k p. h (suc k) (omega (arith, p))) other i

rising-of : (xs : List Hop) → ((i j : ℕ) (d : Hop) → i ≤ j → j < length xs → is_lt (hop_cmp (get_or xs j d) (get_or xs i d)) ≡ false) → HopsRise xs
rising-of [] h = tt
rising-of (x ∷ xs) h = (above-all x xs (λ k p. h 0 (suc k) x (omega arith) (omega (arith, p))), rising-of xs (λ i j d p q. h (suc i) (suc j) d (omega (arith, p)) (omega (arith, q))))

-- in a sorted list of hops each comes no later than those after it, by rank and by target within a rank
pub sorted-rising : (xs : List Hop) → IsSorted hop_cmp xs → HopsRise xs
sorted-rising xs sorted = rising-of xs (sorted_far (λ x y. is_lt (hop_cmp x y)) (ranks_by hop-total (λ h. h)) xs sorted)
