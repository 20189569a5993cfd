-- Pairs whose neighbours rise.
-- Used by `are_rising`.
use Rattle.std.proofs.Common.{arith, ◌≡◌, ℕ, zero, suc, true, true≢false, ◌<◌, ◌≤◌, ◌+◌, ◌-◌, length, get_or, List, [], ◌∷◌, ap, ◌∙◌}
use Rattle.std.specs.declared.cmp.Ordering.TheVariants.{Less}
use Rattle.std.specs.Cmp.Lexicographic.{nat_list_cmp_total}
use Rattle.std.specs.Ordering.{is_ge}
use Rattle.std.specs.Map.{keys_of}
use Rattle.std.specs.List.Sorted.{IsStrictlySortedBy}
use Rattle.std.proofs.Math.ListN.{get_or-map}
use Rattle.std.proofs.lemmas.List.{length-map, get_or_default}
use Rattle.std.proofs.lemmas.Map.Keys.{sorted_from_all_adjacent, Less-from_sorted}
use Rattle.weave_data.specs.Names.{name_cmp}
use Rattle.weave_data.specs.Pairs.{IsRising}

none : (X : Type 0) → IsRising {X = X} []
unfolding IsStrictlySortedBy
none X = tt

module _ {X : Type 0} where
  -- each pair before this place is below the next
  abbrev pub RiseUntil : ℕ → List (List ℕ × X) → Type 0
  RiseUntil place es = (k : ℕ) (d : List ℕ × X) → k + 1 < place → name_cmp (get_or es k d).0 (get_or es (k + 1) d).0 ≡ Less

  -- if each pair up to the end is below the next one, the pairs rise
  pub all_rise : (es : List (List ℕ × X)) (place : ℕ) → length es ≤ place → RiseUntil place es → IsRising es
  all_rise [] place past rise = none X
  all_rise (e ∷ es) place past rise =
      sorted_from_all_adjacent nat_list_cmp_total (keys_of (e ∷ es)) e.0 (λ k inside.
      let long = length-map (e ∷ es) (λ (p : List ℕ × X). p.0) in
      rw (get_or-map (λ (p : List ℕ × X). p.0) (e ∷ es) k e, get_or-map (λ (p : List ℕ × X). p.0) (e ∷ es) (k + 1) e) (rise k e (omega (arith, inside, long, past))))

  -- in rising pairs each is below the next one
  pub two_rise : (es : List (List ℕ × X)) (k : ℕ) (d : List ℕ × X) → IsRising es → k + 1 < length es → name_cmp (get_or es k d).0 (get_or es (k + 1) d).0 ≡ Less
  two_rise es k d rising inside =
      let long = length-map es (λ (p : List ℕ × X). p.0) in
      rw (← get_or-map (λ (p : List ℕ × X). p.0) es k d, ← get_or-map (λ (p : List ℕ × X). p.0) es (k + 1) d)
      (Less-from_sorted name_cmp (keys_of es) k (k + 1) d.0 rising (omega arith) (omega (arith, inside, long)))

  -- a pair that isn't below the next one, in its place
  pub out_of_place : (es : List (List ℕ × X)) (place : ℕ) (d e : List ℕ × X) → 1 ≤ place → place < length es → true ≡ is_ge (name_cmp (get_or es (place - 1) d).0 (get_or es place e).0) → IsRising es → ⊥
  out_of_place es zero d e low inside above rising = omega (arith, low)
  out_of_place es (suc k) d e low inside above rising =
      let next : get_or es (suc k) e ≡ get_or es (k + 1) d = get_or_default es (suc k) e d inside ∙ ap (λ n. get_or es n d) (omega arith) in
      let before : get_or es (suc k - 1) d ≡ get_or es k d = ap (λ n. get_or es n d) (omega arith) in
      let less = ap (λ (p : List ℕ × X). name_cmp p.0 (get_or es (suc k) e).0) before ∙ ap (λ (p : List ℕ × X). name_cmp (get_or es k d).0 p.0) next ∙ two_rise es k d rising (omega (arith, inside)) in
      true≢false (above ∙ ap is_ge less)
