-- Lists of eight counts, made gatekeeper by gatekeeper.
-- Used by `greater_of`, `lesser_of`, Hearing and Meeting.
use Rattle.std.proofs.Common.{◌≡◌, ℕ, ◌+◌, ◌<◌, ◌≤◌, List, length, map, slice_index, slice_set, sym, ap, ◌∙◌, subst, arith}
use Rattle.std.specs.List.{zip}
use Rattle.std.proofs.lemmas.List.{get_or-map, get_or_past, length-map, length-set}
use Rattle.std.proofs.lemmas.List.Edits.{fill_by_more}
use Rattle.std.proofs.lemmas.List.FromFn.{fill_by_all}
use Rattle.std.proofs.lemmas.Slice.Zip.{length-zip, get_or-zip}

-- up to a gatekeeper each of the eight counts is picked of the two in its place
pub record IsPickedBelow (pick : ℕ → ℕ → ℕ) (gate : ℕ) (counts others made : List ℕ) : Type 0 where
  pub eight : length made ≡ 8
  pub each : (k : ℕ) → k < gate → slice_index made k ≡ pick (slice_index counts k) (slice_index others k)

-- past the eighth all counts are 0
pub past-eighth : (counts : List ℕ) (k : ℕ) → length counts ≡ 8 → 8 ≤ k → slice_index counts k ≡ 0
past-eighth counts k e over = get_or_past counts k 0 (omega arith)

module _ (pick : ℕ → ℕ → ℕ) where
  -- the whole list of them
  abbrev pub picked : List ℕ → List ℕ → List ℕ
  picked xs ys = map (λ (pair : ℕ × ℕ). pick pair.0 pair.1) (zip xs ys)

  -- of two lists of eight counts eight are picked
  pub length-picked : (xs ys : List ℕ) → length xs ≡ 8 → length ys ≡ 8 → length (picked xs ys) ≡ 8
  length-picked xs ys e f = simp (length-map, length-zip, e, f)

  -- of two lists of eight counts, the one picked at each of the eight places is picked of the two there
  pub picked-at : (xs ys : List ℕ) (k : ℕ) → length xs ≡ 8 → length ys ≡ 8 → k < 8 → slice_index (picked xs ys) k ≡ pick (slice_index xs k) (slice_index ys k)
  picked-at xs ys k e f below =
      get_or-map (λ (pair : ℕ × ℕ). pick pair.0 pair.1) (zip xs ys) k (0, 0) 0 (omega (arith, length-zip xs ys))
      ∙ ap (λ (pair : ℕ × ℕ). pick pair.0 pair.1) (get_or-zip xs ys k (0, 0) (omega arith) (omega arith))

  -- one more
  pub picked_more : (counts others made : List ℕ) (gate next : ℕ) → gate < 8 → next ≡ pick (slice_index counts gate) (slice_index others gate) → IsPickedBelow pick gate counts others made → IsPickedBelow pick (gate + 1) counts others (slice_set made gate next)
  picked_more counts others made gate next below is so_far =
      record {
        eight = length-set _ _ _ ∙ so_far.eight;
        each = subst (λ n. (k : ℕ) → k < gate + 1 → slice_index (slice_set made gate n) k ≡ pick (slice_index counts k) (slice_index others k)) (sym is) (fill_by_more (λ k. pick (slice_index counts k) (slice_index others k)) made gate 0 (omega (arith, so_far.eight)) so_far.each);
      }

  -- and all of them
  pub picked_all : (counts others made : List ℕ) (gate : ℕ) → length counts ≡ 8 → length others ≡ 8 → 8 ≤ gate → IsPickedBelow pick gate counts others made → made ≡ picked counts others
  picked_all counts others made gate e f all so_far =
      fill_by_all (λ k. pick (slice_index counts k) (slice_index others k)) made 8 0 so_far.eight (λ k below. so_far.each k (omega arith))
      ∙ sym (fill_by_all (λ k. pick (slice_index counts k) (slice_index others k)) (picked counts others) 8 0 (length-picked counts others e f) (λ k below. picked-at counts others k e f below))
