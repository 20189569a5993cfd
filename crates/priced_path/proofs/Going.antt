-- Each step of a search over its tables.
-- Used by `least_prices` and `look`.
use Rattle.std.proofs.Common.{◌≡◌, ◌≤◌, ◌<◌, ◌+◌, ◌*◌, ℕ, zero, suc, refl, sym, ap, subst, ◌∙◌, List, [], ◌∷◌, length, Option, Some, None, ◌⊎◌, inl, inr, arith, slice_get, slice_set, sum_by, get_or-set_same, get_or-set_other, length-set, Contains}
use Rattle.std.proofs.lemmas.Bool.{cases_eq}
use Rattle.std.proofs.lemmas.List.Sums.{sum_by-set, sum_by-cons}
use Rattle.std.proofs.lemmas.Option.{same_Some}
use Rattle.weave_data.proofs.Members.{has_none}
use Rattle.program_defs.specs.Labels.{label_in, row_in, AreRows, IsCertificate}
use Rattle.program_defs.specs.Prices.{most_price}
use Rattle.priced_path.specs.Searches.{IsNoneLeft, IsLeftFrom, IsSearch}
use Rattle.priced_path.specs.Tables.{IsOpenIn, IsEntryTaken, one_if_labelled, AreSmall, height_of, height, work_left, IsSearchOver, IsOffered, IsLooking}
use Rattle.priced_path.proofs.Searching.{begins, takes, skips, passes-by, lowers, ends-row, ends}

-- Numbers of labels

-- there are no more labels than vertices
few-labels : (labels : List (Option ℕ)) → sum_by one_if_labelled labels ≤ length labels
few-labels [] = omega arith
few-labels (None ∷ rest) = omega (arith, few-labels rest, sum_by-cons one_if_labelled None rest)
few-labels (Some d ∷ rest) = omega (arith, few-labels rest, sum_by-cons one_if_labelled (Some d) rest)

some-label : (labels : List (Option ℕ)) (v d : ℕ) → label_in labels v ≡ Some d → 1 ≤ sum_by one_if_labelled labels
some-label [] v d e = cc
some-label (None ∷ rest) zero d e = cc
some-label (Some c ∷ rest) zero d e = omega (arith, sum_by-cons one_if_labelled (Some c) rest)
some-label (o ∷ rest) (suc v) d e = omega (arith, some-label rest v d e, sum_by-cons one_if_labelled o rest)

-- an offered price is no greater than all prices together
pub small-offer : (labels : List (Option ℕ)) (v label price : ℕ) → AreSmall labels → label_in labels v ≡ Some label → price ≤ most_price → label + price ≤ most_price * length labels
small-offer labels v label price small e le = omega (arith, small v label e, few-labels labels, le)

module _ (rows : List (List (ℕ × ℕ))) (start : ℕ) where
  -- before the first edge
  pub begin : (labels : List (Option ℕ)) (entries : List (ℕ × ℕ)) → length labels ≡ length rows → label_in labels start ≡ Some 0
      → ((v : ℕ) → (v ≡ start → ⊥) → label_in labels v ≡ None) → IsOpenIn entries start 0 → IsSearchOver rows start labels entries IsNoneLeft
  begin labels entries all at others there =
      record {
        found = begins (row_in rows) start (label_in labels) (IsOpenIn entries) at others there;
        all = all;
        small = λ v d e. is v d e (cases_eq v start);
      }
    where
      is : (v d : ℕ) → label_in labels v ≡ Some d → (v ≡ start) ⊎ (v ≡ start → ⊥) → d + most_price ≤ most_price * sum_by one_if_labelled labels
      is v d e (inl same) =
          let nought : 0 ≡ d = same_Some 0 d (sym at ∙ subst (λ x. label_in labels x ≡ Some d) same e) in
          omega (arith, nought, some-label labels v d e)
      is v d e (inr other) = let none = others v other in cc

  taken : (x c : ℕ) (before after : List (ℕ × ℕ)) → IsEntryTaken (c, x) before after → (u d : ℕ) → IsOpenIn before u d → IsOpenIn after u d ⊎ ((u ≡ x) × (d ≡ c))
  taken x c before after t u d h = at (t.kept (d, u) h)
    where
      at : Contains after (d, u) ⊎ (◌≡◌ {A = ℕ × ℕ} (d, u) (c, x)) → IsOpenIn after u d ⊎ ((u ≡ x) × (d ≡ c))
      at (inl still) = inl still
      at (inr is) = inr (ap (λ p. p.1) is, ap (λ p. p.0) is)

  -- an entry with the label of its vertex is taken out
  pub take-one : (labels : List (Option ℕ)) (before after : List (ℕ × ℕ)) (x c : ℕ) → IsEntryTaken (c, x) before after → IsSearchOver rows start labels before IsNoneLeft → IsSearchOver rows start labels after (IsLeftFrom x 0)
  take-one labels before after x c t g =
      record { found = takes (row_in rows) start (label_in labels) (IsOpenIn before) (IsOpenIn after) x c (taken x c before after t) g.found; all = g.all; small = g.small }

  -- an entry with another label
  pub skip-one : (labels : List (Option ℕ)) (before after : List (ℕ × ℕ)) (x c : ℕ) → IsEntryTaken (c, x) before after → (label_in labels x ≡ Some c → ⊥) → IsSearchOver rows start labels before IsNoneLeft → IsSearchOver rows start labels after IsNoneLeft
  skip-one labels before after x c t stale g =
      record { found = skips (row_in rows) start (label_in labels) (IsOpenIn before) (IsOpenIn after) x c (taken x c before after t) stale g.found; all = g.all; small = g.small }

  -- no entry is left
  pub end : (labels : List (Option ℕ)) (entries : List (ℕ × ℕ)) → entries ≡ [] → IsSearchOver rows start labels entries IsNoneLeft → IsCertificate (row_in rows) start (label_in labels)
  end labels entries e g =
      ends (row_in rows) start (label_in labels) (IsOpenIn entries) (λ u d h. has_none (d, u) (subst (λ (xs : List (ℕ × ℕ)). Contains xs (d, u)) e h)) g.found

  -- one edge
  module _ (are : AreRows rows) (old new : List (Option ℕ)) (before after : List (ℕ × ℕ)) (x c i v p : ℕ) (labelled : label_in old x ≡ Some c) (edge : slice_get (row_in rows x) i ≡ Some (v, p)) where
    -- the vertex at its end may get a lower label
    pub offered : IsSearchOver rows start old before (IsLeftFrom x i) → IsOffered v (c + p) old new before after
        → IsSearchOver rows start new after (IsLeftFrom x (i + 1)) × (label_in new x ≡ Some c) × (work_left new after ≤ work_left old before)
    offered g (inl kept) =
        let same : new ≡ old = kept.3 in
        let alike : after ≡ before = kept.4 in
        let found = passes-by (row_in rows) start (label_in old) (IsOpenIn before) x c i v p labelled edge (kept.0, kept.1, kept.2) g.found in
        let going : IsSearchOver rows start old before (IsLeftFrom x (i + 1)) = record { found = found; all = g.all; small = g.small } in (
          subst (λ (ls : List (Option ℕ)). IsSearchOver rows start ls after (IsLeftFrom x (i + 1))) (sym same) (subst (λ (es : List (ℕ × ℕ)). IsSearchOver rows start old es (IsLeftFrom x (i + 1))) (sym alike) going),
          ap (λ (ls : List (Option ℕ)). label_in ls x) same ∙ labelled,
          subst (λ n. n ≤ work_left old before) (ap (λ (ls : List (Option ℕ)). work_left ls before) (sym same) ∙ ap (λ (es : List (ℕ × ℕ)). work_left new es) (sym alike)) (omega arith),
        )
    offered g (inr fell) =
        (record { found = found.0; all = length_is ∙ g.all; small = λ y d e. small y d e (cases_eq y v) }, found.1, work)
      where
        lower : (label : ℕ) → label_in old v ≡ Some label → c + p < label
        lower = fell.0

        is : new ≡ slice_set old v (Some (c + p))
        is = fell.1

        row : (v < length rows) × (1 ≤ p) × (p ≤ most_price)
        row = are x i v p edge

        below : v < length old
        below = omega (arith, row.0, g.all)

        length_is : length new ≡ length old
        length_is = ap length is ∙ length-set old v (Some (c + p))

        now : label_in new v ≡ Some (c + p)
        now = ap (λ (ls : List (Option ℕ)). label_in ls v) is ∙ get_or-set_same old v (Some (c + p)) None below

        others : (y : ℕ) → (y ≡ v → ⊥) → label_in new y ≡ label_in old y
        others y other = ap (λ (ls : List (Option ℕ)). label_in ls y) is ∙ get_or-set_other old v y (Some (c + p)) None other

        found : IsSearch (row_in rows) start (label_in new) (IsOpenIn after) (IsLeftFrom x (i + 1)) × (label_in new x ≡ Some c)
        found =
            lowers (row_in rows) start (label_in old) (label_in new) v (c + p) now others lower (IsOpenIn before) (IsOpenIn after) x c i p labelled edge refl row.1
            (λ u d h. fell.2.kept (d, u) h) fell.2.there g.found

        -- the number of labels
        counted : sum_by one_if_labelled new + one_if_labelled (label_in old v) ≡ sum_by one_if_labelled old + 1
        counted = ap (λ (ls : List (Option ℕ)). sum_by one_if_labelled ls + one_if_labelled (label_in old v)) is ∙ sum_by-set one_if_labelled old v (Some (c + p)) None below

        at_hand : c + most_price ≤ most_price * sum_by one_if_labelled old
        at_hand = g.small x c labelled

        offer_small : (o : Option ℕ) → label_in old v ≡ o → c + p + most_price ≤ most_price * sum_by one_if_labelled new
        offer_small None e = omega (arith, subst (λ o. sum_by one_if_labelled new + one_if_labelled o ≡ sum_by one_if_labelled old + 1) e counted, at_hand, row.2)
        offer_small (Some l) e = omega (arith, subst (λ o. sum_by one_if_labelled new + one_if_labelled o ≡ sum_by one_if_labelled old + 1) e counted, g.small v l e, lower l e)

        more : (o : Option ℕ) → label_in old v ≡ o → sum_by one_if_labelled old ≤ sum_by one_if_labelled new
        more None e = omega (arith, subst (λ o. sum_by one_if_labelled new + one_if_labelled o ≡ sum_by one_if_labelled old + 1) e counted)
        more (Some l) e = omega (arith, subst (λ o. sum_by one_if_labelled new + one_if_labelled o ≡ sum_by one_if_labelled old + 1) e counted)

        small : (y d : ℕ) → label_in new y ≡ Some d → (y ≡ v) ⊎ (y ≡ v → ⊥) → d + most_price ≤ most_price * sum_by one_if_labelled new
        small y d e (inl same) =
            let d_is : c + p ≡ d = same_Some (c + p) d (sym now ∙ subst (λ z. label_in new z ≡ Some d) same e) in
            omega (arith, offer_small (label_in old v) refl, d_is)
        small y d e (inr other) = omega (arith, g.small y d (sym (others y other) ∙ e), more (label_in old v) refl)

        -- the work that is left
        sunk : sum_by (height_of (length old)) new + height_of (length old) (label_in old v) ≡ height old + (c + p)
        sunk = ap (λ (ls : List (Option ℕ)). sum_by (height_of (length old)) ls + height_of (length old) (label_in old v)) is ∙ sum_by-set (height_of (length old)) old v (Some (c + p)) None below

        higher : (o : Option ℕ) → label_in old v ≡ o → c + p < height_of (length old) o
        higher None e = omega (arith, small-offer old x c p g.small labelled row.2)
        higher (Some l) e = lower l e

        height_is : height new ≡ sum_by (height_of (length old)) new
        height_is = ap (λ n. sum_by (height_of n) new) length_is

        work : work_left new after ≤ work_left old before
        work = omega (arith, sunk, higher (label_in old v) refl, height_is, fell.2.one)

-- The edges of one vertex

-- before the first one
pub look-begin : (rows : List (List (ℕ × ℕ))) (v label : ℕ) (labels : List (Option ℕ)) (entries : List (ℕ × ℕ)) → label_in labels v ≡ Some label → IsLooking rows v label 0 labels labels entries entries
look-begin rows v label labels entries e = record { going = λ start g. g; labelled = e; less = omega arith }

-- one more
pub look-one : (rows : List (List (ℕ × ℕ))) (are : AreRows rows) (x c i : ℕ) (old new newer : List (Option ℕ)) (before after later : List (ℕ × ℕ)) (v p : ℕ) → slice_get (row_in rows x) i ≡ Some (v, p)
    → (start : ℕ) × IsSearchOver rows start old before (IsLeftFrom x 0) → IsOffered v (c + p) new newer after later → IsLooking rows x c i old new before after → IsLooking rows x c (i + 1) old newer before later
look-one rows are x c i old new newer before after later v p edge some offer so-far =
    let one = offered rows some.0 are new newer after later x c i v p so-far.labelled edge (so-far.going some.0 some.1) offer in
    record {
      going = λ start g. (offered rows start are new newer after later x c i v p so-far.labelled edge (so-far.going start g) offer).0;
      labelled = one.1;
      less = omega (arith, one.2, so-far.less);
    }

-- after the last one
pub look-end : (rows : List (List (ℕ × ℕ))) (x c i : ℕ) (old new : List (Option ℕ)) (before after : List (ℕ × ℕ)) → length (row_in rows x) ≤ i → IsLooking rows x c i old new before after
    → (start : ℕ) → IsSearchOver rows start old before (IsLeftFrom x 0) → IsSearchOver rows start new after IsNoneLeft
look-end rows x c i old new before after all so-far start g =
    let h = so-far.going start g in
    record { found = ends-row (row_in rows) start (label_in new) (IsOpenIn after) x i all h.found; all = h.all; small = h.small }
