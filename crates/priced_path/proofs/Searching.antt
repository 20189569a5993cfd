-- Each step of a search for least prices. The order in which open vertices are taken plays no part.
-- Used by Going.
use Rattle.std.proofs.Common.{◌≡◌, ◌≤◌, ◌<◌, ◌+◌, ℕ, sym, ap, subst, ◌∙◌, List, Option, Some, None, ◌⊎◌, inl, inr, arith, slice_get, length}
use Rattle.std.proofs.lemmas.Bool.{cases_eq}
use Rattle.std.proofs.lemmas.Option.{same_Some, slice_get_within}
use Rattle.program_defs.specs.Labels.{IsLabelledWithin, IsCertificate}
use Rattle.priced_path.specs.Searches.{IsNoneLeft, IsLeftFrom, HasParent, IsSearch}

module _ (edges_at : ℕ → List (ℕ × ℕ)) (start : ℕ) where
  -- at first the start alone has a label, and is open
  pub begins : (label : ℕ → Option ℕ) (IsOpen : ℕ → ℕ → Type 0) → label start ≡ Some 0 → ((v : ℕ) → (v ≡ start → ⊥) → label v ≡ None) → IsOpen start 0 → IsSearch edges_at start label IsOpen IsNoneLeft
  begins label IsOpen at others opened =
      record {
        begin = at;
        parent = λ v d e other. let none = others v other in cc;
        done = λ u d k w p e hop. is u d e (cases_eq u start);
      }
    where
      is : {P : Type 0} (u d : ℕ) → label u ≡ Some d → (u ≡ start) ⊎ (u ≡ start → ⊥) → IsOpen u d ⊎ P
      is u d e (inl same) =
          let zero : 0 ≡ d = same_Some 0 d (sym at ∙ subst (λ x. label x ≡ Some d) same e) in
          inl (subst (λ x. IsOpen x d) (sym same) (subst (λ x. IsOpen start x) zero opened))
      is u d e (inr other) = let none = others u other in cc

  -- a vertex is taken whose label is that with which it was open: all its edges are left
  pub takes : (label : ℕ → Option ℕ) (IsOpen IsOpen' : ℕ → ℕ → Type 0) (x c : ℕ) → ((u d : ℕ) → IsOpen u d → IsOpen' u d ⊎ ((u ≡ x) × (d ≡ c)))
      → IsSearch edges_at start label IsOpen IsNoneLeft → IsSearch edges_at start label IsOpen' (IsLeftFrom x 0)
  takes label IsOpen IsOpen' x c rest s =
      record {
        begin = s.begin;
        parent = s.parent;
        done = λ u d k w p e hop. is u d k w p (s.done u d k w p e hop);
      }
    where
      is : (u d k w p : ℕ) → IsOpen u d ⊎ (IsLabelledWithin label w (d + p) ⊎ ⊥) → IsOpen' u d ⊎ (IsLabelledWithin label w (d + p) ⊎ IsLeftFrom x 0 u k)
      is u d k w p (inl opened) = kept (rest u d opened)
        where
          kept : IsOpen' u d ⊎ ((u ≡ x) × (d ≡ c)) → IsOpen' u d ⊎ (IsLabelledWithin label w (d + p) ⊎ IsLeftFrom x 0 u k)
          kept (inl still) = inl still
          kept (inr this) = inr (inr (this.0, omega arith))
      is u d k w p (inr (inl within)) = inr (inl within)
      is u d k w p (inr (inr none)) = absurd none

  -- a vertex is taken that has another label by now: nothing is to be done
  pub skips : (label : ℕ → Option ℕ) (IsOpen IsOpen' : ℕ → ℕ → Type 0) (x c : ℕ) → ((u d : ℕ) → IsOpen u d → IsOpen' u d ⊎ ((u ≡ x) × (d ≡ c))) → (label x ≡ Some c → ⊥)
      → IsSearch edges_at start label IsOpen IsNoneLeft → IsSearch edges_at start label IsOpen' IsNoneLeft
  skips label IsOpen IsOpen' x c rest stale s =
      record {
        begin = s.begin;
        parent = s.parent;
        done = λ u d k w p e hop. is u d k w p e (s.done u d k w p e hop);
      }
    where
      is : (u d k w p : ℕ) → label u ≡ Some d → IsOpen u d ⊎ (IsLabelledWithin label w (d + p) ⊎ ⊥) → IsOpen' u d ⊎ (IsLabelledWithin label w (d + p) ⊎ ⊥)
      is u d k w p e (inl opened) = kept (rest u d opened)
        where
          kept : IsOpen' u d ⊎ ((u ≡ x) × (d ≡ c)) → IsOpen' u d ⊎ (IsLabelledWithin label w (d + p) ⊎ ⊥)
          kept (inl still) = inl still
          kept (inr this) = absurd (stale (subst (λ y. label y ≡ Some c) this.0 (e ∙ ap Some this.1)))
      is u d k w p e (inr (inl within)) = inr (inl within)
      is u d k w p e (inr (inr none)) = absurd none

  -- an edge of the vertex at hand to one whose label is no greater than the offered price: one edge less is left
  pub passes-by : (label : ℕ → Option ℕ) (IsOpen : ℕ → ℕ → Type 0) (x c i v p : ℕ) → label x ≡ Some c → slice_get (edges_at x) i ≡ Some (v, p) → IsLabelledWithin label v (c + p)
      → IsSearch edges_at start label IsOpen (IsLeftFrom x i) → IsSearch edges_at start label IsOpen (IsLeftFrom x (i + 1))
  passes-by label IsOpen x c i v p at hop within s =
      record {
        begin = s.begin;
        parent = s.parent;
        done = λ u d k w q e edge. is u d k w q e edge (s.done u d k w q e edge);
      }
    where
      is : (u d k w q : ℕ) → label u ≡ Some d → slice_get (edges_at u) k ≡ Some (w, q) → IsOpen u d ⊎ (IsLabelledWithin label w (d + q) ⊎ IsLeftFrom x i u k) → IsOpen u d ⊎ (IsLabelledWithin label w (d + q) ⊎ IsLeftFrom x (i + 1) u k)
      is u d k w q e edge (inl opened) = inl opened
      is u d k w q e edge (inr (inl near)) = inr (inl near)
      is u d k w q e edge (inr (inr left)) = this (cases_eq k i)
        where
          this : (k ≡ i) ⊎ (k ≡ i → ⊥) → IsOpen u d ⊎ (IsLabelledWithin label w (d + q) ⊎ IsLeftFrom x (i + 1) u k)
          this (inr later) = inr (inr (left.0, omega (arith, left.1, later)))
          this (inl same) =
              let d_is : d ≡ c = same_Some d c (sym e ∙ subst (λ y. label y ≡ Some c) (sym left.0) at) in
              let one : ◌≡◌ {A = Option (ℕ × ℕ)} (Some (w, q)) (Some (v, p)) = sym edge ∙ subst (λ y. slice_get (edges_at y) k ≡ Some (v, p)) (sym left.0) (subst (λ j. slice_get (edges_at x) j ≡ Some (v, p)) (sym same) hop) in
              let pairs : ◌≡◌ {A = ℕ × ℕ} (w, q) (v, p) = cc in
              inr (inl (within.0, subst (λ y. label y ≡ Some within.0) (sym (ap (λ r. r.0) pairs)) within.1, omega (arith, within.2, d_is, ap (λ r. r.1) pairs)))

  module _ (label label' : ℕ → Option ℕ) (v n : ℕ) (now : label' v ≡ Some n) (others : (y : ℕ) → (y ≡ v → ⊥) → label' y ≡ label y) (lower : (old : ℕ) → label v ≡ Some old → n < old) where
    -- a lower label keeps a vertex within a price
    within-still : (w most : ℕ) → IsLabelledWithin label w most → IsLabelledWithin label' w most
    within-still w most h = is (cases_eq w v)
      where
        is : (w ≡ v) ⊎ (w ≡ v → ⊥) → IsLabelledWithin label' w most
        is (inl same) = (n, subst (λ y. label' y ≡ Some n) (sym same) now, omega (arith, h.2, lower h.0 (subst (λ y. label y ≡ Some h.0) same h.1)))
        is (inr other) = (h.0, others w other ∙ h.1, h.2)

    parent-still : (y d : ℕ) → HasParent edges_at start label y d → HasParent edges_at start label' y d
    parent-still y d h =
        let near = within-still h.before h.at (h.at, h.labelled, omega arith) in
        record { before = h.before; at = near.0; place = h.place; price = h.price; labelled = near.1; edge = h.edge; sum = omega (arith, near.2, h.sum) }

    -- an edge of the vertex at hand to one with a greater label, or none: it gets the offered price, and is open
    pub lowers : (IsOpen IsOpen' : ℕ → ℕ → Type 0) (x c i p : ℕ) → label x ≡ Some c → slice_get (edges_at x) i ≡ Some (v, p) → n ≡ c + p → 1 ≤ p
        → ((u d : ℕ) → IsOpen u d → IsOpen' u d) → IsOpen' v n
        → IsSearch edges_at start label IsOpen (IsLeftFrom x i) → IsSearch edges_at start label' IsOpen' (IsLeftFrom x (i + 1)) × (label' x ≡ Some c)
    lowers IsOpen IsOpen' x c i p at hop sum positive kept opened s = (
      record {
        begin = others start (λ same. absurd (omega (arith, lower 0 (subst (λ y. label y ≡ Some 0) same s.begin)))) ∙ s.begin;
        parent = λ y d e other. has y d e other (cases_eq y v);
        done = λ u d k w q e edge. is u d k w q e edge (cases_eq u v);
      },
      x_still,
    )
      where
        apart : x ≡ v → ⊥
        apart same = omega (arith, lower c (subst (λ y. label y ≡ Some c) same at), sum)

        x_still : label' x ≡ Some c
        x_still = others x apart ∙ at

        has : (y d : ℕ) → label' y ≡ Some d → (y ≡ start → ⊥) → (y ≡ v) ⊎ (y ≡ v → ⊥) → HasParent edges_at start label' y d
        has y d e other (inl same) =
            let d_is : d ≡ n = same_Some d n (sym e ∙ subst (λ z. label' z ≡ Some n) (sym same) now) in
            record { before = x; at = c; place = i; price = p; labelled = x_still; edge = subst (λ z. slice_get (edges_at x) i ≡ Some (z, p)) (sym same) hop; sum = omega (arith, d_is, sum) }
        has y d e other (inr apart_y) = parent-still y d (s.parent y d (sym (others y apart_y) ∙ e) other)

        is : (u d k w q : ℕ) → label' u ≡ Some d → slice_get (edges_at u) k ≡ Some (w, q) → (u ≡ v) ⊎ (u ≡ v → ⊥) → IsOpen' u d ⊎ (IsLabelledWithin label' w (d + q) ⊎ IsLeftFrom x (i + 1) u k)
        is u d k w q e edge (inl same) =
            let d_is : n ≡ d = same_Some n d (sym (subst (λ z. label' z ≡ Some n) (sym same) now) ∙ e) in
            inl (subst (λ z. IsOpen' z d) (sym same) (subst (λ z. IsOpen' v z) d_is opened))
        is u d k w q e edge (inr other) = old (s.done u d k w q (sym (others u other) ∙ e) edge)
          where
            old : IsOpen u d ⊎ (IsLabelledWithin label w (d + q) ⊎ IsLeftFrom x i u k) → IsOpen' u d ⊎ (IsLabelledWithin label' w (d + q) ⊎ IsLeftFrom x (i + 1) u k)
            old (inl was) = inl (kept u d was)
            old (inr (inl near)) = inr (inl (within-still w (d + q) near))
            old (inr (inr left)) = this (cases_eq k i)
              where
                this : (k ≡ i) ⊎ (k ≡ i → ⊥) → IsOpen' u d ⊎ (IsLabelledWithin label' w (d + q) ⊎ IsLeftFrom x (i + 1) u k)
                this (inr later) = inr (inr (left.0, omega (arith, left.1, later)))
                this (inl same) =
                    let d_is : d ≡ c = same_Some d c (sym e ∙ subst (λ y. label' y ≡ Some c) (sym left.0) x_still) in
                    let one : ◌≡◌ {A = Option (ℕ × ℕ)} (Some (w, q)) (Some (v, p)) = sym edge ∙ subst (λ y. slice_get (edges_at y) k ≡ Some (v, p)) (sym left.0) (subst (λ j. slice_get (edges_at x) j ≡ Some (v, p)) (sym same) hop) in
                    let pairs : ◌≡◌ {A = ℕ × ℕ} (w, q) (v, p) = cc in
                    inr (inl (n, subst (λ y. label' y ≡ Some n) (sym (ap (λ r. r.0) pairs)) now, omega (arith, d_is, sum, ap (λ r. r.1) pairs)))

  -- no edge of the vertex at hand is left
  pub ends-row : (label : ℕ → Option ℕ) (IsOpen : ℕ → ℕ → Type 0) (x i : ℕ) → length (edges_at x) ≤ i → IsSearch edges_at start label IsOpen (IsLeftFrom x i) → IsSearch edges_at start label IsOpen IsNoneLeft
  ends-row label IsOpen x i all s =
      record {
        begin = s.begin;
        parent = s.parent;
        done = λ u d k w p e hop. is u d k w p hop (s.done u d k w p e hop);
      }
    where
      is : (u d k w p : ℕ) → slice_get (edges_at u) k ≡ Some (w, p) → IsOpen u d ⊎ (IsLabelledWithin label w (d + p) ⊎ IsLeftFrom x i u k) → IsOpen u d ⊎ (IsLabelledWithin label w (d + p) ⊎ ⊥)
      is u d k w p hop (inl opened) = inl opened
      is u d k w p hop (inr (inl near)) = inr (inl near)
      is u d k w p hop (inr (inr left)) =
          let below = slice_get_within (edges_at x) k (w, p) (subst (λ y. slice_get (edges_at y) k ≡ Some (w, p)) left.0 hop) in
          absurd (omega (arith, below, all, left.1))

  -- when none is open any more, the labels are a certificate
  pub ends : (label : ℕ → Option ℕ) (IsOpen : ℕ → ℕ → Type 0) → ((u d : ℕ) → IsOpen u d → ⊥) → IsSearch edges_at start label IsOpen IsNoneLeft → IsCertificate edges_at start label
  ends label IsOpen none s =
      record {
        begin = s.begin;
        onward = onward;
        met = λ v d e other.
            let h = s.parent v d e other in
            let near = onward h.before h.at h.place v h.price h.labelled h.edge in
            (h.before, h.at, h.place, h.price, h.labelled, h.edge, omega (arith, h.sum, near.2, same_Some near.0 d (sym near.1 ∙ e)));
      }
    where
      onward : (u d k w p : ℕ) → label u ≡ Some d → slice_get (edges_at u) k ≡ Some (w, p) → IsLabelledWithin label w (d + p)
      onward u d k w p e hop = is (s.done u d k w p e hop)
        where
          is : IsOpen u d ⊎ (IsLabelledWithin label w (d + p) ⊎ ⊥) → IsLabelledWithin label w (d + p)
          is (inl opened) = absurd (none u d opened)
          is (inr (inl near)) = near
          is (inr (inr no_left)) = absurd no_left
