-- Each step of looking for the parents.
-- Used by `are_onward`, `least_parents`, `note_row` and crate priced_path.
use Rattle.std.proofs.Common.{◌≡◌, ◌≤◌, ◌<◌, ◌+◌, ℕ, sym, ap, subst, ◌∙◌, List, length, Option, Some, None, ◌⊎◌, inl, inr, arith, zero, suc, [], ◌∷◌, ◌++◌, refl, take, drop, take_at, slice_get, slice_index_or, get_or-set_same, get_or-set_other}
use Rattle.std.proofs.lemmas.Bool.{cases_eq}
use Rattle.std.proofs.lemmas.List.{get_or_default}
use Rattle.std.proofs.lemmas.Option.{same_Some, slice_get_within}
use Rattle.program_defs.specs.Labels.{label_in, row_in}
use Rattle.program_defs.specs.Parents.{MeetsAt, AreParents, IsNoted, IsSeenTo, IsSeenBefore}

module _ (rows : List (List (ℕ × ℕ))) (labels : List (Option ℕ)) where
  -- nothing was looked at
  pub none-yet : (parents : List (Option ℕ)) → ((v : ℕ) → label_in parents v ≡ None) → AreParents rows labels (IsSeenBefore 0) 0 parents
  none-yet parents none =
      record {
        meets = λ v u e. let n = none v in cc;
        least = λ u k v seen m. absurd (omega (arith, seen));
        before = λ v u e. let n = none v in cc;
      }

  -- a row begins
  pub row-begin : (u last : ℕ) (parents : List (Option ℕ)) → last ≤ u → AreParents rows labels (IsSeenBefore u) last parents → AreParents rows labels (IsSeenTo u 0) u parents
  row-begin u last parents le a =
      record {
        meets = a.meets;
        least = λ x k v seen m. at x k v m seen;
        before = λ v w e. omega (arith, a.before v w e, le);
      }
    where
      at : (x k v : ℕ) → MeetsAt rows labels x k v → IsSeenTo u 0 x k → (w : ℕ) × (label_in parents v ≡ Some w) × (w ≤ x)
      at x k v m (inl before) = a.least x k v before m
      at x k v m (inr this) = absurd (omega (arith, this.1))

  -- a row ends
  pub row-end : (u i : ℕ) (parents : List (Option ℕ)) → length (row_in rows u) ≤ i → AreParents rows labels (IsSeenTo u i) u parents → AreParents rows labels (IsSeenBefore (u + 1)) u parents
  row-end u i parents all a =
      record {
        meets = a.meets;
        least = λ x k v seen m. at x k v m seen (cases_eq x u);
        before = a.before;
      }
    where
      at : (x k v : ℕ) → MeetsAt rows labels x k v → x < u + 1 → (x ≡ u) ⊎ (x ≡ u → ⊥) → (w : ℕ) × (label_in parents v ≡ Some w) × (w ≤ x)
      at x k v m seen (inl same) =
          let place = slice_get_within (row_in rows u) k (v, m.price) (subst (λ y. slice_get (row_in rows y) k ≡ Some (v, m.price)) same m.edge) in
          a.least x k v (inr (same, omega (arith, place, all))) m
      at x k v m seen (inr other) = a.least x k v (inl (omega (arith, seen, other))) m

  -- a row of a vertex with no label
  pub row-skips : (u last : ℕ) (parents : List (Option ℕ)) → last ≤ u → label_in labels u ≡ None → AreParents rows labels (IsSeenBefore u) last parents → AreParents rows labels (IsSeenBefore (u + 1)) u parents
  row-skips u last parents le none a =
      record {
        meets = a.meets;
        least = λ x k v seen m. at x k v m seen (cases_eq x u);
        before = λ v w e. omega (arith, a.before v w e, le);
      }
    where
      at : (x k v : ℕ) → MeetsAt rows labels x k v → x < u + 1 → (x ≡ u) ⊎ (x ≡ u → ⊥) → (w : ℕ) × (label_in parents v ≡ Some w) × (w ≤ x)
      at x k v m seen (inl same) = let l = subst (λ y. label_in labels y ≡ Some m.start) same m.labelled in cc
      at x k v m seen (inr other) = a.least x k v (omega (arith, seen, other)) m

  -- one edge
  pub noted : (u start i v price : ℕ) (old new : List (Option ℕ)) → label_in labels u ≡ Some start → slice_get (row_in rows u) i ≡ Some (v, price) → v < length old
      → IsNoted labels u start v price old new → AreParents rows labels (IsSeenTo u i) u old → AreParents rows labels (IsSeenTo u (i + 1)) u new
  noted u start i v price old new at edge below note a = by note
    where
      -- an edge that was seen is this one, or was seen before
      split : (x k : ℕ) → IsSeenTo u (i + 1) x k → IsSeenTo u i x k ⊎ ((x ≡ u) × (k ≡ i))
      split x k (inl before) = inl (inl before)
      split x k (inr this) = last (cases_eq k i)
        where
          last : (k ≡ i) ⊎ (k ≡ i → ⊥) → IsSeenTo u i x k ⊎ ((x ≡ u) × (k ≡ i))
          last (inl same) = inr (this.0, same)
          last (inr other) = inl (inr (this.0, omega (arith, this.1, other)))

      -- what meets through this edge
      this-one : (x k y : ℕ) → MeetsAt rows labels x k y → x ≡ u → k ≡ i → (y ≡ v) × (label_in labels v ≡ Some (start + price))
      this-one x k y m same place =
          let one : ◌≡◌ {A = Option (ℕ × ℕ)} (Some (y, m.price)) (Some (v, price)) = sym m.edge ∙ subst (λ z. slice_get (row_in rows z) k ≡ Some (v, price)) (sym same) (subst (λ j. slice_get (row_in rows u) j ≡ Some (v, price)) (sym place) edge) in
          let pairs : ◌≡◌ {A = ℕ × ℕ} (y, m.price) (v, price) = cc in
          let begun : m.start ≡ start = same_Some m.start start (sym m.labelled ∙ subst (λ z. label_in labels z ≡ Some start) (sym same) at) in
          let is : y ≡ v = ap (λ q. q.0) pairs in
          let cost : m.price ≡ price = ap (λ q. q.1) pairs in
          (is, subst (λ z. label_in labels z ≡ Some (start + price)) is (m.target ∙ ap Some (omega (arith, begun, cost))))

      by : IsNoted labels u start v price old new → AreParents rows labels (IsSeenTo u (i + 1)) u new
      by (inl apart) =
          subst (λ (ps : List (Option ℕ)). AreParents rows labels (IsSeenTo u (i + 1)) u ps) (sym apart.1)
          (record { meets = a.meets; least = λ x k y seen m. least x k y m (split x k seen); before = a.before })
        where
          least : (x k y : ℕ) → MeetsAt rows labels x k y → IsSeenTo u i x k ⊎ ((x ≡ u) × (k ≡ i)) → (w : ℕ) × (label_in old y ≡ Some w) × (w ≤ x)
          least x k y m (inl seen) = a.least x k y seen m
          least x k y m (inr this) = absurd (apart.0 ((this-one x k y m this.0 this.1).1))
      by (inr (inl has)) =
          subst (λ (ps : List (Option ℕ)). AreParents rows labels (IsSeenTo u (i + 1)) u ps) (sym has.2)
          (record { meets = a.meets; least = λ x k y seen m. least x k y m (split x k seen); before = a.before })
        where
          least : (x k y : ℕ) → MeetsAt rows labels x k y → IsSeenTo u i x k ⊎ ((x ≡ u) × (k ≡ i)) → (w : ℕ) × (label_in old y ≡ Some w) × (w ≤ x)
          least x k y m (inl seen) = a.least x k y seen m
          least x k y m (inr this) =
              let t = this-one x k y m this.0 this.1 in
              (has.0, subst (λ z. label_in old z ≡ Some has.0) (sym t.0) has.1, omega (arith, a.before v has.0 has.1, this.0))
      by (inr (inr new_one)) =
          record {
            meets = λ y w e. meets y w e (cases_eq y v);
            least = λ x k y seen m. least x k y m (split x k seen) (cases_eq y v);
            before = λ y w e. before y w e (cases_eq y v);
          }
        where
          now : label_in new v ≡ Some u
          now = ap (λ (ps : List (Option ℕ)). label_in ps v) new_one.2 ∙ get_or-set_same old v (Some u) None below

          others : (y : ℕ) → (y ≡ v → ⊥) → label_in new y ≡ label_in old y
          others y other = ap (λ (ps : List (Option ℕ)). label_in ps y) new_one.2 ∙ get_or-set_other old v y (Some u) None other

          is-u : (y w : ℕ) → label_in new y ≡ Some w → y ≡ v → w ≡ u
          is-u y w e same = same_Some w u (sym e ∙ subst (λ z. label_in new z ≡ Some u) (sym same) now)

          meets : (y w : ℕ) → label_in new y ≡ Some w → (y ≡ v) ⊎ (y ≡ v → ⊥) → (place : ℕ) × MeetsAt rows labels w place y
          meets y w e (inl same) =
              let this : MeetsAt rows labels u i v = record { start = start; price = price; edge = edge; labelled = at; target = new_one.0 } in
              (i, subst (λ z. MeetsAt rows labels z i y) (sym (is-u y w e same)) (subst (λ z. MeetsAt rows labels u i z) (sym same) this))
          meets y w e (inr other) = a.meets y w (sym (others y other) ∙ e)

          before : (y w : ℕ) → label_in new y ≡ Some w → (y ≡ v) ⊎ (y ≡ v → ⊥) → w ≤ u
          before y w e (inl same) = omega (arith, is-u y w e same)
          before y w e (inr other) = a.before y w (sym (others y other) ∙ e)

          least : (x k y : ℕ) → MeetsAt rows labels x k y → IsSeenTo u i x k ⊎ ((x ≡ u) × (k ≡ i)) → (y ≡ v) ⊎ (y ≡ v → ⊥) → (w : ℕ) × (label_in new y ≡ Some w) × (w ≤ x)
          least x k y m (inl seen) (inl same) =
              let was = a.least x k y seen m in
              let none : label_in old y ≡ None = subst (λ z. label_in old z ≡ None) (sym same) new_one.1 in
              let some = was.1 in cc
          least x k y m (inl seen) (inr other) = let was = a.least x k y seen m in (was.0, others y other ∙ was.1, was.2)
          least x k y m (inr this) by_name = (u, subst (λ z. label_in new z ≡ Some u) (sym ((this-one x k y m this.0 this.1).0)) now, omega (arith, this.0))

  -- no parent is after a later vertex either
  pub later : (u last next : ℕ) (parents : List (Option ℕ)) → last ≤ next → AreParents rows labels (IsSeenBefore u) last parents → AreParents rows labels (IsSeenBefore u) next parents
  later u last next parents le a = record { meets = a.meets; least = a.least; before = λ v w e. omega (arith, a.before v w e, le) }

-- Rows, and what is written back

-- an edge that is looked at is in its row
pub edge-at : (rows : List (List (ℕ × ℕ))) (v i : ℕ) (row items : List (ℕ × ℕ)) → v < length rows → row ≡ slice_index_or rows v row → items ≡ row → i < length items → slice_get (row_in rows v) i ≡ Some (slice_index_or items i (0, 0))
edge-at rows v i row items within is same below =
    let whole : row_in rows v ≡ items = get_or_default rows v [] row within ∙ sym is ∙ sym same in
    subst (λ (es : List (ℕ × ℕ)). slice_get es i ≡ Some (slice_index_or items i (0, 0))) (sym whole) (get-at items i below)
  where
    get-at : (xs : List (ℕ × ℕ)) (k : ℕ) → k < length xs → slice_get xs k ≡ Some (slice_index_or xs k (0, 0))
    get-at [] k l = absurd (omega (arith, l))
    get-at (x ∷ xs) zero l = refl
    get-at (x ∷ xs) (suc k) l = get-at xs k (omega (arith, l))

-- a row is what is looked at
pub row-of : (rows : List (List (ℕ × ℕ))) (v : ℕ) (row items : List (ℕ × ℕ)) → v < length rows → row ≡ slice_index_or rows v row → items ≡ row → row_in rows v ≡ items
row-of rows v row items within is same = get_or_default rows v [] row within ∙ sym is ∙ sym same

-- what is written back over a slice of a whole list is that slice
pub written-back : {A : Type 0} (new old : List A) (n : ℕ) → length new ≡ length old → length old ≡ n → take n (new ++ drop (length new) old) ≡ new
written-back new old n same all = take_at new (drop (length new) old) n (same ∙ all)
