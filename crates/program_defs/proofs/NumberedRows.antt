-- The labels of numbered vertices are certified bounds.
-- Used by `walk_over`, Proving, WalkBack and crate priced_path.
use Rattle.std.proofs.Common.{◌≡◌, ◌<◌, ◌≤◌, ◌+◌, ℕ, zero, suc, true, false, refl, sym, ap, subst, ◌∙◌, List, [], ◌∷◌, length, Option, Some, None, slice_get, IsTrue, inl, inr, arith}
use Rattle.std.specs.Ordering.{is_lt, is_le}
use Rattle.std.proofs.lemmas.Bool.{and_parts, and_from, both_ways, cases_lt, cases_order}
use Rattle.std.proofs.lemmas.Cmp.{nat_list_cmp_total, tied_itself}
use Rattle.std.proofs.lemmas.List.{get_or_past}
use Rattle.weave_data.specs.Names.{name_cmp, same_name}
use Rattle.weave_data.specs.declared.name.Name.{Name}
use Rattle.graph_ops.specs.PlainGraph.{PlainGraph}
use Rattle.graph_ops.proofs.Vertices.{same_name-refl}
use Rattle.program_defs.specs.Labels.{IsCertificate, label_in, row_in, bounds_of, AreRowsOf, listed_names}
use Rattle.program_defs.specs.Parents.{MeetsAt, AreParents, IsSeenBefore}
use Rattle.program_defs.specs.PriceTests.{Meets, IsLeastMeeting, AreCertified}
use Rattle.program_defs.specs.PricedAnswer.{bound_at}
use Rattle.program_defs.specs.Prices.{priced_edges, HasEdge}
use Rattle.program_defs.specs.Rising.{is_rising}
use Rattle.program_defs.proofs.Certified.{listed-some}
use Rattle.program_defs.proofs.BoundLists.{HasBound, has-of-at, at-of-has, is-less}
use Rattle.program_defs.proofs.Placing.{in-order, one-number, rest-rises}

-- a vertex with a label is in the table
pub in-table : (labels : List (Option ℕ)) (v d : ℕ) → label_in labels v ≡ Some d → v < length labels
in-table labels v d e =
    elim (cases_lt v (length labels)) [
      | inl below ↦ below
      | inr past ↦ let none = get_or_past labels v None past in cc
    ]

-- a bound is the label of a numbered vertex
bound-is : (vertices : List Name) (labels : List (Option ℕ)) (v : Name) (d : ℕ) → HasBound (bounds_of vertices labels) v d → (i : ℕ) × (slice_get vertices i ≡ Some v) × (label_in labels i ≡ Some d)
bound-is [] labels v d h = absurd h
bound-is (w ∷ vertices) [] v d h = absurd h
bound-is (w ∷ vertices) (None ∷ labels) v d h = let m = bound-is vertices labels v d h in (suc m.0, m.1, m.2)
bound-is (w ∷ vertices) (Some e ∷ labels) v d (inl here) = (0, ap Some here.0, ap Some here.1)
bound-is (w ∷ vertices) (Some e ∷ labels) v d (inr there) = let m = bound-is vertices labels v d there in (suc m.0, m.1, m.2)

is-bound : (vertices : List Name) (labels : List (Option ℕ)) (i : ℕ) (v : Name) (d : ℕ) → slice_get vertices i ≡ Some v → label_in labels i ≡ Some d → HasBound (bounds_of vertices labels) v d
is-bound [] labels i v d e l = cc
is-bound (w ∷ vertices) [] i v d e l = cc
is-bound (w ∷ vertices) (None ∷ labels) zero v d e l = cc
is-bound (w ∷ vertices) (Some c ∷ labels) zero v d e l = let same : w ≡ v = cc in let alike : c ≡ d = cc in inl (same, alike)
is-bound (w ∷ vertices) (None ∷ labels) (suc i) v d e l = is-bound vertices labels i v d e l
is-bound (w ∷ vertices) (Some c ∷ labels) (suc i) v d e l = inr (is-bound vertices labels i v d e l)

-- they rise as the vertices do
drop-second : (x v : Name) (rest : List Name) → is_rising (x ∷ v ∷ rest) ≡ true → is_rising (x ∷ rest) ≡ true
drop-second x v [] h = refl
drop-second x v (w ∷ rest) h =
    let a = and_parts _ _ h in
    let b = and_parts _ _ a.1 in
    and_from _ _ (ap is_lt (nat_list_cmp_total.trans x v w (is-less _ a.0) (is-less _ b.0))) b.1

rises-after : (x : Name) (vertices : List Name) (labels : List (Option ℕ)) → is_rising (x ∷ vertices) ≡ true → is_rising (x ∷ listed_names (bounds_of vertices labels)) ≡ true
rises-after x [] labels h = refl
rises-after x (v ∷ vertices) [] h = refl
rises-after x (v ∷ vertices) (None ∷ labels) h = rises-after x vertices labels (drop-second x v vertices h)
rises-after x (v ∷ vertices) (Some d ∷ labels) h = let a = and_parts _ _ h in and_from _ _ a.0 (rises-after v vertices labels a.1)

rises : (vertices : List Name) (labels : List (Option ℕ)) → is_rising vertices ≡ true → is_rising (listed_names (bounds_of vertices labels)) ≡ true
rises [] labels h = refl
rises (v ∷ vertices) [] h = refl
rises (v ∷ vertices) (None ∷ labels) h = rises vertices labels (rest-rises v vertices h)
rises (v ∷ vertices) (Some d ∷ labels) h = rises-after v vertices labels h

-- each number is of a vertex
pub named : (vertices : List Name) (i : ℕ) → i < length vertices → (v : Name) × (slice_get vertices i ≡ Some v)
named [] i l = absurd (omega (arith, l))
named (v ∷ vertices) zero l = (v, refl)
named (v ∷ vertices) (suc i) l = named vertices i (omega (arith, l))

module _ (vertices : List Name) (rising : is_rising vertices ≡ true) (labels : List (Option ℕ)) where
  -- a bound is the label of the vertex
  pub found : (v : Name) (d : ℕ) → bound_at (bounds_of vertices labels) v ≡ Some d → (i : ℕ) × (slice_get vertices i ≡ Some v) × (label_in labels i ≡ Some d)
  found v d e = bound-is vertices labels v d (has-of-at (bounds_of vertices labels) v d e)

  -- and each label is a bound
  pub listed : (i : ℕ) (v : Name) (d : ℕ) → slice_get vertices i ≡ Some v → label_in labels i ≡ Some d → bound_at (bounds_of vertices labels) v ≡ Some d
  listed i v d e l = at-of-has (bounds_of vertices labels) (rises vertices labels rising) v d (is-bound vertices labels i v d e l)

module _ (graph : PlainGraph) (key from : Name) (vertices : List Name) (rows : List (List (ℕ × ℕ))) (labels : List (Option ℕ)) (start : ℕ)
    (numbered : AreRowsOf graph key vertices rows) (begin : slice_get vertices start ≡ Some from) (all : length labels ≡ length vertices) (cert : IsCertificate (row_in rows) start (label_in labels)) where
  -- the labels are certified bounds
  pub certified : AreCertified graph key from (bounds_of vertices labels)
  certified =
      record {
        rising = rises vertices labels numbered.rising;
        present = λ v h. let d = listed-some _ h in let f = found vertices numbered.rising labels v d.0 d.1 in numbered.present f.0 v f.1;
        start = listed vertices numbered.rising labels start from 0 begin cert.begin ∙ rw (numbered.present start from begin) refl;
        onward = λ u v d price e edge there.
            let f = found vertices numbered.rising labels u d e in
            let a = numbered.all f.0 price u v f.1 edge there in
            let near = cert.onward f.0 d a.1 a.0 price f.2 a.3 in
            (near.0, listed vertices numbered.rising labels a.0 v near.0 a.2 near.1, near.2);
        met = λ v h other.
            let d = listed-some _ h in
            let f = found vertices numbered.rising labels v d.0 d.1 in
            let m = cert.met f.0 d.0 f.2 (λ same. apart v f.0 f.1 other same) in
            let n = named vertices m.0 (omega (arith, in-table labels m.0 m.1 m.4, all)) in
            let w = numbered.edges m.0 m.2 f.0 m.3 n.0 n.1 m.5 in
            let same : w.0 ≡ v = some-one w.0 v (sym w.1 ∙ f.1) in
            (n.0, record { start = m.1; price = m.3; end = d.0; listed = listed vertices numbered.rising labels m.0 n.0 m.1 n.1 m.4; edge = subst (λ x. HasEdge (priced_edges key (graph n.0)) x m.3) same w.2; target = d.1; sum = m.6 });
      }
    where
      some-one : (a b : Name) → Some a ≡ Some b → a ≡ b
      some-one a b e = cc

      apart : (v : Name) (i : ℕ) → slice_get vertices i ≡ Some v → same_name from v ≡ false → i ≡ start → ⊥
      apart v i e other same =
          let is : from ≡ v = some-one from v (sym begin ∙ subst (λ j. slice_get vertices j ≡ Some v) same e) in
          both_ways _ other (subst (λ w. same_name from w ≡ true) is (same_name-refl from))

  -- The parents

  -- the parent of a vertex by numbers is the least name that meets its bound
  pub parent-least : (parents : List (Option ℕ)) (last : ℕ) → length labels ≡ length rows → AreParents rows labels (IsSeenBefore (length rows)) last parents → (i u : ℕ) (v : Name) → slice_get vertices i ≡ Some v → label_in parents i ≡ Some u
      → (w : Name) × (slice_get vertices u ≡ Some w) × IsLeastMeeting graph key from (bounds_of vertices labels) w v
  parent-least parents last rows_all are i u v e p =
      let m = are.meets i u p in
      let n = named vertices u (omega (arith, in-table labels u m.1.start m.1.labelled, all)) in (
        n.0,
        n.1,
        record {
          meets = meets-name u m.0 i n.0 v n.1 e m.1;
          least = λ other o.
              let f = found vertices numbered.rising labels other o.start o.listed in
              let t = found vertices numbered.rising labels v o.end o.target in
              let ti : t.0 ≡ i = one-number vertices numbered.rising t.0 i v t.1 e in
              let a = numbered.all f.0 o.price other v f.1 o.edge (numbered.present i v e) in
              let ai : a.0 ≡ i = one-number vertices numbered.rising a.0 i v a.2 e in
              let at : MeetsAt rows labels f.0 a.1 i = record { start = o.start; price = o.price; edge = subst (λ k. slice_get (row_in rows f.0) a.1 ≡ Some (k, o.price)) ai a.3; labelled = f.2; target = subst (λ k. label_in labels k ≡ Some o.end) ti t.2 ∙ ap Some o.sum } in
              let l = are.least f.0 a.1 i (omega (arith, in-table labels f.0 o.start f.2, rows_all)) at in
              let is : l.0 ≡ u = some-number l.0 u (sym l.1 ∙ p) in
              no-later u f.0 n.0 other n.1 f.1 (omega (arith, l.2, is));
        },
      )
    where
      some-name : (a b : Name) → Some a ≡ Some b → a ≡ b
      some-name a b s = cc

      some-number : (a b : ℕ) → Some a ≡ Some b → a ≡ b
      some-number a b s = cc

      meets-name : (u place i : ℕ) (w v : Name) → slice_get vertices u ≡ Some w → slice_get vertices i ≡ Some v → MeetsAt rows labels u place i → Meets graph key from (bounds_of vertices labels) w v
      meets-name u place i w v at_u at_i m =
          let x = numbered.edges u place i m.price w at_u m.edge in
          let is : x.0 ≡ v = some-name x.0 v (sym x.1 ∙ at_i) in
          record { start = m.start; price = m.price; end = m.start + m.price; listed = listed vertices numbered.rising labels u w m.start at_u m.labelled; edge = subst (λ y. HasEdge (priced_edges key (graph w)) y m.price) is x.2; target = listed vertices numbered.rising labels i v (m.start + m.price) at_i m.target; sum = refl }

      no-later : (a b : ℕ) (w x : Name) → slice_get vertices a ≡ Some w → slice_get vertices b ≡ Some x → a ≤ b → IsTrue (is_le (name_cmp w x))
      no-later a b w x f g le =
          elim (cases_order a b) [
            | inl same ↦ subst (λ y. IsTrue (is_le (name_cmp w y))) (some-name w x (sym f ∙ subst (λ k. slice_get vertices k ≡ Some x) (sym same) g)) (ap is_le (tied_itself nat_list_cmp_total w))
            | inr (inl less) ↦ ap is_le (in-order vertices a b w x numbered.rising less f g)
            | inr (inr more) ↦ absurd (omega (arith, more, le))
          ]
