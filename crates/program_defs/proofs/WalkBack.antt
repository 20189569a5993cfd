-- The walk over the parents of numbered vertices.
-- Used by `least_walk` and `walk_over`.
use Rattle.std.proofs.Common.{◌≡◌, ℕ, ◌+◌, refl, sym, ap, subst, ◌∙◌, List, [], ◌∷◌, ◌++◌, length, reverse, Option, Some, None, slice_get, slice_index_or, ◌⊎◌, inl, inr, arith}
use Rattle.std.proofs.lemmas.Bool.{cases_eq}
use Rattle.std.proofs.lemmas.List.{append_assoc, map-append}
use Rattle.std.proofs.lemmas.Option.{get_or_from_slice_get, same_Some, none-some}
use Rattle.weave_data.specs.declared.name.Name.{Name}
use Rattle.graph_ops.specs.PlainGraph.{PlainGraph}
use Rattle.program_defs.specs.Labels.{label_in, row_in, AreRows, AreRowsOf, bounds_of, IsCertificate}
use Rattle.program_defs.specs.Parents.{MeetsAt, AreParents, DoParentsFall, IsSeenBefore, LeadsBack, names_at}
use Rattle.program_defs.specs.PriceTests.{GoesBack, HasWalkBack}
use Rattle.program_defs.specs.PricedAnswer.{bound_at, IsPricedAnswer}
use Rattle.program_defs.proofs.Certified.{sound}
use Rattle.program_defs.proofs.NumberedRows.{certified, found, in-table, listed, parent-least}

-- a parent has a lower label than its vertex
pub parents-fall : (rows : List (List (ℕ × ℕ))) (labels : List (Option ℕ)) (IsSeen : ℕ → ℕ → Type 0) (last : ℕ) (parents : List (Option ℕ)) → AreRows rows → AreParents rows labels IsSeen last parents → DoParentsFall labels parents
parents-fall rows labels IsSeen last parents are_rows are = λ v u e.
    let m = are.meets v u e in
    let row = are_rows u m.0 v m.1.price m.1.edge in
    (m.1.start + m.1.price, m.1.start, m.1.target, m.1.labelled, omega (arith, row.1))

-- The names that a loop adds

-- from one vertex over parents to another: the names of those before, and of this one
pub record HasGoneBack (vertices : List Name) (parents : List (Option ℕ)) (place at : ℕ) (walk : List Name) : Type 0 where
  pub done : List ℕ
  pub walk-is : walk ≡ names_at vertices (done ++ at ∷ [])
  pub leads : (rest : List ℕ) → LeadsBack parents at rest → (before : List ℕ) × (place ∷ before ≡ done ++ at ∷ rest) × LeadsBack parents place before

module _ (vertices : List Name) (parents : List (Option ℕ)) (place : ℕ) where
  -- before the first parent
  pub gone-none : (v : Name) (walk : List Name) → v ≡ slice_index_or vertices place [] → walk ≡ v ∷ [] → HasGoneBack vertices parents place place walk
  gone-none v walk is one = record { done = []; walk-is = one ∙ ap (λ w. w ∷ []) is; leads = λ rest h. (rest, refl, h) }

  -- over one parent more
  pub gone-on : (at u : ℕ) (walk walk' : List Name) (v : Name) → label_in parents at ≡ Some u → v ≡ slice_index_or vertices u [] → walk' ≡ walk ++ v ∷ [] → HasGoneBack vertices parents place at walk → HasGoneBack vertices parents place u walk'
  gone-on at u walk walk' v parent is more h =
      record {
        done = h.done ++ at ∷ [];
        walk-is = more ∙ (λ i. h.walk-is i ++ is i ∷ []) ∙ sym (map-append (λ n. slice_index_or vertices n []) (h.done ++ at ∷ []) (u ∷ []));
        leads = λ rest back. let l = h.leads (u ∷ rest) (parent, back) in (l.0, l.1 ∙ sym (append_assoc h.done (at ∷ []) (u ∷ rest)), l.2);
      }

  -- there is no parent more
  pub gone-all : (at : ℕ) (walk : List Name) → label_in parents at ≡ None → HasGoneBack vertices parents place at walk → (before : List ℕ) × LeadsBack parents place before × (walk ≡ names_at vertices (place ∷ before))
  gone-all at walk none h = let l = h.leads [] none in (l.0, l.2, h.walk-is ∙ ap (names_at vertices) (sym l.1))

module _ (graph : PlainGraph) (key from : Name) (vertices : List Name) (rows : List (List (ℕ × ℕ))) (labels : List (Option ℕ)) (start : ℕ)
    (numbered : AreRowsOf graph key vertices rows) (begin : slice_get vertices start ≡ Some from) (all : length labels ≡ length vertices) (cert : IsCertificate (row_in rows) start (label_in labels))
    (rows_all : length labels ≡ length rows) (parents : List (Option ℕ)) (are : AreParents rows labels (IsSeenBefore (length rows)) (length rows) parents) where
  -- a labelled vertex without a parent is the start
  no-parent : (i d : ℕ) → label_in labels i ≡ Some d → label_in parents i ≡ None → i ≡ start
  no-parent i d e none = at (cases_eq i start)
    where
      at : (i ≡ start) ⊎ (i ≡ start → ⊥) → i ≡ start
      at (inl same) = same
      at (inr other) =
          let m = cert.met i d e other in
          let meets : MeetsAt rows labels m.0 m.2 i = record { start = m.1; price = m.3; edge = m.5; labelled = m.4; target = e ∙ ap Some m.6 } in
          let l = are.least m.0 m.2 i (omega (arith, in-table labels m.0 m.1 m.4, rows_all)) meets in
          absurd (none-some _ (sym none ∙ l.1))

  -- the names over which the parents lead back go back
  names-go-back : (i : ℕ) (v : Name) (d : ℕ) (before : List ℕ) → slice_get vertices i ≡ Some v → label_in labels i ≡ Some d → LeadsBack parents i before → GoesBack graph key from (bounds_of vertices labels) v (names_at vertices before)
  names-go-back i v d [] at e h = same_Some _ _ (sym begin ∙ ap (slice_get vertices) (sym (no-parent i d e h)) ∙ at)
  names-go-back i v d (u ∷ before) at e h =
      let p = parent-least graph key from vertices rows labels start numbered begin all cert parents (length rows) rows_all are i u v at h.0 in
      let m = are.meets i u h.0 in
      let name : p.0 ≡ slice_index_or vertices u [] = sym (get_or_from_slice_get vertices u p.0 [] p.1) in
      subst (λ w. GoesBack graph key from (bounds_of vertices labels) v (w ∷ names_at vertices before)) name
      (p.2, names-go-back u p.0 m.1.start before p.1 m.1.labelled h.1)

  -- the walk to a labelled vertex
  pub walk-back : (to : Name) (place total : ℕ) (before : List ℕ) → slice_get vertices place ≡ Some to → label_in labels place ≡ Some total → LeadsBack parents place before
      → IsPricedAnswer graph from to key (Some (reverse (names_at vertices (place ∷ before)))) total (bounds_of vertices labels)
  walk-back to place total before at e h =
      let name : slice_index_or vertices place [] ≡ to = get_or_from_slice_get vertices place to [] at in
      let led : HasWalkBack graph key from (bounds_of vertices labels) to (Some (reverse (names_at vertices (place ∷ before)))) total =
      (names_at vertices before, listed vertices numbered.rising labels place to total at e, ap (λ w. reverse (w ∷ names_at vertices before)) name, names-go-back place to total before at e h) in
      sound graph key from (bounds_of vertices labels) to (Some (reverse (names_at vertices (place ∷ before)))) total
      (record { certified = certified graph key from vertices rows labels start numbered begin all cert; led = led })

  -- no walk leads to a vertex without a label
  pub no-walk-back : (to : Name) → ((place : ℕ) → slice_get vertices place ≡ Some to → label_in labels place ≡ None) → IsPricedAnswer graph from to key None 0 (bounds_of vertices labels)
  no-walk-back to none =
      sound graph key from (bounds_of vertices labels) to None 0
      (record { certified = certified graph key from vertices rows labels start numbered begin all cert; led = (unlisted (bound_at (bounds_of vertices labels) to) refl, refl) })
    where
      unlisted : (o : Option ℕ) → bound_at (bounds_of vertices labels) to ≡ o → bound_at (bounds_of vertices labels) to ≡ None
      unlisted None e = e
      unlisted (Some d) e = let f = found vertices numbered.rising labels to d e in absurd (none-some _ (sym (none f.0 f.1) ∙ f.2))
