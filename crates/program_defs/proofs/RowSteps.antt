-- The rows of listed vertices, edge by edge and vertex by vertex.
-- Used by `row_of`, `rows_between` and crate priced_path.
use Rattle.std.proofs.Common.{◌≡◌, ℕ, ◌+◌, ◌<◌, ◌≤◌, true, false, refl, sym, ap, subst, ◌∙◌, List, [], ◌∷◌, ◌++◌, length, filter_map, get_or, Option, Some, None, slice_get, IsTrue, is_some, ◌⊎◌, inl, inr, arith}
use Rattle.std.specs.List.{cons_option}
use Rattle.std.specs.Map.{values_of}
use Rattle.std.proofs.lemmas.Bool.{both_ways, cases_eq, cases_lt}
use Rattle.std.proofs.lemmas.List.{get_or_append_left, get_or_past, get_or_push, length_push}
use Rattle.std.proofs.lemmas.Option.{none-some, same_Some, slice_get-get_or, slice_get_within}
use Rattle.weave_data.specs.Pairs.{at_key}
use Rattle.weave_data.specs.declared.name.Name.{Name}
use Rattle.graph_ops.specs.Mentions.{is_among}
use Rattle.graph_ops.specs.PlainGraph.{PlainGraph}
use Rattle.graph_ops.specs.declared.record.Edge.{Edge}
use Rattle.program_defs.specs.Labels.{AddsEdge, IsUnlisted, row_in, AreRows, AreRowsOf, HoldsListed, IsRowOf}
use Rattle.program_defs.specs.Prices.{HasEdge, most_price, price_in, priced_edge, priced_edges, with_price}
use Rattle.program_defs.specs.Rising.{is_rising}
use Rattle.program_defs.proofs.PricedEdges.{edge-within}

-- A row, edge by edge

-- the passing ones of these edges
abbrev pub passing_in : Name → List (Name × Edge) → List (Name × ℕ)
passing_in key edges = filter_map (priced_edge key) (values_of edges)

-- if the first edge has this price or none, the passing edges are it and those of the rest
pub passing-next : (key : Name) (front rest : List (Name × Edge)) (name : Name) (edge : Edge) (price : Option ℕ) → front ≡ (name, edge) ∷ rest → price ≡ price_in (at_key key edge.tags)
    → passing_in key front ≡ cons_option (with_price edge.target price) (passing_in key rest)
passing-next key front rest name edge price next is = ap (passing_in key) next ∙ ap (λ o. cons_option (with_price edge.target o) (passing_in key rest)) (sym is)

-- a row that has the passing edges but those that are left
pub record IsRowSoFar (graph : PlainGraph) (vertices : List Name) (passing left : List (Name × ℕ)) (row : List (ℕ × ℕ)) : Type 0 where
  pub edges : (k j price : ℕ) → slice_get row k ≡ Some (j, price) → (w : Name) × (slice_get vertices j ≡ Some w) × HasEdge passing w price
  pub all : (price : ℕ) (w : Name) → HasEdge passing w price → IsTrue (is_some (graph w)) → ((j k : ℕ) × (slice_get vertices j ≡ Some w) × (slice_get row k ≡ Some (j, price))) ⊎ HasEdge left w price
  pub among : (price : ℕ) (w : Name) → HasEdge left w price → HasEdge passing w price

module _ (graph : PlainGraph) (vertices : List Name) (edges : List (Name × ℕ)) where
  -- before the first edge
  pub row-begins : IsRowSoFar graph vertices edges edges []
  row-begins = record { edges = λ k j price e. cc; all = λ price w h there. inr h; among = λ price w h. h }

  -- no edge is left
  pub row-ends : (left : List (Name × ℕ)) (row : List (ℕ × ℕ)) → left ≡ [] → IsRowSoFar graph vertices edges left row → IsRowOf graph vertices edges row
  row-ends left row none so_far = record { edges = so_far.edges; all = λ price w h there. at price w (so_far.all price w h there) }
    where
      at : (price : ℕ) (w : Name) → ((j k : ℕ) × (slice_get vertices j ≡ Some w) × (slice_get row k ≡ Some (j, price))) ⊎ HasEdge left w price → (j k : ℕ) × (slice_get vertices j ≡ Some w) × (slice_get row k ≡ Some (j, price))
      at price w (inl has) = has
      at price w (inr more) = absurd (subst (λ (es : List (Name × ℕ)). HasEdge es w price) none more)

  -- an edge that doesn't pass
  pub row-skips-edge : (left rest : List (Name × ℕ)) (row : List (ℕ × ℕ)) → left ≡ rest → IsRowSoFar graph vertices edges left row → IsRowSoFar graph vertices edges rest row
  row-skips-edge left rest row same so_far = subst (λ (es : List (Name × ℕ)). IsRowSoFar graph vertices edges es row) same so_far

  -- an edge to a vertex that is absent
  pub row-passes-by : (left rest : List (Name × ℕ)) (row : List (ℕ × ℕ)) (target : Name) (price : ℕ) → left ≡ (target, price) ∷ rest → is_some (graph target) ≡ false → IsRowSoFar graph vertices edges left row → IsRowSoFar graph vertices edges rest row
  row-passes-by left rest row target price same absent so_far =
      record {
        edges = so_far.edges;
        all = λ p w h there. at p w there (so_far.all p w h there);
        among = λ p w h. so_far.among p w (subst (λ (es : List (Name × ℕ)). HasEdge es w p) (sym same) (inr h));
      }
    where
      at : (p : ℕ) (w : Name) → IsTrue (is_some (graph w)) → ((j k : ℕ) × (slice_get vertices j ≡ Some w) × (slice_get row k ≡ Some (j, p))) ⊎ HasEdge left w p → ((j k : ℕ) × (slice_get vertices j ≡ Some w) × (slice_get row k ≡ Some (j, p))) ⊎ HasEdge rest w p
      at p w there (inl has) = inl has
      at p w there (inr more) = here (subst (λ (es : List (Name × ℕ)). HasEdge es w p) same more)
        where
          here : HasEdge ((target, price) ∷ rest) w p → ((j k : ℕ) × (slice_get vertices j ≡ Some w) × (slice_get row k ≡ Some (j, p))) ⊎ HasEdge rest w p
          here (inl is) = absurd (both_ways _ absent (subst (λ v. IsTrue (is_some (graph v))) (sym is.0) there))
          here (inr later) = inr later

  -- an edge to a listed vertex
  pub row-takes : (left rest : List (Name × ℕ)) (row : List (ℕ × ℕ)) (target : Name) (price place : ℕ) → left ≡ (target, price) ∷ rest → slice_get vertices place ≡ Some target → IsRowSoFar graph vertices edges left row → IsRowSoFar graph vertices edges rest (row ++ (place, price) ∷ [])
  row-takes left rest row target price place same at_place so_far =
      record {
        edges = λ k j p e. edge k j p e (cases_eq k (length row));
        all = λ p w h there. at p w (so_far.all p w h there);
        among = λ p w h. so_far.among p w (subst (λ (es : List (Name × ℕ)). HasEdge es w p) (sym same) (inr h));
      }
    where
      longer : List (ℕ × ℕ)
      longer = row ++ (place, price) ∷ []

      size : length longer ≡ length row + 1
      size = length_push row (place, price)

      last : slice_get longer (length row) ≡ Some (place, price)
      last = slice_get-get_or longer (length row) (0, 0) (omega (arith, size)) ∙ ap Some (get_or_push row (place, price) (0, 0) (length row) refl)

      earlier : (k : ℕ) → k < length row → slice_get longer k ≡ slice_get row k
      earlier k below = slice_get-get_or longer k (0, 0) (omega (arith, size, below)) ∙ ap Some (get_or_append_left row ((place, price) ∷ []) (0, 0) k below) ∙ sym (slice_get-get_or row k (0, 0) below)

      edge : (k j p : ℕ) → slice_get longer k ≡ Some (j, p) → (k ≡ length row) ⊎ (k ≡ length row → ⊥) → (w : Name) × (slice_get vertices j ≡ Some w) × HasEdge edges w p
      edge k j p e (inl is) =
          let one : ◌≡◌ {A = ℕ × ℕ} (place, price) (j, p) = same_Some _ _ (sym last ∙ ap (slice_get longer) (sym is) ∙ e) in
          let number : place ≡ j = ap (λ q. q.0) one in
          let cost : price ≡ p = ap (λ q. q.1) one in
          (target, subst (λ n. slice_get vertices n ≡ Some target) number at_place, subst (λ n. HasEdge edges target n) cost (so_far.among price target (subst (λ (es : List (Name × ℕ)). HasEdge es target price) (sym same) (inl (refl, refl)))))
      edge k j p e (inr other) =
          let within = slice_get_within longer k (j, p) e in
          so_far.edges k j p (sym (earlier k (omega (arith, within, size, other))) ∙ e)

      at : (p : ℕ) (w : Name) → ((j k : ℕ) × (slice_get vertices j ≡ Some w) × (slice_get row k ≡ Some (j, p))) ⊎ HasEdge left w p → ((j k : ℕ) × (slice_get vertices j ≡ Some w) × (slice_get longer k ≡ Some (j, p))) ⊎ HasEdge rest w p
      at p w (inl has) = inl (has.0, has.1, has.2, earlier has.1 (slice_get_within row has.1 (has.0, p) has.3) ∙ has.3)
      at p w (inr more) = here (subst (λ (es : List (Name × ℕ)). HasEdge es w p) same more)
        where
          here : HasEdge ((target, price) ∷ rest) w p → ((j k : ℕ) × (slice_get vertices j ≡ Some w) × (slice_get longer k ≡ Some (j, p))) ⊎ HasEdge rest w p
          here (inl is) = inl (place, length row, at_place ∙ ap Some is.0, last ∙ ap (λ n. Some (place, n)) is.1)
          here (inr later) = inr later

  -- an edge was looked at
  pub row-steps : (left rest : List (Name × ℕ)) (old new : List (ℕ × ℕ)) (target : Name) (price : Option ℕ) → left ≡ cons_option (with_price target price) rest → AddsEdge graph vertices target price old new
      → IsRowSoFar graph vertices edges left old → IsRowSoFar graph vertices edges rest new
  row-steps left rest old new target None same kept so_far = subst (λ (r : List (ℕ × ℕ)). IsRowSoFar graph vertices edges rest r) (sym kept) (row-skips-edge left rest old same so_far)
  row-steps left rest old new target (Some price) same (inl added) so_far = subst (λ (r : List (ℕ × ℕ)). IsRowSoFar graph vertices edges rest r) (sym added.2) (row-takes left rest old target price added.0 same added.1 so_far)
  row-steps left rest old new target (Some price) same (inr kept) so_far = subst (λ (r : List (ℕ × ℕ)). IsRowSoFar graph vertices edges rest r) (sym kept.1) (row-passes-by left rest old target price same kept.0 so_far)

  -- an edge to a vertex that is there and isn't listed
  pub row-fails : (left rest : List (Name × ℕ)) (row : List (ℕ × ℕ)) (target : Name) (price : Option ℕ) → left ≡ cons_option (with_price target price) rest → IsUnlisted graph vertices target price → IsRowSoFar graph vertices edges left row
      → (p : ℕ) × (w : Name) × HasEdge edges w p × IsTrue (is_some (graph w)) × (is_among vertices w ≡ false)
  row-fails left rest row target None same fails so_far = absurd fails
  row-fails left rest row target (Some price) same fails so_far =
      (price, target, so_far.among price target (subst (λ (es : List (Name × ℕ)). HasEdge es target price) (sym same) (inl (refl, refl))), fails.0, fails.1)

-- All rows, vertex by vertex

-- the rows of the first of the vertices
pub record AreRowsSoFar (graph : PlainGraph) (key : Name) (vertices : List Name) (count : ℕ) (rows : List (List (ℕ × ℕ))) : Type 0 where
  pub present : (i : ℕ) (v : Name) → i < count → slice_get vertices i ≡ Some v → IsTrue (is_some (graph v))
  pub each : (i : ℕ) (v : Name) → i < count → slice_get vertices i ≡ Some v → IsRowOf graph vertices (priced_edges key (graph v)) (row_in rows i)
  pub len : length rows ≡ count

module _ (graph : PlainGraph) (key : Name) (vertices : List Name) where
  -- before the first vertex
  pub rows-begin : AreRowsSoFar graph key vertices 0 []
  rows-begin = record { present = λ i v l e. absurd (omega (arith, l)); each = λ i v l e. absurd (omega (arith, l)); len = refl }

  -- one row more
  pub rows-more : (count : ℕ) (rows : List (List (ℕ × ℕ))) (v : Name) (row : List (ℕ × ℕ)) → slice_get vertices count ≡ Some v → IsTrue (is_some (graph v)) → IsRowOf graph vertices (priced_edges key (graph v)) row
      → AreRowsSoFar graph key vertices count rows → AreRowsSoFar graph key vertices (count + 1) (rows ++ row ∷ [])
  rows-more count rows v row at_v there is_row so_far =
      record {
        present = λ i w l e. present i w l e (cases_eq i count);
        each = λ i w l e. each i w l e (cases_eq i count);
        len = length_push rows row ∙ ap (λ n. n + 1) so_far.len;
      }
    where
      same : (i : ℕ) (w : Name) → slice_get vertices i ≡ Some w → i ≡ count → v ≡ w
      same i w e is = same_Some v w (sym at_v ∙ ap (slice_get vertices) (sym is) ∙ e)

      present : (i : ℕ) (w : Name) → i < count + 1 → slice_get vertices i ≡ Some w → (i ≡ count) ⊎ (i ≡ count → ⊥) → IsTrue (is_some (graph w))
      present i w l e (inl is) = subst (λ x. IsTrue (is_some (graph x))) (same i w e is) there
      present i w l e (inr other) = so_far.present i w (omega (arith, l, other)) e

      last : row_in (rows ++ row ∷ []) count ≡ row
      last = get_or_push rows row [] count so_far.len

      each : (i : ℕ) (w : Name) → i < count + 1 → slice_get vertices i ≡ Some w → (i ≡ count) ⊎ (i ≡ count → ⊥) → IsRowOf graph vertices (priced_edges key (graph w)) (row_in (rows ++ row ∷ []) i)
      each i w l e (inl is) =
          subst (λ (es : List (ℕ × ℕ)). IsRowOf graph vertices (priced_edges key (graph w)) es) (sym (ap (row_in (rows ++ row ∷ [])) is ∙ last))
          (subst (λ x. IsRowOf graph vertices (priced_edges key (graph x)) row) (same i w e is) is_row)
      each i w l e (inr other) =
          subst (λ (es : List (ℕ × ℕ)). IsRowOf graph vertices (priced_edges key (graph w)) es) (sym (get_or_append_left rows (row ∷ []) [] i (omega (arith, l, other, so_far.len))))
          (so_far.each i w (omega (arith, l, other)) e)

  -- all of them
  pub rows-end : (count : ℕ) (rows : List (List (ℕ × ℕ))) → is_rising vertices ≡ true → length vertices ≤ count → AreRowsSoFar graph key vertices count rows → AreRowsOf graph key vertices rows
  rows-end count rows rising all so_far =
      record {
        rising = rising;
        present = λ i v e. so_far.present i v (inside i v e) e;
        edges = λ i k j price v e edge. (so_far.each i v (inside i v e) e).edges k j price edge;
        all = λ i price v w e edge there. (so_far.each i v (inside i v e) e).all price w edge there;
      }
    where
      inside : (i : ℕ) (v : Name) → slice_get vertices i ≡ Some v → i < count
      inside i v e = omega (arith, slice_get_within vertices i v e, all)

-- rows of a graph lead to numbered vertices, at prices
pub rows-are-rows : (graph : PlainGraph) (key : Name) (vertices : List Name) (rows : List (List (ℕ × ℕ))) → length rows ≡ length vertices → AreRowsOf graph key vertices rows → AreRows rows
rows-are-rows graph key vertices rows len of_graph u k v price e = at (cases_lt u (length rows))
  where
    at : (u < length rows) ⊎ (length rows ≤ u) → (v < length rows) × (1 ≤ price) × (price ≤ most_price)
    at (inl below) =
        let x : slice_get vertices u ≡ Some (get_or vertices u []) = slice_get-get_or vertices u [] (omega (arith, below, len)) in
        let y = of_graph.edges u k v price (get_or vertices u []) x e in
        let within = edge-within key (graph (get_or vertices u [])) y.0 price y.2 in
        (omega (arith, slice_get_within vertices v y.0 y.1, len), within.0, within.1)
    at (inr past) =
        let none : row_in rows u ≡ [] = get_or_past rows u [] past in
        absurd (none-some _ (sym (ap (λ (es : List (ℕ × ℕ)). slice_get es k) none) ∙ e))

-- a vertex that isn't listed, though an edge of a listed one leads to it and it is there
pub unheld : (graph : PlainGraph) (key : Name) (vertices : List Name) (u w : Name) (price : ℕ) → IsTrue (is_among vertices u) → HasEdge (priced_edges key (graph u)) w price → IsTrue (is_some (graph w)) → is_among vertices w ≡ false → HoldsListed graph key vertices → ⊥
unheld graph key vertices u w price among edge there unlisted held = both_ways _ unlisted (held.onward u w price among edge there)

-- a listed vertex that is absent
pub absent-unheld : (graph : PlainGraph) (key : Name) (vertices : List Name) (v : Name) → IsTrue (is_among vertices v) → graph v ≡ None → HoldsListed graph key vertices → ⊥
absent-unheld graph key vertices v among none held = both_ways _ (ap is_some none) (held.present v among)
