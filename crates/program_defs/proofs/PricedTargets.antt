-- The targets that levels go over are those of the priced edges.
-- Used by AnswersAgree.
use Rattle.std.proofs.Common.{◌≡◌, ℕ, true, refl, subst, List, [], ◌∷◌, map, filter, filter_map, cond, Option, Some, None, IsTrue, ◌↔◌, is_some, inl, inr}
use Rattle.std.specs.List.{cons_option}
use Rattle.std.specs.Map.{values_of}
use Rattle.std.proofs.lemmas.Bool.{or_cases, or_left, or_right}
use Rattle.weave_data.specs.Names.{same_name, one_name}
use Rattle.weave_data.specs.Pairs.{at_key}
use Rattle.weave_data.specs.declared.name.Name.{Name}
use Rattle.graph_ops.specs.Mentions.{is_among}
use Rattle.graph_ops.specs.Operations.{State}
use Rattle.graph_ops.specs.declared.record.Edge.{Edge}
use Rattle.graph_ops.proofs.Vertices.{same_name-refl}
use Rattle.program_defs.specs.declared.passing.Passing.TheVariants.{Priced}
use Rattle.program_defs.specs.Prices.{price_in, with_price, priced_edge, priced_edges, HasEdge}
use Rattle.program_defs.specs.Walks.{targets}

module _ (key : Name) where
  to-edge : (edges : List Edge) (v : Name) → IsTrue (is_among (map (λ (edge : Edge). edge.target) (filter (λ edge. is_some (price_in (at_key key edge.tags))) edges)) v) → (p : ℕ) × HasEdge (filter_map (priced_edge key) edges) v p
  to-edge [] v h = cc
  to-edge (edge ∷ rest) v h = at (price_in (at_key key edge.tags)) h (to-edge rest v)
    where
      at : (o : Option ℕ) → IsTrue (is_among (map (λ (x : Edge). x.target) (cond (is_some o) (edge ∷ filter (λ x. is_some (price_in (at_key key x.tags))) rest) (filter (λ x. is_some (price_in (at_key key x.tags))) rest))) v)
          → (IsTrue (is_among (map (λ (x : Edge). x.target) (filter (λ x. is_some (price_in (at_key key x.tags))) rest)) v) → (p : ℕ) × HasEdge (filter_map (priced_edge key) rest) v p)
          → (p : ℕ) × HasEdge (cons_option (with_price edge.target o) (filter_map (priced_edge key) rest)) v p
      at None g more = more g
      at (Some q) g more =
          elim (or_cases (same_name edge.target v) _ g) [
            | inl same ↦ (q, inl (one_name edge.target v same, refl))
            | inr later ↦ let m = more later in (m.0, inr m.1)
          ]

  of-edge : (edges : List Edge) (v : Name) (p : ℕ) → HasEdge (filter_map (priced_edge key) edges) v p → IsTrue (is_among (map (λ (edge : Edge). edge.target) (filter (λ edge. is_some (price_in (at_key key edge.tags))) edges)) v)
  of-edge [] v p h = absurd h
  of-edge (edge ∷ rest) v p h = at (price_in (at_key key edge.tags)) h (of-edge rest v p)
    where
      at : (o : Option ℕ) → HasEdge (cons_option (with_price edge.target o) (filter_map (priced_edge key) rest)) v p
          → (HasEdge (filter_map (priced_edge key) rest) v p → IsTrue (is_among (map (λ (x : Edge). x.target) (filter (λ x. is_some (price_in (at_key key x.tags))) rest)) v))
          → IsTrue (is_among (map (λ (x : Edge). x.target) (cond (is_some o) (edge ∷ filter (λ x. is_some (price_in (at_key key x.tags))) rest) (filter (λ x. is_some (price_in (at_key key x.tags))) rest))) v)
      at None g more = more g
      at (Some q) (inl here) more = or_left _ _ (subst (λ w. same_name edge.target w ≡ true) here.0 (same_name-refl edge.target))
      at (Some q) (inr there) more = or_right _ _ (more there)

  -- a vertex is a target of a state exactly if a passing edge leads to it
  pub targets-are-edges : (state : State) (v : Name) → IsTrue (is_among (targets (Priced key) state) v) ↔ ((p : ℕ) × HasEdge (priced_edges key state) v p)
  targets-are-edges None v = ((λ h. cc), (λ h. absurd h.1))
  targets-are-edges (Some now) v = ((λ h. to-edge (values_of now.edges) v h), (λ h. of-edge (values_of now.edges) v h.0 h.1))
