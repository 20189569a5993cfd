-- No walk leaves a closed set.
-- Used by Answering, AnswersAgree, FourVertices, Leads, Levels and Pathing.
use Rattle.std.proofs.Common.{◌≡◌, Bool, ◌&&◌, List, [], ◌∷◌, IsTrue, subst, ◌∙◌, inl, inr}
use Rattle.std.specs.Prelude.{is_some}
use Rattle.std.specs.List.{list_all}
use Rattle.std.proofs.lemmas.Bool.{and_parts, or_cases}
use Rattle.weave_data.specs.Names.{same_name, one_name}
use Rattle.weave_data.specs.declared.name.Name.{Name}
use Rattle.graph_ops.specs.Mentions.{is_among}
use Rattle.graph_ops.specs.PlainGraph.{PlainGraph}
use Rattle.program_defs.specs.declared.passing.Passing.{Passing}
use Rattle.program_defs.specs.Walks.{targets, is_walk}

-- if all names of a list pass a test, each name that is among them does
pub all-at : (p : Name → Bool) (vs : List Name) (v : Name) → IsTrue (list_all p vs) → IsTrue (is_among vs v) → IsTrue (p v)
all-at p [] v h g = cc
all-at p (w ∷ ws) v h g =
    let parts = and_parts (p w) _ h in
    elim (or_cases (same_name w v) _ g) [
      | inl same ↦ subst (λ x. IsTrue (p x)) (one_name w v same) parts.0
      | inr more ↦ all-at p ws v parts.1 more
    ]

-- what the first step of a walk says
pub record FirstStep (graph : PlainGraph) (pass : Passing) (from : Name) (to : Name) (v : Name) (w : Name) (rest : List Name) : Type 0 where
  pub start : from ≡ v
  pub there : IsTrue (is_some (graph v))
  pub edge : IsTrue (is_among (targets pass (graph v)) w)
  pub onward : IsTrue (is_walk graph pass w to (w ∷ rest))

-- a walk of two or more vertices begins at its start, which is there, and goes on over a passing edge as a walk
pub first_step : (graph : PlainGraph) (pass : Passing) (from to v w : Name) (rest : List Name) → IsTrue (is_walk graph pass from to (v ∷ w ∷ rest)) → FirstStep graph pass from to v w rest
first_step graph pass from to v w rest h =
    let all = and_parts (same_name from v && is_some (graph v) && is_among (targets pass (graph v)) w) _ h in
    let three = and_parts (same_name from v && is_some (graph v)) _ all.0 in
    let two = and_parts (same_name from v) _ three.0 in
    record { start = one_name from v two.0; there = two.1; edge = three.1; onward = all.1 }

-- what the walk of no edge says
pub record OneVertex (graph : PlainGraph) (from : Name) (to : Name) (v : Name) : Type 0 where
  pub start : from ≡ v
  pub there : IsTrue (is_some (graph v))
  pub end : v ≡ to

-- the vertex of a walk without an edge is its start and its end, and is there
pub one_vertex : (graph : PlainGraph) (pass : Passing) (from to v : Name) → IsTrue (is_walk graph pass from to (v ∷ [])) → OneVertex graph from to v
one_vertex graph pass from to v h =
    let all = and_parts (same_name from v && is_some (graph v)) _ h in
    let two = and_parts (same_name from v) _ all.0 in
    record { start = one_name from v two.0; there = two.1; end = one_name v to all.1 }

-- each target of its vertices is in the set
abbrev pub is_closed : PlainGraph → Passing → List Name → Bool
is_closed graph pass vs = list_all (λ v. list_all (is_among vs) (targets pass (graph v))) vs

-- a walk that starts in a closed set ends in it
pub stays_inside : (graph : PlainGraph) (pass : Passing) (vs : List Name) → IsTrue (is_closed graph pass vs)
    → (walk : List Name) (from to : Name) → IsTrue (is_among vs from) → IsTrue (is_walk graph pass from to walk) → IsTrue (is_among vs to)
stays_inside graph pass vs closed [] from to inside h = cc
stays_inside graph pass vs closed (v ∷ []) from to inside h =
    let one = one_vertex graph pass from to v h in subst (λ x. IsTrue (is_among vs x)) (one.start ∙ one.end) inside
stays_inside graph pass vs closed (v ∷ w ∷ rest) from to inside h =
    let step = first_step graph pass from to v w rest h in
    let v_inside = subst (λ x. IsTrue (is_among vs x)) step.start inside in
    let w_inside = all-at (is_among vs) (targets pass (graph v)) w (all-at (λ v. list_all (is_among vs) (targets pass (graph v))) vs v closed v_inside) step.edge in
    stays_inside graph pass vs closed (w ∷ rest) w to w_inside step.onward

-- a walk's end is there
pub end_present : (graph : PlainGraph) (pass : Passing) (from to : Name) (walk : List Name) → IsTrue (is_walk graph pass from to walk) → IsTrue (is_some (graph to))
end_present graph pass from to [] h = cc
end_present graph pass from to (v ∷ []) h =
    let one = one_vertex graph pass from to v h in subst (λ x. IsTrue (is_some (graph x))) one.end one.there
end_present graph pass from to (v ∷ w ∷ rest) h = end_present graph pass w to (w ∷ rest) (first_step graph pass from to v w rest h).onward
