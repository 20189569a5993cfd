-- The kept edges of a graph as rows between its vertices.
-- Used by `answer_of`.
use Rattle.std.proofs.Common.{◌≡◌, ◌<◌, ℕ, true, false, refl, sym, subst, ◌∙◌, List, length, Option, Some, None, is_some, Result, Ok, Err, IfOk, slice_get, arith}
use Rattle.std.specs.declared.alloc.AllocError.{AllocError}
use Rattle.std.proofs.lemmas.Option.{same_Some, slice_get_within}
use Rattle.weave_data.specs.declared.name.Name.{Name}
use Rattle.graph_ops.specs.Mentions.{is_among}
use Rattle.graph_ops.specs.Operations.{State}
use Rattle.graph_ops.specs.PlainGraph.{PlainGraph}
use Rattle.program_defs.specs.Labels.{label_in, row_in, AreRows, AreRowsOf, IsCertificate}
use Rattle.program_defs.specs.PlainAnswer.{IsPlainAnswer}
use Rattle.program_defs.specs.Prices.{priced_edges, HasEdge}
use Rattle.program_defs.specs.Rising.{is_rising}
use Rattle.program_defs.proofs.Placing.{among-place, place-among}
use Rattle.program_defs.specs.declared.program.Answer.{Answer}
use Rattle.program_defs.specs.declared.program.Program.TheVariants.{Price}
use Rattle.priced_path.specs.Kept.{ArePriced, AreRowsKept, IsGraphKept, IsAnswerOver}
use Rattle.priced_path.specs.declared.kept_edge.KeptEdge.{KeptEdge}

-- each edge of a row leads to a vertex, at a price within the range
pub rows-priced : (vertices : List Name) (edges : List KeptEdge) (rows : List (List (ℕ × ℕ))) → ArePriced edges → AreRowsKept vertices edges rows → AreRows rows
rows-priced vertices edges rows priced are u k v price e =
    let a = are.kept u k v price e in
    let within : v < length rows = omega (arith, slice_get_within vertices v a.1 a.3, are.all) in
    let range = priced a.0 a.1 price a.4 in
    (within, range.0, range.1)

-- the rows are those of the graph
pub rows-of-graph : (graph : PlainGraph) (key : Name) (vertices : List Name) (edges : List KeptEdge) (rows : List (List (ℕ × ℕ)))
    → is_rising vertices ≡ true → IsGraphKept graph key vertices edges → AreRowsKept vertices edges rows → AreRowsOf graph key vertices rows
rows-of-graph graph key vertices edges rows rising kept are =
    record {
      rising = rising;
      present = λ i v e. sym (kept.vertices_are v) ∙ place-among vertices v i e;
      edges = λ i k j price v e f.
          let a = are.kept i k j price f in
          let same : a.0 ≡ v = same_Some a.0 v (sym a.2 ∙ e) in
          let has = (kept.edges_are a.0 a.1 price).0 a.4 in
          (a.1, a.3, subst (λ x. HasEdge (priced_edges key (graph x)) a.1 price) same has);
      all = λ i price v w e has there.
          let p = among-place vertices w (kept.vertices_are w ∙ there) in
          let k = are.each i p.0 price v w e p.1 ((kept.edges_are v w price).1 has) in
          (p.0, k.0, p.1, k.1);
    }

-- a start that isn't among the vertices is absent
pub absent-start : (graph : PlainGraph) (key : Name) (vertices : List Name) (edges : List KeptEdge) (from : Name) → IsGraphKept graph key vertices edges → is_among vertices from ≡ false → graph from ≡ None
absent-start graph key vertices edges from kept lacks = none (graph from) (sym (kept.vertices_are from) ∙ lacks)
  where
    none : (s : State) → is_some s ≡ false → s ≡ None
    none None e = refl
    none (Some found) e = cc

-- it is the plain answer on each graph that the rows are of, from a vertex over whose place the labels are a certificate
abbrev pub AnswersRows : List Name → List (List (ℕ × ℕ)) → List (Option ℕ) → Name → Answer → Type 0
AnswersRows vertices rows labels to answer = (graph : PlainGraph) (from key : Name) (start : ℕ) → AreRowsOf graph key vertices rows → slice_get vertices start ≡ Some from → IsCertificate (row_in rows) start (label_in labels) → IsPlainAnswer graph (Price from to key) answer

module _ (vertices : List Name) (edges : List KeptEdge) (rows : List (List (ℕ × ℕ))) (labels : List (Option ℕ)) (start : ℕ) (from to : Name)
    (rising : is_rising vertices ≡ true) (are : AreRowsKept vertices edges rows) (begin : slice_get vertices start ≡ Some from) (certified : IsCertificate (row_in rows) start (label_in labels)) where
  -- the answer over rows is the answer over the kept edges
  pub answered : (result : Result Answer AllocError) → IfOk result (λ answer. AnswersRows vertices rows labels to answer) → IfOk result (λ answer. IsAnswerOver vertices edges from to answer)
  answered (Ok answer) h = λ graph key kept. h graph from key start (rows-of-graph graph key vertices edges rows rising kept are) begin certified
  answered (Err e) h = tt
