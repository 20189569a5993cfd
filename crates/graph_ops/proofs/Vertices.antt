-- A transaction leaves at each vertex what its operations there leave, and passes exactly if those of each vertex do.
-- Used by `vertices_are_independent`, Naming, Needs and 8 crates above.
use Rattle.std.proofs.Common.{◌≡◌, ℕ, ◌+◌, Bool, true, false, ◌&&◌, cond, List, [], ◌∷◌, IsTrue, Ok, Err, is_ok, refl, sym, ap, subst, ◌∙◌}
use Rattle.std.specs.Cmp.{eq_by_cmp_equiv}
use Rattle.std.specs.Cmp.Lexicographic.{nat_list_cmp_total}
use Rattle.weave_data.specs.Names.{same_name, one_name}
use Rattle.weave_data.specs.declared.name.Name.{Name}
use Rattle.graph_ops.specs.Operations.{State, Outcome, outcome_of_op, refused_if, vertex_of}
use Rattle.graph_ops.specs.PlainGraph.{PlainGraph, PassedTx, TxOutcome, with_state, in_graph, lacks_target, outcome_in, with_gots_before, outcome_then, run}
use Rattle.graph_ops.specs.VertexOps.{ops_on, state_left, state_after_ops, none_refused}
use Rattle.graph_ops.specs.declared.op.Op.{Op}
use Rattle.graph_ops.specs.declared.op.Answered.{Answered}
use Rattle.graph_ops.specs.declared.op.Reason.TheVariants.{NoTarget}
use Rattle.graph_ops.specs.declared.tx.Got.{Got}

-- each name is the same as itself
pub same_name-refl : (v : Name) → IsTrue (same_name v v)
same_name-refl = (eq_by_cmp_equiv nat_list_cmp_total).refl

-- What passes in a graph

own-if : (b : Bool) (o : Outcome) (p : State × Answered) → refused_if b NoTarget o ≡ Ok p → o ≡ Ok p
own-if true o p e = absurd (cc)
own-if false o p e = e

-- an operation that passes in a graph passes on its vertex's state alone, with the same outcome
pub own-passes : (op : Op) (graph : PlainGraph) (p : State × Answered) → outcome_in op graph ≡ Ok p → outcome_of_op op (graph (vertex_of op)) ≡ Ok p
own-passes op graph p e = own-if (lacks_target op graph) (outcome_of_op op (graph (vertex_of op))) p e

-- What a transaction that passes leaves

-- the operations pass on the old state, and leave the new one
abbrev pub Leaves : List Op → State → State → Type 0
Leaves ops old new = IsTrue (none_refused ops old) × (state_after_ops ops old ≡ new)

-- one more operation in front
one-more : (op : Op) (ops : List Op) (old now new : State) (answered : Answered) → outcome_of_op op old ≡ Ok (now, answered) → Leaves ops now new → Leaves (op ∷ ops) old new
one-more op ops old now new answered e rest =
    subst (λ (o : Outcome). IsTrue (is_ok o && none_refused ops (state_left old o)) × (state_after_ops ops (state_left old o) ≡ new)) (sym e) rest

-- an outcome that passes and leaves this graph
abbrev pub LeavesGraph : TxOutcome → PlainGraph → Type 0
LeavesGraph (Ok p) graph = p.graph ≡ graph
LeavesGraph (Err stopped) graph = ⊥

without-first : (gots : List Got) (o : TxOutcome) (graph : PlainGraph) → LeavesGraph (with_gots_before gots o) graph → LeavesGraph o graph
without-first gots (Ok p) graph c = c
without-first gots (Err stopped) graph c = c

module _ (op : Op) (ops : List Op) (graph h : PlainGraph) (v : Name) (now : State) (answered : Answered) (e : outcome_of_op op (graph (vertex_of op)) ≡ Ok (now, answered)) (later : Leaves (ops_on v ops) (with_state (vertex_of op) now graph v) (h v)) where
  at-vertex : (b : Bool) → same_name (vertex_of op) v ≡ b → Leaves (cond b (op ∷ ops_on v ops) (ops_on v ops)) (graph v) (h v)
  at-vertex true same =
      let here : vertex_of op ≡ v = one_name _ _ same in
      one-more op (ops_on v ops) (graph v) now (h v) answered (ap (λ k. outcome_of_op op (graph k)) (sym here) ∙ e)
      (subst (λ b. Leaves (ops_on v ops) (cond b now (graph v)) (h v)) same later)
  at-vertex false other = subst (λ b. Leaves (ops_on v ops) (cond b now (graph v)) (h v)) other later

leaves-graph : (ops : List Op) (number : ℕ) (graph h : PlainGraph) (v : Name) → LeavesGraph (run number ops graph) h → Leaves (ops_on v ops) (graph v) (h v)
leaves-graph [] number graph h v c = (refl, ap (λ (k : PlainGraph). k v) c)
leaves-graph (op ∷ ops) number graph h v c =
    elim (outcome_in op graph) as (λ o. outcome_in op graph ≡ o → LeavesGraph (outcome_then number (in_graph (vertex_of op) o graph) (λ next. run (number + 1) ops next)) h → Leaves (ops_on v (op ∷ ops)) (graph v) (h v)) [
      | Ok p ↦ λ e k. at-vertex op ops graph h v p.0 p.1 (own-passes op graph p e) (leaves-graph ops (number + 1) (with_state (vertex_of op) p.0 graph) h v (without-first _ _ h k)) _ refl
      | Err reason ↦ λ e k. absurd k
    ] refl c

-- each vertex has the state that the operations on it leave
pub leaves : (ops : List Op) (number : ℕ) (graph : PlainGraph) (passed : PassedTx) (v : Name) → run number ops graph ≡ Ok passed → Leaves (ops_on v ops) (graph v) (passed.graph v)
leaves ops number graph passed v e = leaves-graph ops number graph passed.graph v (subst (λ (o : TxOutcome). LeavesGraph o passed.graph) (sym e) refl)

-- Whether a transaction passes

-- if operations pass on a graph, those on each vertex pass on its state
pub passes-each : (ops : List Op) (number : ℕ) (graph : PlainGraph) → IsTrue (is_ok (run number ops graph)) → (v : Name) → IsTrue (none_refused (ops_on v ops) (graph v))
passes-each ops number graph h v = at (run number ops graph) refl h
  where
    at : (o : TxOutcome) → run number ops graph ≡ o → IsTrue (is_ok o) → IsTrue (none_refused (ops_on v ops) (graph v))
    at (Ok passed) e h = (leaves ops number graph passed v e).0
    at (Err stopped) e h = absurd (cc)
