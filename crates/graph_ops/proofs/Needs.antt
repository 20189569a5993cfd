-- A transaction passes exactly if the operations on each vertex pass, by themselves, and the vertices that operations
-- need besides are there at their turns.
-- Used by `vertices_are_independent`.
use Rattle.std.proofs.Common.{◌≡◌, ℕ, ◌+◌, Bool, true, false, not, ◌&&◌, cond, List, [], ◌∷◌, ◌++◌, Option, Some, None, is_some, IsSome, IsTrue, Ok, Err, is_ok, refl, sym, ap, subst, ◌∙◌}
use Rattle.std.proofs.lemmas.Bool.{and_parts}
use Rattle.std.proofs.lemmas.Option.{same_Some}
use Rattle.weave_data.specs.Names.{same_name, one_name}
use Rattle.weave_data.specs.declared.name.Name.{Name}
use Rattle.graph_ops.specs.Operations.{State, Outcome, needed_by, outcome_of_op, refused_if, vertex_of}
use Rattle.graph_ops.specs.PlainGraph.{PlainGraph, TxOutcome, with_state, in_graph, is_absent_in, outcome_in, with_gots_before, outcome_then, run}
use Rattle.graph_ops.specs.VertexOps.{NeedsAreMet, ops_on, state_left, state_after_ops, none_refused}
use Rattle.graph_ops.specs.declared.op.Op.{Op}
use Rattle.graph_ops.specs.declared.op.Op.TheVariants.{Create, Delete, Set, Unset, Link, Join, Unlink, Tag, Untag, Get}
use Rattle.graph_ops.specs.declared.op.Answered.{Answered}
use Rattle.graph_ops.specs.declared.op.Reason.TheVariants.{NoTarget}
use Rattle.graph_ops.specs.declared.tx.Got.{Got}
use Rattle.graph_ops.proofs.Vertices.{own-passes, same_name-refl}

same-head : {A : Type 0} (x y : A) (xs ys : List A) → x ∷ xs ≡ y ∷ ys → x ≡ y
same-head x y xs ys e = cc

same-tail : {A : Type 0} (x y : A) (xs ys : List A) → x ∷ xs ≡ y ∷ ys → xs ≡ ys
same-tail x y xs ys e = cc

-- An operation

-- what a join that passes needs is there
join-there : (s t : State) (own : State → Outcome) (reason : _) → own None ≡ Err reason → IsTrue (is_ok (refused_if (not (is_some t) && is_some s) NoTarget (own s))) → IsSome t
join-there s (Some k) own reason missing h = refl
join-there None None own reason missing h = absurd (let e : IsTrue (is_ok (own None)) = h in let f : is_ok (own None) ≡ false = ap is_ok missing in cc)
join-there (Some w) None own reason missing h = absurd (cc)

-- what an operation that passes needs is there
there-for : (op : Op) (graph : PlainGraph) (needed : Name) → needed_by op ≡ Some needed → IsTrue (is_ok (outcome_in op graph)) → IsSome (graph needed)
there-for (Join v name target) graph needed e h =
    subst (λ n. IsSome (graph n)) (same_Some target needed e) (join-there (graph v) (graph target) (outcome_of_op (Join v name target)) _ refl h)
there-for (Create v) graph needed e h = absurd (cc)
there-for (Delete v) graph needed e h = absurd (cc)
there-for (Set v key value) graph needed e h = absurd (cc)
there-for (Unset v key) graph needed e h = absurd (cc)
there-for (Link v name target) graph needed e h = absurd (cc)
there-for (Unlink v name) graph needed e h = absurd (cc)
there-for (Tag v name key value) graph needed e h = absurd (cc)
there-for (Untag v name key) graph needed e h = absurd (cc)
there-for (Get v) graph needed e h = absurd (cc)

-- if what it needs is there, it has the outcome on its vertex's state alone
own-outcome : (op : Op) (graph : PlainGraph) → ((needed : Name) → needed_by op ≡ Some needed → IsSome (graph needed)) → outcome_in op graph ≡ outcome_of_op op (graph (vertex_of op))
own-outcome op graph there = at (needed_by op) there
  where
    at : (needed : Option Name) → ((name : Name) → needed ≡ Some name → IsSome (graph name)) → refused_if (is_absent_in graph needed && is_some (graph (vertex_of op))) NoTarget (outcome_of_op op (graph (vertex_of op))) ≡ outcome_of_op op (graph (vertex_of op))
    at None f = refl
    at (Some name) f = ap (λ b. refused_if (not b && is_some (graph (vertex_of op))) NoTarget (outcome_of_op op (graph (vertex_of op)))) (f name refl)

-- What is met in turn

-- the state of a vertex after one operation in front, which passed
after-first : (op : Op) (ops : List Op) (graph : PlainGraph) (p : State × Answered) (v : Name) → outcome_of_op op (graph (vertex_of op)) ≡ Ok p
    → state_after_ops (ops_on v (op ∷ ops)) (graph v) ≡ state_after_ops (ops_on v ops) (with_state (vertex_of op) p.0 graph v)
after-first op ops graph p v e = at (same_name (vertex_of op) v) refl
  where
    at : (b : Bool) → same_name (vertex_of op) v ≡ b → state_after_ops (cond b (op ∷ ops_on v ops) (ops_on v ops)) (graph v) ≡ state_after_ops (ops_on v ops) (cond b p.0 (graph v))
    at true same =
        let here : vertex_of op ≡ v = one_name _ _ same in
        ap (λ (o : Outcome). state_after_ops (ops_on v ops) (state_left (graph v) o)) (ap (λ k. outcome_of_op op (graph k)) (sym here) ∙ e)
    at false other = refl

run-rest : (gots : List Got) (o : TxOutcome) → IsTrue (is_ok (with_gots_before gots o)) → IsTrue (is_ok o)
run-rest gots (Ok p) h = h
run-rest gots (Err stopped) h = h

-- if operations pass on a graph, what they need is there in turn
pub needs-met : (ops : List Op) (number : ℕ) (graph : PlainGraph) → IsTrue (is_ok (run number ops graph)) → NeedsAreMet ops graph
needs-met [] number graph h = λ before after op needed is e. absurd (none before after op is)
  where
    none : (before after : List Op) (op : Op) → [] ≡ before ++ op ∷ after → ⊥
    none [] after op e = cc
    none (x ∷ before) after op e = cc
needs-met (first ∷ ops) number graph h =
    elim (outcome_in first graph) as (λ o. outcome_in first graph ≡ o → IsTrue (is_ok (outcome_then number (in_graph (vertex_of first) o graph) (λ next. run (number + 1) ops next))) → NeedsAreMet (first ∷ ops) graph) [
      | Ok p ↦ λ e k. at p e (needs-met ops (number + 1) (with_state (vertex_of first) p.0 graph) (run-rest _ _ k))
      | Err reason ↦ λ e k. absurd (cc)
    ] refl h
  where
    at : (p : State × Answered) → outcome_in first graph ≡ Ok p → NeedsAreMet ops (with_state (vertex_of first) p.0 graph) → NeedsAreMet (first ∷ ops) graph
    at p e later [] after op needed is need =
        let same : first ≡ op = same-head first op ops after is in
        there-for first graph needed (ap needed_by same ∙ need) (ap is_ok e)
    at p e later (x ∷ before) after op needed is need =
        let same : first ≡ x = same-head first x ops _ is in
        subst (λ k. IsSome (state_after_ops (ops_on needed (k ∷ before)) (graph needed))) same
        (subst IsSome (sym (after-first first before graph p needed (own-passes first graph p e))) (later before after op needed (same-tail first x ops _ is) need))

-- And back

after-ok : (gots : List Got) (o : TxOutcome) → IsTrue (is_ok o) → IsTrue (is_ok (with_gots_before gots o))
after-ok gots (Ok p) h = h
after-ok gots (Err stopped) h = h

-- the first operation passes on its vertex, and the rest pass on the graph that it leaves
first-passes : (op : Op) (ops : List Op) (graph : PlainGraph) → ((v : Name) → IsTrue (none_refused (ops_on v (op ∷ ops)) (graph v))) → IsTrue (is_ok (outcome_of_op op (graph (vertex_of op))))
first-passes op ops graph each =
    let u = vertex_of op in
    let here : IsTrue (none_refused (op ∷ ops_on u ops) (graph u)) = subst (λ b. IsTrue (none_refused (cond b (op ∷ ops_on u ops) (ops_on u ops)) (graph u))) (same_name-refl u) (each u) in
    (and_parts _ _ here).0

rest-passes : (op : Op) (ops : List Op) (graph : PlainGraph) (now : State) (answered : Answered) → outcome_of_op op (graph (vertex_of op)) ≡ Ok (now, answered) → ((v : Name) → IsTrue (none_refused (ops_on v (op ∷ ops)) (graph v))) → (v : Name) → IsTrue (none_refused (ops_on v ops) (with_state (vertex_of op) now graph v))
rest-passes op ops graph now answered e each v = at (same_name (vertex_of op) v) refl (each v)
  where
    at : (b : Bool) → same_name (vertex_of op) v ≡ b → IsTrue (none_refused (cond b (op ∷ ops_on v ops) (ops_on v ops)) (graph v)) → IsTrue (none_refused (ops_on v ops) (cond b now (graph v)))
    at true same h =
        let here : vertex_of op ≡ v = one_name _ _ same in
        let is : outcome_of_op op (graph v) ≡ Ok (now, answered) = ap (λ k. outcome_of_op op (graph k)) (sym here) ∙ e in
        subst (λ (o : Outcome). IsTrue (is_ok o && none_refused (ops_on v ops) (state_left (graph v) o))) is h
    at false other h = h

-- what the first needs is there
first-met : (op : Op) (ops : List Op) (graph : PlainGraph) → NeedsAreMet (op ∷ ops) graph → (needed : Name) → needed_by op ≡ Some needed → IsSome (graph needed)
first-met op ops graph met needed e = met [] ops op needed refl e

-- and so is what the rest need, on the graph that it leaves
rest-met : (first : Op) (ops : List Op) (graph : PlainGraph) (p : State × Answered) → outcome_of_op first (graph (vertex_of first)) ≡ Ok p → NeedsAreMet (first ∷ ops) graph → NeedsAreMet ops (with_state (vertex_of first) p.0 graph)
rest-met first ops graph p e met = λ before after op needed is need.
    subst IsSome (after-first first before graph p needed e) (met (first ∷ before) after op needed (ap (λ more. first ∷ more) is) need)

-- if those on each vertex pass on its state, and what they need is there in turn, all of them pass on the graph
pub each-passes : (ops : List Op) (number : ℕ) (graph : PlainGraph) → ((v : Name) → IsTrue (none_refused (ops_on v ops) (graph v))) → NeedsAreMet ops graph → IsTrue (is_ok (run number ops graph))
each-passes [] number graph each met = refl
each-passes (op ∷ ops) number graph each met =
    elim (outcome_in op graph) as (λ o. outcome_in op graph ≡ o → IsTrue (is_ok o) → IsTrue (is_ok (outcome_then number (in_graph (vertex_of op) o graph) (λ next. run (number + 1) ops next)))) [
      | Ok p ↦ λ e h. after-ok _ _ (each-passes ops (number + 1) (with_state (vertex_of op) p.0 graph) (rest-passes op ops graph p.0 p.1 (own-passes op graph p e) each) (rest-met op ops graph p (own-passes op graph p e) met))
      | Err reason ↦ λ e h. absurd (cc)
    ] refl (ap is_ok (own-outcome op graph (first-met op ops graph met)) ∙ first-passes op ops graph each)
