-- One transaction on two graphs that have the same states at the vertices that it names.
-- Used by `other_vertices_change_nothing` and Naming.
use Rattle.std.proofs.Common.{◌≡◌, ℕ, ◌+◌, ◌&&◌, not, List, [], ◌∷◌, ◌++◌, Option, Some, None, is_some, Ok, Err, refl, ap, subst}
use Rattle.std.specs.Prelude.{if◌then◌else◌, option_to_list, ⊤}
use Rattle.weave_data.specs.Names.{same_name}
use Rattle.weave_data.specs.declared.name.Name.{Name}
use Rattle.graph_ops.specs.Alike.{EndAlike}
use Rattle.graph_ops.specs.Mentions.{named_by_op}
use Rattle.graph_ops.specs.Operations.{State, Outcome, needed_by, outcome_of_op, refused_if, vertex_of}
use Rattle.graph_ops.specs.PlainGraph.{PlainGraph, TxOutcome, with_state, in_graph, is_absent_in, outcome_in, gots_of_answer, with_gots_before, outcome_then, run}
use Rattle.graph_ops.specs.declared.op.Op.{Op}
use Rattle.graph_ops.specs.declared.op.Reason.TheVariants.{NoTarget}
use Rattle.graph_ops.specs.declared.tx.Got.{Got}

-- the graphs are alike at these vertices
abbrev pub AgreeAt : List Name → PlainGraph → PlainGraph → Type 0
AgreeAt [] g h = ⊤
AgreeAt (v ∷ more) g h = (g v ≡ h v) × AgreeAt more g h

-- and at the vertices that each operation names
abbrev pub AgreeFor : List Op → PlainGraph → PlainGraph → Type 0
AgreeFor [] g h = ⊤
AgreeFor (op ∷ ops) g h = AgreeAt (named_by_op op) g h × AgreeFor ops g h

agree-with : (u : Name) (now : State) (g h : PlainGraph) (v : Name) → g v ≡ h v → with_state u now g v ≡ with_state u now h v
agree-with u now g h v e = ap (λ s. if same_name u v then now else s) e

agree-at-with : (u : Name) (now : State) (g h : PlainGraph) (names : List Name) → AgreeAt names g h → AgreeAt names (with_state u now g) (with_state u now h)
agree-at-with u now g h [] a = tt
agree-at-with u now g h (v ∷ more) a = (agree-with u now g h v a.0, agree-at-with u now g h more a.1)

agree-for-with : (u : Name) (now : State) (g h : PlainGraph) (ops : List Op) → AgreeFor ops g h → AgreeFor ops (with_state u now g) (with_state u now h)
agree-for-with u now g h [] a = tt
agree-for-with u now g h (op ∷ ops) a = (agree-at-with u now g h (named_by_op op) a.0, agree-for-with u now g h ops a.1)

absent-alike : (needed : Option Name) (g h : PlainGraph) → AgreeAt (option_to_list needed) g h → is_absent_in g needed ≡ is_absent_in h needed
absent-alike None g h a = refl
absent-alike (Some v) g h a = ap (λ (s : State). not (is_some s)) a.0

-- on graphs alike at the vertices that it names an operation has one outcome
pub outcome-alike : (op : Op) (g h : PlainGraph) → AgreeAt (named_by_op op) g h → outcome_in op g ≡ outcome_in op h
outcome-alike op g h a =
    let absent = absent-alike (needed_by op) g h a.1 in
    λ i. refused_if (absent i && is_some (a.0 i)) NoTarget (outcome_of_op op (a.0 i))

after-alike : (gots : List Got) (g h next other : PlainGraph) → ((v : Name) → g v ≡ h v → next v ≡ other v) → (o u : TxOutcome) → EndAlike next other o u → EndAlike g h (with_gots_before gots o) (with_gots_before gots u)
after-alike gots g h next other f (Ok p) (Ok q) a = record { gots = ap (λ more. gots ++ more) a.gots; states = λ v e. a.states v (f v e) }
after-alike gots g h next other f (Err s) (Err t) a = a
after-alike gots g h next other f (Ok p) (Err t) a = absurd a
after-alike gots g h next other f (Err s) (Ok q) a = absurd a

-- on graphs alike at their vertices, operations pass alike, or are refused at the same one for the same reason
pub run-alike : (ops : List Op) (number : ℕ) (g h : PlainGraph) → AgreeFor ops g h → EndAlike g h (run number ops g) (run number ops h)
run-alike [] number g h a = record { gots = refl; states = λ v e. e }
run-alike (op ∷ ops) number g h a =
    let rest : (now : State) → EndAlike (with_state (vertex_of op) now g) (with_state (vertex_of op) now h) (run (number + 1) ops (with_state (vertex_of op) now g)) (run (number + 1) ops (with_state (vertex_of op) now h)) =
    λ now. run-alike ops (number + 1) (with_state (vertex_of op) now g) (with_state (vertex_of op) now h) (agree-for-with (vertex_of op) now g h ops a.1) in
    subst (λ (o : Outcome). EndAlike g h (outcome_then number (in_graph (vertex_of op) (outcome_in op g) g) (λ next. run (number + 1) ops next)) (outcome_then number (in_graph (vertex_of op) o h) (λ next. run (number + 1) ops next)))
    (outcome-alike op g h a.0) (at rest (outcome_in op g))
  where
    at : ((now : State) → EndAlike (with_state (vertex_of op) now g) (with_state (vertex_of op) now h) (run (number + 1) ops (with_state (vertex_of op) now g)) (run (number + 1) ops (with_state (vertex_of op) now h)))
        → (o : Outcome) → EndAlike g h (outcome_then number (in_graph (vertex_of op) o g) (λ next. run (number + 1) ops next)) (outcome_then number (in_graph (vertex_of op) o h) (λ next. run (number + 1) ops next))
    at rest (Err reason) = refl
    at rest (Ok p) =
        after-alike (gots_of_answer number p.1) g h (with_state (vertex_of op) p.0 g) (with_state (vertex_of op) p.0 h) (agree-with (vertex_of op) p.0 g h) _ _ (rest p.0)
