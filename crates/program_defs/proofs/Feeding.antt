-- Programs that are fed the states of one graph.
-- Used by `programs_visit_in_order`.
use Rattle.std.proofs.Common.{◌≡◌, Bool, true, false, ◌||◌, List, [], ◌∷◌, ◌++◌, reverse, refl, sym, ap, subst, ◌∙◌, None}
use Rattle.std.specs.Prelude.{if◌then◌else◌}
use Rattle.std.proofs.lemmas.List.{reverse-append, map-append}
use Rattle.std.proofs.lemmas.List.Folds.{list_any-append}
use Rattle.weave_data.specs.Names.{same_name, one_name}
use Rattle.weave_data.specs.declared.name.Name.{Name}
use Rattle.graph_ops.specs.Mentions.{is_among}
use Rattle.graph_ops.specs.PlainGraph.{PlainGraph}
use Rattle.program_defs.specs.declared.program.Program.{Program}
use Rattle.program_defs.specs.declared.program.Answer.{Answer}
use Rattle.program_defs.specs.Agreement.{AgreeOnVisits, AreSameReads}
use Rattle.program_defs.specs.PlainAnswer.{IsPlainAnswer}
use Rattle.program_defs.specs.Visits.{IsListOfVisits, graph_read, next_visit, states_at, first_of}
use Rattle.program_defs.proofs.AnswersAgree.{answer-same}
use Rattle.program_defs.proofs.Onward.{states-keys, states-agree, next-of-visits}
use Rattle.program_defs.proofs.ReadOrder.{next-in-any-order, answer-in-any-order}
use Rattle.program_defs.proofs.VisitsAgree.{agree-back}

states-reverse : (graph : PlainGraph) (vs : List Name) → reverse (states_at graph vs) ≡ states_at graph (reverse vs)
states-reverse graph [] = refl
states-reverse graph (v ∷ vs) =
    reverse-append ((v, graph v) ∷ []) (states_at graph vs)
    ∙ ap (λ xs. xs ++ (v, graph v) ∷ []) (states-reverse graph vs)
    ∙ sym (ap (states_at graph) (reverse-append (v ∷ []) vs) ∙ map-append (λ w. (w, graph w)) (reverse vs) (v ∷ []))

among-reverse : (vs : List Name) (w : Name) → is_among (reverse vs) w ≡ is_among vs w
among-reverse [] w = refl
among-reverse (v ∷ vs) w =
    ap (λ xs. is_among xs w) (reverse-append (v ∷ []) vs)
    ∙ list_any-append (λ other. same_name other w) (reverse vs) (v ∷ [])
    ∙ turned (is_among (reverse vs) w) (same_name v w)
    ∙ ap (λ b. same_name v w || b) (among-reverse vs w)
  where
    turned : (a b : Bool) → (a || (b || false)) ≡ (b || a)
    turned true true = refl
    turned true false = refl
    turned false true = refl
    turned false false = refl

-- the graph of the states of a graph
states-are : (graph : PlainGraph) (vs : List Name) (w : Name) → graph_read (states_at graph vs) w ≡ (if is_among vs w then graph w else None)
states-are graph [] w = refl
states-are graph (v ∷ vs) w = at (same_name v w) refl (states-are graph vs w)
  where
    at : (b : Bool) → same_name v w ≡ b → graph_read (states_at graph vs) w ≡ (if is_among vs w then graph w else None)
        → (if b then graph v else graph_read (states_at graph vs) w) ≡ (if b || is_among vs w then graph w else None)
    at true e rest = ap graph (one_name v w e)
    at false e rest = rest

reversed-same : (graph : PlainGraph) (vs : List Name) → AreSameReads (states_at graph (reverse vs)) (states_at graph vs)
reversed-same graph vs = record {
  vertices = λ w. ap (λ xs. is_among xs w) (states-keys graph (reverse vs)) ∙ among-reverse vs w ∙ sym (ap (λ xs. is_among xs w) (states-keys graph vs));
  states = λ w. states-are graph (reverse vs) w ∙ ap (λ b. if b then graph w else None) (among-reverse vs w) ∙ sym (states-are graph vs w);
}

newest-first : (graph : PlainGraph) (vs : List Name) → AreSameReads (reverse (states_at graph vs)) (states_at graph vs)
newest-first graph vs = subst (λ reads. AreSameReads reads (states_at graph vs)) (sym (states-reverse graph vs)) (reversed-same graph vs)

-- a program that was fed its first visits, the newest first, asks for the first of the rest, if there is one
pub next-in-turn : (graph : PlainGraph) (program : Program) (visits done rest : List Name) → IsListOfVisits graph program visits → visits ≡ done ++ rest → next_visit (reverse (states_at graph done)) program ≡ first_of rest
next-in-turn graph program visits done rest list split =
    next-in-any-order (reverse (states_at graph done)) (states_at graph done) program (newest-first graph done) ∙ next-of-visits graph program visits done rest list split

-- a plain answer on the states of all visits, the newest first, is a plain answer on the whole graph
pub answer-at-end : (graph : PlainGraph) (program : Program) (visits : List Name) (answer : Answer) → IsListOfVisits graph program visits → IsPlainAnswer (graph_read (reverse (states_at graph visits))) program answer → IsPlainAnswer graph program answer
answer-at-end graph program visits answer list is =
    let agree : AgreeOnVisits graph (graph_read (states_at graph visits)) program = λ v visited. states-agree graph visits v (list.whole v visited) in
    answer-same (graph_read (states_at graph visits)) graph program (agree-back graph (graph_read (states_at graph visits)) program agree) answer
    (answer-in-any-order (reverse (states_at graph visits)) (states_at graph visits) program answer (newest-first graph visits) is)
