-- An operation on a table of states passes or is refused as on the table's graph, and leaves the new table's graph.
-- Used by `apply`, `copy`, `copy_slots`, `do_step`, `find`, `is_there`, `make_place`, `new`, `perform`, `read`,
-- `run_tx`, `undo`, `undo_step`, Rewinding and crates gatekeeper, program_defs and version_graph.
use Rattle.std.proofs.Common.{◌≡◌, Bool, true, false, cond, List, [], ◌∷◌, Option, Some, None, IsSome, is_some, Result, Ok, Err, IfOk, OnErr, refl, sym, ap, ◌∙◌, subst}
use Rattle.std.specs.Cmp.{eq_by_cmp_equiv}
use Rattle.std.specs.Cmp.Lexicographic.{nat_list_cmp_total}
use Rattle.std.specs.FinMap as map
use Rattle.std.specs.FinMap.{nat_cmp-IsAntisymmetric, slice_cmp-IsAntisymmetric, get-empty, get-insert, get-remove, same_map}
use Rattle.std.specs.List.{IsDistinct}
use Rattle.std.specs.Map.{keys_of}
use Rattle.std.proofs.lemmas.Map.{lookup-none}
use Rattle.std.proofs.lemmas.Map.Keys.{IsDistinct-tail}
use Rattle.std.proofs.lemmas.Map.Entries.{none_past_head}
use Rattle.weave_data.specs.Names.{name_cmp, same_name, one_name}
use Rattle.weave_data.specs.Pairs.{at_key}
use Rattle.weave_data.specs.declared.name.Name.{Name}
use Rattle.graph_ops.specs.Operations.{State, outcome_of_op, vertex_of, IfRefused}
use Rattle.graph_ops.specs.PlainGraph.{PlainGraph, empty_graph, with_state, in_graph, on_graph, on_own_vertex}
use Rattle.graph_ops.specs.Graphs.{Vertices, plain_of}
use Rattle.graph_ops.specs.Slots.{state_in, states_of, with_slot, vertices_held, Covers}
use Rattle.graph_ops.specs.TakingBack.{taken_back, CanTakeBack, HasOutcome, step_back}
use Rattle.graph_ops.specs.Journals.{Keeps}
use Rattle.graph_ops.specs.declared.op.Op.{Op}
use Rattle.graph_ops.specs.declared.op.Op.TheVariants.{Get}
use Rattle.graph_ops.specs.declared.op.Answered.TheVariants as answered
use Rattle.graph_ops.specs.declared.op.OpFault.{OpFault}
use Rattle.graph_ops.specs.declared.op.OpFault.TheVariants.{Refused, Memory}
use Rattle.graph_ops.specs.declared.back.Back.{Back}
use Rattle.graph_ops.specs.declared.back.Change.{Change}

-- what holds at a name, if the two names are the same, and at every name, if they differ
pub here_or_else : (v : Name) (P : Name → Bool → Type 0) → P v true → ((q : Name) → P q false) → (q : Name) → P q (same_name v q)
here_or_else v P here other q =
    elim (same_name v q) as (λ b. same_name v q ≡ b → P q b) [
      | true ↦ λ same. subst (λ k. P k true) (one_name v q same) here
      | false ↦ λ _. other q
    ] refl

-- sameness of two names can be turned
pub same_name-sym : (v q : Name) → same_name v q ≡ same_name q v
same_name-sym = (eq_by_cmp_equiv nat_list_cmp_total).symm

written_state : (b : Bool) (s : State) (x : Option State) → cond b s (state_in x) ≡ state_in (cond b (Some s) x)
written_state true s x = refl
written_state false s x = refl

-- the second table is the first with this state of a vertex
abbrev pub Writes : Name → State → List (Name × State) → List (Name × State) → Type 0
Writes v s es fs = (q : Name) → at_key q fs ≡ cond (same_name v q) (Some s) (at_key q es)

-- The finite map of a table.

-- the finite map with a state of a vertex has this state there, and elsewhere what it had
pub get_with : (v : Name) (s : State) (vertices : Vertices) (q : Name) → map.get (with_slot v s vertices) q ≡ cond (same_name q v) s (map.get vertices q)
get_with v None vertices q = get-remove nat_list_cmp_total vertices v q
get_with v (Some now) vertices q = get-insert nat_list_cmp_total vertices v now q

-- the finite map of a table has the states of the table
pub get_held : (slots : List (Name × State)) (q : Name) → map.get (vertices_held slots) q ≡ states_of slots q
unfolding states_of
get_held [] q = get-empty name_cmp q
get_held (slot ∷ rest) q = get_with slot.0 slot.1 (vertices_held rest) q ∙ ap (cond (same_name q slot.0) slot.1) (get_held rest q) ∙ written_state (same_name q slot.0) slot.1 (at_key q rest)

-- its plain graph has the states of the table
pub seen : (slots : List (Name × State)) (vertices : Vertices) → vertices_held slots ≡ vertices → plain_of vertices ≡ states_of slots
seen slots vertices view = ap plain_of (sym view) ∙ (λ i q. get_held slots q i)

-- the plain graph of an empty table is the empty graph
pub seen_empty : (slots : List (Name × State)) → slots ≡ [] → plain_of (vertices_held slots) ≡ empty_graph
seen_empty slots e = ap (λ all. plain_of (vertices_held all)) e ∙ (λ i q. get-empty name_cmp q i)

-- finite maps of the same states are equal
pub one_map : (a b : Vertices) → ((q : Name) → map.get a q ≡ map.get b q) → a ≡ b
one_map a b same = same_map nat_list_cmp_total (slice_cmp-IsAntisymmetric nat_cmp-IsAntisymmetric) a b same

-- tables of the same states give the same finite map
pub unchanged : (slots others : List (Name × State)) (vertices : Vertices) → vertices_held others ≡ vertices → states_of slots ≡ states_of others → vertices_held slots ≡ vertices
unchanged slots others vertices view same = one_map _ _ (λ q. get_held slots q ∙ ap (λ graph. graph q) same ∙ sym (get_held others q)) ∙ view

-- The states of a table.

-- the state in a place
pub state_there : (v : Name) (slots : List (Name × State)) (x : Option State) → at_key v slots ≡ x → state_in x ≡ states_of slots v
unfolding states_of
state_there v slots x e = ap state_in (sym e)

-- what is found in the place of a vertex is its state in the plain graph; without a place it is absent
pub found : (v : Name) (slots : List (Name × State)) (vertices : Vertices) (x : Option State) → vertices_held slots ≡ vertices → at_key v slots ≡ x → state_in x ≡ plain_of vertices v
found v slots vertices x view e = state_there v slots x e ∙ ap (λ graph. graph v) (sym (seen slots vertices view))

-- a `Get` leaves the graph as it was and answers with the state of its vertex
pub reads : (v : Name) (graph : PlainGraph) (state : State) → state ≡ graph v → on_graph (Get v) graph ≡ Ok (graph, answered.Got state)
reads v graph state is = λ i. Ok ((λ q. here_or_else v (λ k b. cond b (graph v) (graph k) ≡ graph k) refl (λ k. refl) q i), answered.Got (sym is i))

-- a table with a state written at a vertex gives the graph with this state there
pub written : (v : Name) (s : State) (es fs : List (Name × State)) → Writes v s es fs → states_of fs ≡ with_state v s (states_of es)
unfolding states_of
written v s es fs writes = λ i q. (ap state_in (writes q) ∙ sym (written_state (same_name v q) s (at_key q es))) i

-- a new place, of an absent vertex, is not seen
pub placed : (v : Name) (es fs : List (Name × State)) → at_key v es ≡ None → Writes v None es fs → states_of fs ≡ states_of es
unfolding states_of
placed v es fs none writes = λ i q. (
    ap state_in (writes q)
    ∙ here_or_else v (λ k b. state_in (cond b (Some None) (at_key k es)) ≡ state_in (at_key k es)) (ap state_in (sym none)) (λ k. refl) q
    ) i

-- if no place is found, what was found is none
pub absent : (x : Option State) → is_some x ≡ false → x ≡ None
absent None e = refl
absent (Some s) e = cc

-- a state that is written over again
pub rewritten : (v : Name) (was now : State) (graph : PlainGraph) → graph v ≡ was → with_state v was (with_state v now graph) ≡ graph
rewritten v was now graph is = λ i q. here_or_else v (λ k b. cond b was (cond b now (graph k)) ≡ graph k) (sym is) (λ k. refl) q i

-- the graph with a state of a vertex has this state there
pub state_of_written : (v : Name) (now : State) (graph : PlainGraph) → with_state v now graph v ≡ now
state_of_written v now graph = ap (λ b. cond b now (graph v)) ((eq_by_cmp_equiv nat_list_cmp_total).refl v)

-- an operation in the place of its vertex, where `was` was before and `now` was written
module _ (op : Op) (v : Name) (e : v ≡ vertex_of op) (es fs : List (Name × State)) (was now : State) (there : at_key v es ≡ Some was) (writes : IsSome (at_key v es) → Writes v now es fs) where
  before : states_of es (vertex_of op) ≡ was
  before = subst (λ k. states_of es k ≡ was) e (sym (state_there v es _ there))

  comes : on_own_vertex op (states_of es) ≡ in_graph (vertex_of op) (outcome_of_op op was) (states_of es)
  comes = ap (λ s. in_graph (vertex_of op) (outcome_of_op op s) (states_of es)) before

  becomes : states_of fs ≡ with_state (vertex_of op) now (states_of es)
  becomes = subst (λ k. states_of fs ≡ with_state k now (states_of es)) e (written v now es fs (writes (ap is_some there)))

  state_now : states_of fs (vertex_of op) ≡ now
  state_now = ap (λ (graph : PlainGraph). graph (vertex_of op)) becomes ∙ state_of_written (vertex_of op) now (states_of es)

  as_before : (state : State) → state ≡ was → with_state (vertex_of op) state (states_of fs) ≡ states_of es
  as_before state is = ap (λ s. with_state (vertex_of op) s (states_of fs)) is ∙ ap (with_state (vertex_of op) was) becomes ∙ rewritten (vertex_of op) was now (states_of es) before

  -- if the call passed, the operation passes on the table's graph with its answer, and leaves the new table's graph
  pub done : (result : Result Change OpFault) → HasOutcome (outcome_of_op op was) was now result → IfOk result (λ change. on_own_vertex op (states_of es) ≡ Ok (states_of fs, change.answered))
  done (Ok change) a = comes ∙ ap (λ o. in_graph (vertex_of op) o (states_of es)) a.0 ∙ ap (λ (k : PlainGraph). Ok (k, change.answered)) (sym becomes)
  done (Err fault) a = tt

  -- and the step that it noted takes the change back
  pub kept : (result : Result Change OpFault) → HasOutcome (outcome_of_op op was) was now result → IfOk result (λ change. Keeps (record { v = vertex_of op; back = change.back }) fs es)
  kept (Ok change) a = (subst (CanTakeBack change.back) (sym state_now) a.1, as_before _ (ap (taken_back change.back) state_now ∙ a.2))
  kept (Err fault) a = tt

  -- if the call was refused, the operation is refused on the table's graph for the same reason
  pub refused : (result : Result Change OpFault) → HasOutcome (outcome_of_op op was) was now result → IfRefused result (λ reason. on_own_vertex op (states_of es) ≡ Err reason)
  refused (Ok change) a = tt
  refused (Err (Refused reason)) a = comes ∙ ap (λ o. in_graph (vertex_of op) o (states_of es)) a.0
  refused (Err Memory) a = tt

  unmoved : now ≡ was → states_of fs ≡ states_of es
  unmoved same = becomes ∙ ap (λ s. with_state (vertex_of op) s (states_of es)) (same ∙ sym before) ∙ (λ i q. here_or_else (vertex_of op) (λ k b. cond b (states_of es (vertex_of op)) (states_of es k) ≡ states_of es k) refl (λ k. refl) q i)

  -- after either fault the table has the same states as before
  pub as_it_was : (result : Result Change OpFault) → HasOutcome (outcome_of_op op was) was now result → OnErr result (states_of fs ≡ states_of es)
  as_it_was (Ok change) a = tt
  as_it_was (Err (Refused reason)) a = unmoved a.1
  as_it_was (Err Memory) a = unmoved a

-- no place is lost when a state is written
pub covers_written : (v : Name) (s : State) (es fs : List (Name × State)) → Writes v s es fs → Covers fs es
covers_written v s es fs writes q there = subst IsSome (sym (writes q)) (here_or_else v (λ k b. IsSome (at_key k es) → IsSome (cond b (Some s) (at_key k es))) (λ _. refl) (λ k h. h) q there)

-- a step taken back in the place of its vertex
pub taken_back_at : (v : Name) (back : Back) (es fs : List (Name × State)) (was now : State) → at_key v es ≡ Some was → Writes v now es fs → now ≡ taken_back back was → states_of fs ≡ step_back (record { v = v; back = back }) (states_of es)
taken_back_at v back es fs was now there writes is = written v now es fs writes ∙ ap (λ s. with_state v s (states_of es)) (is ∙ ap (taken_back back) (state_there v es (Some was) there))

-- the first of two states that is there
abbrev pub first_of : Option State → Option State → Option State
first_of None second = second
first_of (Some s) second = Some s

-- one more state of a table is copied
pub copied_more : (v : Name) (s copy : State) (all front rest es fs : List (Name × State)) → front ≡ (v, s) ∷ rest → copy ≡ s → IsDistinct same_name (keys_of front) → Writes v copy es fs → ((q : Name) → first_of (at_key q front) (at_key q es) ≡ at_key q all) → (q : Name) → first_of (at_key q rest) (at_key q fs) ≡ at_key q all
copied_more v s copy all front rest es fs is same apart writes states q =
    ap (first_of (at_key q rest)) (writes q ∙ ap (λ x. cond (same_name v q) (Some x) (at_key q es)) same ∙ ap (λ b. cond b (Some s) (at_key q es)) (same_name-sym v q))
    ∙ here_first (same_name q v) (at_key q rest) (at_key q es) gone
    ∙ ap (λ pairs. first_of (at_key q pairs) (at_key q es)) (sym is) ∙ states q
  where
    gone : same_name q v ≡ true → at_key q rest ≡ None
    gone one = lookup-none (same_name q) rest (none_past_head (eq_by_cmp_equiv nat_list_cmp_total) q (v, s) rest (subst (λ pairs. IsDistinct same_name (keys_of pairs)) is apart) one)

    here_first : (b : Bool) (x y : Option State) → (b ≡ true → x ≡ None) → first_of x (cond b (Some s) y) ≡ first_of (cond b (Some s) x) y
    here_first true x y none = ap (λ z. first_of z (Some s)) (none refl)
    here_first false None y none = refl
    here_first false (Some t) y none = refl

-- if no vertex comes twice in a table, none does in the table without its first place
pub apart_rest : (v : Name) (s : State) (front rest : List (Name × State)) → front ≡ (v, s) ∷ rest → IsDistinct same_name (keys_of front) → IsDistinct same_name (keys_of rest)
apart_rest v s front rest is apart = IsDistinct-tail same_name v (keys_of rest) (subst (λ pairs. IsDistinct same_name (keys_of pairs)) is apart)

-- when nothing is left to copy, the copy has the states of the whole table
pub all_copied : (front es all : List (Name × State)) → front ≡ [] → ((q : Name) → first_of (at_key q front) (at_key q es) ≡ at_key q all) → states_of es ≡ states_of all
unfolding states_of
all_copied front es all none states = λ i q. (ap (λ pairs. state_in (first_of (at_key q pairs) (at_key q es))) (sym none) ∙ ap state_in (states q)) i
