-- A search that has read all that it asks for of a graph answers as the graph does.
-- Used by `ask_with_visits`, `searched`, `visits_of` and `walked`.
use Rattle.std.proofs.Common.{◌≡◌, Bool, true, false, ◌||◌, List, ◌∷◌, IsTrue, length, refl, sym, ap, subst, ◌∙◌, None}
use Rattle.std.specs.Prelude.{if◌then◌else◌, ◌↔◌}
use Rattle.std.specs.Map.{keys_of}
use Rattle.weave_data.specs.Names.{same_name, one_name}
use Rattle.weave_data.specs.declared.name.Name.{Name}
use Rattle.graph_ops.specs.Mentions.{is_among}
use Rattle.graph_ops.specs.Operations.{State}
use Rattle.graph_ops.specs.PlainGraph.{PlainGraph}
use Rattle.program_defs.specs.declared.program.Program.{Program}
use Rattle.program_defs.specs.declared.program.Answer.{Answer}
use Rattle.program_defs.specs.Asking.{AreRead, HasReadOf, HasAllRead, HasWalkedOf, HasAllWalked, HasReadNames, HasNotedWalk}
use Rattle.program_defs.specs.PlainAnswer.{IsPlainAnswer}
use Rattle.program_defs.specs.Searching.{SearchState, SameReached, HasSearched, has_name, next_of}
use Rattle.program_defs.specs.Visits.{IsListOfVisits, IsVisited, graph_read, first_of, visits_to}
use Rattle.program_defs.specs.LeastWalks.{WalkState, SameWalked, HasWalked}
use Rattle.program_defs.proofs.Pathing.{same-walked}
use Rattle.program_defs.proofs.Answering.{over-at-end, agree-on-visits, same-search}
use Rattle.program_defs.proofs.AnswersAgree.{answer-same}
use Rattle.program_defs.proofs.NextVisit.{visits-of-reads}
use Rattle.program_defs.proofs.VisitsAgree.{list-same}

-- one more vertex of the graph is read
pub read-more : (program : Program) (graph : PlainGraph) (was made now : SearchState) (v : Name) (state : State) → HasReadOf program graph was → SameReached was made → state ≡ graph v
    → ((reads : List (Name × State)) → HasSearched program made reads → HasSearched program now ((v, state) ∷ reads)) → HasReadOf program graph now
read-more program graph was made now v state h same is sees = record {
  reads = (v, state) ∷ h.reads;
  searched = sees h.reads (same-search program was made h.reads same h.searched);
  agree = λ w k. at w (same_name v w) refl k;
}
  where
    at : (w : Name) (b : Bool) → same_name v w ≡ b → IsTrue (b || is_among (keys_of h.reads) w) → (if b then state else graph_read h.reads w) ≡ graph w
    at w true e k = is ∙ ap graph (one_name v w e)
    at w false e k = h.agree w k

-- searches that differ in the room and in the order of the table alone have the same next vertex
pub same-next : (was made : SearchState) → SameReached was made → next_of made ≡ next_of was
same-next was made same = λ i. if same.over i then None else first_of (same.rest i)

-- if all is read, the answer over the reads is that of the graph
pub answer-of-all : (program : Program) (graph : PlainGraph) (state : SearchState) (answer : Answer) → (all : HasAllRead program graph state) → IsPlainAnswer (graph_read all.read.reads) program answer → IsPlainAnswer graph program answer
answer-of-all program graph state answer all is =
    answer-same (graph_read all.read.reads) graph program (agree-on-visits program all.read.reads graph (over-at-end program state all.read.reads all.read.searched all.over) all.read.agree) answer is

-- The search for the least walk

-- one more vertex of the graph is read: the search for the least walk has still read states of it, and no others
pub walk-more : (program : Program) (graph : PlainGraph) (was made now : WalkState) (v : Name) (state : State) → HasWalkedOf program graph was → SameWalked was made → state ≡ graph v
    → ((reads : List (Name × State)) → HasWalked program made reads → HasWalked program now ((v, state) ∷ reads)) → HasWalkedOf program graph now
walk-more program graph was made now v state h same is sees = record {
  reads = (v, state) ∷ h.reads;
  walked = sees h.reads (same-walked program was made h.reads same h.walked);
  agree = λ w k. at w (same_name v w) refl k;
}
  where
    at : (w : Name) (b : Bool) → same_name v w ≡ b → IsTrue (b || is_among (keys_of h.reads) w) → (if b then state else graph_read h.reads w) ≡ graph w
    at w true e k = is ∙ ap graph (one_name v w e)
    at w false e k = h.agree w k

abbrev pub all-of-walk : (program : Program) (graph : PlainGraph) (walk : WalkState) → HasAllWalked program graph walk → HasAllRead program graph walk.search
all-of-walk program graph walk all = record { read = record { reads = all.read.reads; searched = all.read.walked.searched; agree = all.read.agree }; over = all.over }

-- What is visited

-- with one more vertex read and noted, the vertices read are still just the noted ones
pub read-one : (reads : List (Name × State)) (v : Name) (state : State) (names now : List Name) → AreRead reads names → ((w : Name) → has_name now w ≡ (same_name v w || has_name names w)) → AreRead ((v, state) ∷ reads) now
read-one reads v state names now h put w = put w ∙ ap (λ b. same_name v w || b) (h w)

-- one more vertex of the graph is read and noted: the search has still read just the noted vertices, and of this graph
pub note-more : (program : Program) (graph : PlainGraph) (was made now : SearchState) (v : Name) (state : State) (names after : List Name) → HasReadNames program graph was names → SameReached was made → state ≡ graph v
    → ((reads : List (Name × State)) → HasSearched program made reads → HasSearched program now ((v, state) ∷ reads)) → ((w : Name) → has_name after w ≡ (same_name v w || has_name names w)) → HasReadNames program graph now after
unfolding read-more
note-more program graph was made now v state names after h same is sees put = record {
  read = read-more program graph was made now v state h.read same is sees;
  noted = read-one h.read.reads v state names after h.noted put;
}

-- the same of the search for the least walk
pub note-walk : (program : Program) (graph : PlainGraph) (was made now : WalkState) (v : Name) (state : State) (names after : List Name) → HasNotedWalk program graph was names → SameWalked was made → state ≡ graph v
    → ((reads : List (Name × State)) → HasWalked program made reads → HasWalked program now ((v, state) ∷ reads)) → ((w : Name) → has_name after w ≡ (same_name v w || has_name names w)) → HasNotedWalk program graph now after
unfolding walk-more
note-walk program graph was made now v state names after h same is sees put = record {
  read = walk-more program graph was made now v state h.read same is sees;
  noted = read-one h.read.reads v state names after h.noted put;
}

-- if all is read, what was read is what the program visits
pub visited-of-all : (program : Program) (graph : PlainGraph) (search : SearchState) (names : List Name) → (all : HasAllRead program graph search) → AreRead all.read.reads names → (v : Name) → IsTrue (has_name names v) ↔ IsVisited graph program v
visited-of-all program graph search names all noted v =
    let reads = all.read.reads in
    let read = over-at-end program search reads all.read.searched all.over in
    let agree = agree-on-visits program reads graph read all.read.agree in
    let list : IsListOfVisits graph program (visits_to (length reads) (graph_read reads) program) = list-same (graph_read reads) graph program (visits_to (length reads) (graph_read reads) program) agree (visits-of-reads reads program) in (
      λ k. (list.last_level, subst (λ (xs : List Name). IsTrue (is_among xs v)) list.in_turn (all.read.searched.found.visited v (sym (noted v) ∙ k))),
      λ h. noted v ∙ read v (list.whole v h),
    )
