-- What a search says of its program.
-- Used by `ask_with_visits`, `path_searches_are_right`, `searches_are_right`, Asking, Ending and Pathing.
use Rattle.std.proofs.Common.{◌≡◌, ℕ, Bool, true, false, not, List, [], ◌∷◌, ◌++◌, IsTrue, length, refl, sym, ap, subst, ◌∙◌, Option, Some, None}
use Rattle.std.specs.Prelude.{is_some, IsSome, if◌then◌else◌}
use Rattle.std.specs.List.{find}
use Rattle.std.specs.Map.{keys_of}
use Rattle.std.proofs.lemmas.Bool.{or_left, or_right, and_parts}
use Rattle.weave_data.specs.Names.{same_name}
use Rattle.weave_data.specs.declared.name.Name.{Name}
use Rattle.graph_ops.specs.Mentions.{is_among}
use Rattle.graph_ops.specs.Operations.{State}
use Rattle.graph_ops.specs.PlainGraph.{PlainGraph}
use Rattle.graph_ops.proofs.Vertices.{same_name-refl}
use Rattle.program_defs.specs.declared.passing.Passing.{Passing}
use Rattle.program_defs.specs.declared.program.Filter.{Filter}
use Rattle.program_defs.specs.declared.program.Program.{Program}
use Rattle.program_defs.specs.declared.program.Program.TheVariants.{Reach, Around}
use Rattle.program_defs.specs.declared.program.Answer.TheVariants.{Reached, Found}
use Rattle.program_defs.specs.Agreement.{Agree, AgreeOnVisits}
use Rattle.program_defs.specs.PlainAnswer.{IsPlainAnswer}
use Rattle.program_defs.specs.Searching.{SearchState, IsGoing, HasSearched, SameReached, AllRead, next_of, levels_read}
use Rattle.program_defs.specs.Visits.{as_set, through_level, visits_to, graph_read, next_visit, first_of}
use Rattle.program_defs.specs.Walks.{passing_of, is_walk, is_walk_within}
use Rattle.program_defs.proofs.Closed.{end_present}
use Rattle.program_defs.proofs.Cutting.{cut, cut-free}
use Rattle.program_defs.proofs.Levels.{levels-are-distances}
use Rattle.program_defs.proofs.Members.{as_set-has, as_set-only}
use Rattle.program_defs.proofs.NextVisit.{read-there, visits-of-reads}
use Rattle.program_defs.proofs.Once.{new-after, visits-once}
use Rattle.program_defs.proofs.Onward.{find-next, first-cut}
use Rattle.program_defs.proofs.Searched.{visits-through}
use Rattle.program_defs.specs.Searching.{IsOnce}
use Rattle.program_defs.proofs.Sets.{set-rising, as_set-set}
use Rattle.program_defs.proofs.VisitsAgree.{up-to-only}

-- none is left if all are read
find-none : (keys visits : List Name) → ((v : Name) → IsTrue (is_among visits v) → IsTrue (is_among keys v)) → find (λ v. not (is_among keys v)) visits ≡ None
find-none keys [] all = refl
find-none keys (v ∷ visits) all = rw (all v (or_left _ _ (same_name-refl v))) (find-none keys visits (λ w k. all w (or_right (same_name v w) _ k)))

first-of-cut : (target : Option Name) (x : Name) (xs : List Name) → Some x ≡ first_of (cut target (x ∷ xs))
first-of-cut None x xs = refl
first-of-cut (Some to) x xs = first-cut to x xs

-- a search of a program after some reads asks next for the program's next visit, and for none if there is none
pub next-is-next : (program : Program) (state : SearchState) (reads : List (Name × State)) → HasSearched program state reads → next_of state ≡ next_visit reads program
next-is-next program state reads h = at state.over refl
  where
    going : (n : ℕ) (done : List Name) → IsGoing state reads n done → (rest : List Name) → state.rest ≡ rest → first_of rest ≡ next_visit reads program
    going n done g [] e = let more : IsSome (first_of []) = subst (λ xs. IsSome (first_of xs)) e g.more in cc
    going n done g (x ∷ rest) e =
        let visits = visits-through state program reads n done g.within h.aim in
        let before : List Name = (levels_read reads state.aim n).before ++ done in
        let is : visits_to (length reads) (graph_read reads) program ≡ before ++ cut state.aim.target (x ∷ rest ++ visits.0) =
        visits.1 ∙ ap (λ xs. cut state.aim.target (before ++ (xs ++ visits.0))) e ∙ cut-free state.aim.target before (x ∷ rest ++ visits.0) g.free in
        first-of-cut state.aim.target x (rest ++ visits.0)
        ∙ sym (find-next (keys_of reads) before (cut state.aim.target (x ∷ rest ++ visits.0)) (λ v k. g.within.read v ∙ k) (λ y first.
        g.within.read y ∙ new before (cut state.aim.target (x ∷ rest ++ visits.0)) y first (subst IsOnce is (visits-once (length reads) (graph_read reads) program))))
        ∙ ap (find (λ v. not (is_among (keys_of reads) v))) (sym is)
      where
        new : (before rest : List Name) (y : Name) → first_of rest ≡ Some y → IsOnce (before ++ rest) → is_among before y ≡ false
        new before [] y e once = cc
        new before (z ∷ rest) y e once = let same : z ≡ y = cc in subst (λ u. is_among before u ≡ false) same (new-after before z rest once)

    at : (b : Bool) → state.over ≡ b → (if b then None else first_of state.rest) ≡ next_visit reads program
    at true e = sym (find-none (keys_of reads) (visits_to (length reads) (graph_read reads) program) (h.ended e))
    at false e = let g = h.going e in going g.0 g.1 g.2 state.rest refl

no-first : (names : List Name) → IsSome (first_of names) → ¬ (first_of names ≡ None)
no-first [] some none = cc
no-first (x ∷ xs) some none = cc

-- if there is no next one, all are read
pub over-at-end : (program : Program) (state : SearchState) (reads : List (Name × State)) → HasSearched program state reads → next_of state ≡ None → AllRead reads program
over-at-end program state reads h none = at state.over refl none
  where
    at : (b : Bool) → state.over ≡ b → (if b then None else first_of state.rest) ≡ None → AllRead reads program
    at true e n = h.ended e
    at false e n = let more = (h.going e).2.more in let is : first_of state.rest ≡ None = n in absurd (no-first state.rest more is)

-- what is read agrees with a graph, and so it does on the visits
pub agree-on-visits : (program : Program) (reads : List (Name × State)) (graph : PlainGraph) → AllRead reads program → Agree (graph_read reads) graph (keys_of reads) → AgreeOnVisits (graph_read reads) graph program
agree-on-visits program reads graph all agree v visited = agree v (all v ((visits-of-reads reads program).whole v visited))

-- Answers

walk-to : (graph : PlainGraph) (pass : Passing) (from v : Name) (n : ℕ) → IsTrue (is_some (graph v)) → IsTrue (is_among (through_level n graph pass from) v) → (walk : List Name) × IsTrue (is_walk_within n graph pass from v walk)
walk-to graph pass from v n there k = (levels-are-distances graph pass from n v there).0 k

-- on the graph of what was read, `reach` answers whether the target is among the vertices that the search found there
pub reach-answer : (from to : Name) (pass : Option Filter) (state : SearchState) (reads : List (Name × State)) → HasSearched (Reach from to pass) state reads → IsPlainAnswer (graph_read reads) (Reach from to pass) (Reached (is_among state.present to))
reach-answer from to pass state reads h = (
  λ k. (let w = walk-to (graph_read reads) (passing_of pass) from to (length reads) (sym (h.found.present to) ∙ k) (up-to-only to (through_level (length reads) (graph_read reads) (passing_of pass) from) to (h.found.visited to (read-there reads to (sym (h.found.present to) ∙ k)))) in (w.0, (and_parts (is_walk (graph_read reads) (passing_of pass) from to w.0) _ w.1).0)),
  λ w. h.found.present to ∙ end_present (graph_read reads) (passing_of pass) from to w.0 w.1,
)

-- and `around` answers the set of the vertices that the search found there
pub around-answer : (from : Name) (bound : ℕ) (pass : Option Filter) (state : SearchState) (reads : List (Name × State)) → HasSearched (Around from bound pass) state reads
    → IsPlainAnswer (graph_read reads) (Around from bound pass) (Found (as_set state.present))
around-answer from bound pass state reads h = (
  set-rising (as_set state.present) (as_set-set state.present),
  λ v. (
    λ k. (let in_list = as_set-only state.present v k in walk-to (graph_read reads) (passing_of pass) from v bound (sym (h.found.present v) ∙ in_list) (h.found.visited v (read-there reads v (sym (h.found.present v) ∙ in_list)))),
    λ w. as_set-has state.present v (h.found.present v ∙ end_present (graph_read reads) (passing_of pass) from v w.0 (and_parts (is_walk (graph_read reads) (passing_of pass) from v w.0) _ w.1).0),
  ),
)

-- a table in another order is the same search
pub same-search : (program : Program) (old new : SearchState) (reads : List (Name × State)) → SameReached old new → HasSearched program old reads → HasSearched program new reads
same-search program old new reads same h =
    subst (λ s. HasSearched program s reads) (λ i. record new { aim = sym same.aim i; left = sym same.left i; rest = sym same.rest i; found = sym same.found i; present = sym same.present i; over = sym same.over i }) (record {
      aim = h.aim;
      found = record { present = h.found.present; once = h.found.once; visited = h.found.visited };
      going = λ e. let g = h.going e in (
        g.0,
        g.1,
        record {
          within = record { left = g.2.within.left; level = g.2.within.level; read = g.2.within.read; reached = λ v. same.reached v ∙ g.2.within.reached v; found = g.2.within.found; found_once = g.2.within.found_once };
          more = g.2.more;
          free = g.2.free;
        },
      );
      ended = h.ended;
    })
