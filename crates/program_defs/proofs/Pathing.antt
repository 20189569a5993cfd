-- The search for the least walk after one more read, and what it answers.
-- Used by `new`, `path_searches_are_right`, `see`, `walk` and Asking.
use Rattle.std.proofs.Common.{append-nil, ◌≡◌, ℕ, zero, suc, ◌≤◌, Bool, true, false, List, [], ◌∷◌, ◌++◌, IsTrue, length, refl, sym, ap, subst, ◌∙◌, Option, Some, None, inl, inr, arith}
use Rattle.std.specs.Prelude.{is_some, is_none, nat_le}
use Rattle.std.specs.Map.{keys_of}
use Rattle.std.proofs.lemmas.Bool.{both_ways, leb-true, and_parts, false_from_ne_true}
use Rattle.weave_data.specs.declared.name.Name.{Name}
use Rattle.graph_ops.specs.Mentions.{is_among}
use Rattle.graph_ops.specs.Operations.{State}
use Rattle.graph_ops.specs.PlainGraph.{PlainGraph}
use Rattle.program_defs.specs.declared.aim.Aim.{Aim}
use Rattle.program_defs.specs.declared.path_search.Hop.{Hop}
use Rattle.program_defs.specs.declared.path_search.Mark.{Mark}
use Rattle.program_defs.specs.declared.passing.Passing.{Passing}
use Rattle.program_defs.specs.declared.program.Filter.{Filter}
use Rattle.program_defs.specs.declared.program.Program.{Program}
use Rattle.program_defs.specs.declared.program.Program.TheVariants.{Path}
use Rattle.program_defs.specs.declared.program.Answer.TheVariants.{Walk}
use Rattle.program_defs.specs.PlainAnswer.{IsPlainAnswer}
use Rattle.program_defs.specs.Ranks.{trace}
use Rattle.program_defs.specs.Searching.{SearchState, SeesVertex, IsWithinLevel, IsGoing, IsTargetNotIn, HasSearched, SameReached, aim_of, next_of, levels_read, gone_on}
use Rattle.program_defs.specs.Visits.{levels_to, through_level, graph_read, first_of}
use Rattle.program_defs.specs.LeastWalks.{WalkState, HasWalked, HasHops, HasMarked, IsMarkedBy, IsRankedTo, SameWalked, mark_in, marks_after, parents, ranks, hops_from}
use Rattle.program_defs.specs.Walks.{passing_of, targets, is_walk, IsLeastWalk}
use Rattle.program_defs.proofs.Answering.{same-search}
use Rattle.program_defs.proofs.Closed.{end_present}
use Rattle.program_defs.proofs.Leads.{no-nearer, trace-is-least}
use Rattle.program_defs.proofs.Members.{among-left, among-right, among-cases}
use Rattle.program_defs.proofs.NextVisit.{read-there}
use Rattle.program_defs.proofs.Rereading.{marked-kept, hops-more}
use Rattle.program_defs.proofs.Searched.{seen, none-first}
use Rattle.program_defs.proofs.Seeing.{same-levels-read, within-next}
use Rattle.program_defs.proofs.Stages.{IsStage, stage, going-with-room}
use Rattle.program_defs.proofs.Turning.{next-first}
use Rattle.program_defs.proofs.VisitsAgree.{up-to-only}
use Rattle.program_defs.proofs.Walked.{level-marked}

-- One more read

module _ (program : Program) (old : WalkState) (v : Name) (state : State) (reads : List (Name × State)) (h : HasWalked program old reads) (next : next_of old.search ≡ Some v) (last : SearchState) (step : SeesVertex v state old.search last) (aim_kept : last.aim ≡ old.search.aim) where
  abbrev reads' : List (Name × State)
  reads' = (v, state) ∷ reads

  abbrev now : PlainGraph
  now = graph_read ((v, state) ∷ reads)

  abbrev pass : Passing
  pass = old.search.aim.pass

  abbrev from : Name
  from = old.search.aim.from

  abbrev done' : List Name
  done' = h.done ++ v ∷ []

  still : old.search.over ≡ false
  still = (next-first old.search v next).1

  going : IsGoing old.search reads h.level h.done
  going = h.going still

  within' : IsWithinLevel step.added reads' h.level done'
  within' = within-next old.search reads h.level h.done going.within v step.added.rest step.adds.rest state step.added step.adds

  goes : last ≡ record (gone_on v step.added) { room = last.room }
  goes = step.onward within'.found_once

  aim' : aim_of program ≡ Some step.added.aim
  aim' = h.searched.aim ∙ ap Some (sym step.adds.aim)

  free' : IsTargetNotIn step.added.aim.target ((levels_read reads' step.added.aim h.level).before ++ h.done)
  free' =
      subst (λ a. IsTargetNotIn a.target ((levels_read reads' a h.level).before ++ h.done)) (sym step.adds.aim)
      (subst (λ levels. IsTargetNotIn old.search.aim.target (levels.before ++ h.done)) (same-levels-read old.search reads h.level h.done going.within v step.added.rest step.adds.rest state) going.free)

  stage-now : last.over ≡ false → IsStage program step.added reads' h.level h.done v (gone_on v step.added)
  stage-now more = stage program step.added reads' h.level h.done v within' aim' free' (sym (ap (λ (s : SearchState). s.over) goes) ∙ more)

  with-last : (n : ℕ) (gone : List Name) → IsGoing (gone_on v step.added) reads' n gone → IsGoing last reads' n gone
  with-last n gone g = subst (λ s. IsGoing s reads' n gone) (sym goes) (going-with-room (gone_on v step.added) reads' n gone last.room g)

  searched' : HasSearched program last reads'
  searched' = seen program old.search step.added last v state reads next h.searched step.adds step.onward

  -- the level is what was read of it, and the rest
  level-is : (levels_to h.level now pass from).level ≡ done' ++ step.added.rest
  level-is = subst (λ (a : Aim). (levels_to h.level now a.pass a.from).level ≡ done' ++ step.added.rest) step.adds.aim within'.level

  read-in-levels : (w : Name) → IsTrue (is_among (keys_of reads') w) → IsTrue (is_among (through_level h.level now pass from) w)
  read-in-levels w k =
      let here : IsTrue (is_among ((levels_to h.level now pass from).before ++ done') w) = subst (λ (a : Aim). IsTrue (is_among ((levels_to h.level now a.pass a.from).before ++ done') w)) step.adds.aim (sym (within'.read w) ∙ k) in
      elim (among-cases (levels_to h.level now pass from).before done' w here) [
        | inl before ↦ among-left (levels_to h.level now pass from).before _ w before
        | inr level ↦ among-right (levels_to h.level now pass from).before _ w (subst (λ xs. IsTrue (is_among xs w)) (sym level-is) (among-left done' step.added.rest w level))
      ]

  -- what is present is in the levels up to this one
  inside-now : (w : Name) → IsTrue (is_among last.present w) → IsTrue (is_among (through_level h.level now pass from) w)
  inside-now w k = read-in-levels w (read-there reads' w (sym (searched'.found.present w) ∙ k))

  marked-old : HasMarked (mark_in old.marks) now pass from h.level
  marked-old = marked-kept old.search reads h.level h.done going.within v step.added.rest step.adds.rest state (mark_in old.marks) h.marked

  hops-now : HasHops (mark_in old.marks) now pass done' (old.hops ++ hops_from v (ranks (mark_in old.marks) v) (targets pass state))
  hops-now = hops-more old.search reads h.level h.done going.within v step.added.rest step.adds.rest state (mark_in old.marks) old.hops (h.hops still)

  abbrev hops' : List Hop
  hops' = old.hops ++ hops_from v (ranks (mark_in old.marks) v) (targets pass state)

  -- there is more of the level
  pub walked-on : (room : ℕ) → is_none (first_of step.added.rest) ≡ false → HasWalked program (record { search = last; marks = old.marks; hops = hops'; room = room }) reads'
  walked-on room left = record {
    searched = searched';
    level = h.level;
    done = done';
    marked = subst (λ (a : Aim). HasMarked (mark_in old.marks) now a.pass a.from h.level) (sym aim_kept) marked-old;
    inside = subst (λ (a : Aim). (w : Name) → IsTrue (is_among last.present w) → IsTrue (is_among (through_level h.level now a.pass a.from) w)) (sym aim_kept) inside-now;
    going = λ more. with-last h.level done' ((stage-now more).on left);
    hops = λ more. subst (λ (a : Aim). HasHops (mark_in old.marks) now a.pass done' hops') (sym aim_kept) hops-now;
  }

  -- the level is over
  module _ (room : ℕ) (over : is_none (first_of step.added.rest) ≡ true) (marks' : List (Name × Mark)) (by : IsMarkedBy old.marks marks' hops' []) where
    level-done : done' ≡ (levels_to h.level now pass from).level
    level-done = sym (level-is ∙ ap (λ xs. done' ++ xs) (none-first step.added.rest over) ∙ append-nil done')

    marked-new : HasMarked (mark_in marks') now pass from (suc h.level)
    marked-new =
        let same : marks_after (mark_in old.marks) (length old.marks) by.sorted ≡ mark_in marks' = λ i w. sym (by.marks w) i in
        subst (λ f. HasMarked f now pass from (suc h.level)) same
        (level-marked now pass from h.level (mark_in old.marks) marked-old hops' by.sorted (subst (λ xs. HasHops (mark_in old.marks) now pass xs hops') level-done hops-now) by.moved by.rising (length old.marks))

    -- after the last vertex of a level, with all hops marked and none left, the search is that after one read more
    pub walked-down : HasWalked program (record { search = last; marks = marks'; hops = []; room = room }) reads'
    walked-down = record {
      searched = searched';
      level = suc h.level;
      done = [];
      marked = subst (λ (a : Aim). HasMarked (mark_in marks') now a.pass a.from (suc h.level)) (sym aim_kept) marked-new;
      inside = subst (λ (a : Aim). (w : Name) → IsTrue (is_among last.present w) → IsTrue (is_among (through_level (suc h.level) now a.pass a.from) w)) (sym aim_kept) (λ w k. among-left (through_level h.level now pass from) _ w (inside-now w k));
      going = λ more. with-last (suc h.level) [] ((stage-now more).down over);
      hops = λ more. record { parent = λ hop i. absurd i; edge = λ hop i. absurd i; rank = λ hop i. absurd i; all = λ u w i e. absurd (cc) };
    }

-- whether the vertex read is the last one of its level
pub last-one : (rest : List Name) (v : Name) (more : List Name) (b : Bool) → rest ≡ v ∷ more → b ≡ nat_le (length rest) 1 → is_none (first_of more) ≡ b
last-one rest v [] b e is = sym (is ∙ ap (λ xs. nat_le (length xs) 1) e)
last-one rest v (x ∷ more) b e is = sym (is ∙ ap (λ xs. nat_le (length xs) 1) e ∙ false_from_ne_true _ (λ k. (let le = leb-true (suc (suc (length more))) 1 k in absurd (omega (arith, le)))))

-- one more read, by the parts that the code has
module _ (program : Program) (old : WalkState) (v : Name) (state : State) (reads : List (Name × State)) (h : HasWalked program old reads) (next : next_of old.search ≡ Some v) (last : SearchState) (step : SeesVertex v state old.search last) (aim_kept : last.aim ≡ old.search.aim)
    (rank : ℕ) (rank-is : rank ≡ ranks (mark_in old.marks) v) (p : Passing) (pass-is : p ≡ old.search.aim.pass) (noted : List Hop) (noted-is : noted ≡ old.hops ++ hops_from v rank (targets p state)) (is_last : Bool) (last-is : is_last ≡ nat_le (length old.search.rest) 1) (room : ℕ) where
  noted-all : noted ≡ old.hops ++ hops_from v (ranks (mark_in old.marks) v) (targets old.search.aim.pass state)
  noted-all = noted-is ∙ (λ i. old.hops ++ hops_from v (rank-is i) (targets (pass-is i) state))

  last-so : is_none (first_of step.added.rest) ≡ is_last
  last-so = last-one old.search.rest v step.added.rest is_last step.adds.rest last-is

  -- if the vertex read isn't the last of its level, the search with its hops noted is that after one read more
  pub see-on : is_last ≡ false → HasWalked program (record { search = last; marks = old.marks; hops = noted; room = room }) ((v, state) ∷ reads)
  see-on more =
      subst (λ hops. HasWalked program (record { search = last; marks = old.marks; hops = hops; room = room }) ((v, state) ∷ reads)) (sym noted-all)
      (walked-on program old v state reads h next last step aim_kept room (last-so ∙ more))

  -- if it is the last of its level, the search with the noted hops marked is that after one read more
  pub see-down : is_last ≡ true → (marks' : List (Name × Mark)) (after : List Hop) → IsMarkedBy old.marks marks' noted after → HasWalked program (record { search = last; marks = marks'; hops = after; room = room }) ((v, state) ∷ reads)
  see-down over marks' after by =
      subst (λ hops. HasWalked program (record { search = last; marks = marks'; hops = hops; room = room }) ((v, state) ∷ reads)) (sym by.taken)
      (walked-down program old v state reads h next last step aim_kept room (last-so ∙ over) marks'
      (subst (λ hops. IsMarkedBy old.marks marks' hops []) noted-all (record { sorted = by.sorted; moved = by.moved; rising = by.rising; marks = by.marks; taken = refl })))

-- Before the first read

-- a program's search before any read, at level 0, with the start alone marked and no hops, is that for its least walk
pub walked-first : (program : Program) (search : SearchState) (marks : List (Name × Mark)) (hops : List Hop) (room : ℕ) → hops ≡ [] → HasSearched program search [] → IsGoing search [] 0 [] → ((v : Name) → IsTrue (is_among search.present v) → ⊥)
    → ((v : Name) → is_some (mark_in marks v) ≡ is_among (search.aim.from ∷ []) v) → HasWalked program (record { search = search; marks = marks; hops = hops; room = room }) []
walked-first program search marks hops room empty searched going none start = subst (λ hs. HasWalked program (record { search = search; marks = marks; hops = hs; room = room }) []) (sym empty) (record {
  searched = searched;
  level = 0;
  done = [];
  marked = record { marked = start; ranked = λ k less. absurd (omega (arith, less)) };
  inside = λ v k. absurd (none v k);
  going = λ more. going;
  hops = λ more. record { parent = λ hop i. absurd i; edge = λ hop i. absurd i; rank = λ hop i. absurd i; all = λ u w i e. absurd (cc) };
})

-- Without regard to the room and to the order in the tables

same-going : (old new : SearchState) (reads : List (Name × State)) (n : ℕ) (done : List Name) → SameReached old new → IsGoing old reads n done → IsGoing new reads n done
same-going old new reads n done same g =
    subst (λ s. IsGoing s reads n done) (λ i. record new { aim = sym same.aim i; left = sym same.left i; rest = sym same.rest i; found = sym same.found i; present = sym same.present i; over = sym same.over i }) (record {
      within = record { left = g.within.left; level = g.within.level; read = g.within.read; reached = λ v. same.reached v ∙ g.within.reached v; found = g.within.found; found_once = g.within.found_once };
      more = g.more;
      free = g.free;
    })

-- a search that differs in the room and in the order in the tables alone is that of the program after the same reads
pub same-walked : (program : Program) (old new : WalkState) (reads : List (Name × State)) → SameWalked old new → HasWalked program old reads → HasWalked program new reads
same-walked program old new reads same h =
    let marks : mark_in old.marks ≡ mark_in new.marks = λ i w. sym (same.marks w) i in
    record {
      searched = same-search program old.search new.search reads same.search h.searched;
      level = h.level;
      done = h.done;
      marked = subst (λ (a : Aim). HasMarked (mark_in new.marks) (graph_read reads) a.pass a.from h.level) (sym same.search.aim) (subst (λ f. HasMarked f (graph_read reads) old.search.aim.pass old.search.aim.from h.level) marks h.marked);
      inside = λ v k. subst (λ (a : Aim). IsTrue (is_among (through_level h.level (graph_read reads) a.pass a.from) v)) (sym same.search.aim) (h.inside v (subst (λ xs. IsTrue (is_among xs v)) same.search.present k));
      going = λ more. same-going old.search new.search reads h.level h.done same.search (h.going (sym same.search.over ∙ more));
      hops = λ more.
          subst (λ (a : Aim). HasHops (mark_in new.marks) (graph_read reads) a.pass h.done new.hops) (sym same.search.aim)
          (subst (λ xs. HasHops (mark_in new.marks) (graph_read reads) old.search.aim.pass h.done xs) (sym same.hops)
          (subst (λ f. HasHops f (graph_read reads) old.search.aim.pass h.done old.hops) marks (h.hops (sym same.search.over ∙ more))));
    }

-- The plain answer

-- a vertex of the levels up to one is of one of them
level-of : (graph : PlainGraph) (pass : Passing) (from v : Name) (n : ℕ) → IsTrue (is_among (through_level n graph pass from) v)
    → (level : ℕ) × (level ≤ n) × IsTrue (is_among (levels_to level graph pass from).level v)
level-of graph pass from v zero h = (0, omega arith, h)
level-of graph pass from v (suc n) h =
    elim (among-cases (through_level n graph pass from) (levels_to (suc n) graph pass from).level v h) [
      | inl earlier ↦ (let is = level-of graph pass from v n earlier in let le = is.1 in (is.0, omega (arith, le), is.2))
      | inr here ↦ (suc n, omega arith, here)
    ]

module _ (from to : Name) (bound : ℕ) (pass : Option Filter) (walk : WalkState) (reads : List (Name × State)) (h : HasWalked (Path from to bound pass) walk reads) where
  aim-is : record { from = from; target = Some to; bound = Some bound; pass = passing_of pass } ≡ walk.search.aim
  aim-is = some-aim _ _ h.searched.aim
    where
      some-aim : (a b : Aim) → Some a ≡ Some b → a ≡ b
      some-aim a b e = cc

  -- the search has the program's bound
  pub bound-is : walk.search.aim.bound ≡ Some bound
  bound-is = sym (ap (λ (a : Aim). a.bound) aim-is)

  -- the search has the program's target
  pub target-is : walk.search.aim.target ≡ Some to
  target-is = sym (ap (λ (a : Aim). a.target) aim-is)

  -- the target was read and is there
  pub walk-answer : IsTrue (is_among walk.search.present to) → (found : List Name)
      → ((graph : PlainGraph) (p : Passing) (d : ℕ) → d ≤ bound → IsRankedTo d graph p walk.search.aim.from (mark_in walk.marks) → IsTrue (is_among (levels_to d graph p walk.search.aim.from).level to) → found ≡ trace (parents (mark_in walk.marks)) d to)
      → IsPlainAnswer (graph_read reads) (Path from to bound pass) (Walk (Some found))
  walk-answer k found is =
      let graph : PlainGraph = graph_read reads in
      let in_levels : IsTrue (is_among (through_level h.level graph (passing_of pass) from) to) = subst (λ (a : Aim). IsTrue (is_among (through_level h.level graph a.pass a.from) to)) (sym aim-is) (h.inside to k) in
      let at = level-of graph (passing_of pass) from to h.level in_levels in
      let le = at.1 in
      let ranked_all : IsRankedTo h.level graph (passing_of pass) from (mark_in walk.marks) = subst (λ (a : Aim). IsRankedTo h.level graph a.pass a.from (mark_in walk.marks)) (sym aim-is) h.marked.ranked in
      let ranked : IsRankedTo at.0 graph (passing_of pass) from (mark_in walk.marks) = λ j less. ranked_all j (omega (arith, less, le)) in
      let near = up-to-only to (through_level bound graph (passing_of pass) from) to (h.searched.found.visited to (read-there reads to (sym (h.searched.found.present to) ∙ k))) in
      let least = trace-is-least graph (passing_of pass) from (parents (mark_in walk.marks)) (ranks (mark_in walk.marks)) at.0 bound to ranked at.2 (sym (h.searched.found.present to) ∙ k) near in
      let from-is : from ≡ walk.search.aim.from = ap (λ (a : Aim). a.from) aim-is in
      let same = is graph (passing_of pass) at.0 (no-nearer graph (passing_of pass) from at.0 to at.2 bound near) (subst (λ f. IsRankedTo at.0 graph (passing_of pass) f (mark_in walk.marks)) from-is ranked) (subst (λ f. IsTrue (is_among (levels_to at.0 graph (passing_of pass) f).level to)) from-is at.2) in
      subst (λ xs. IsLeastWalk bound graph (passing_of pass) from to xs) (sym same) least

  -- or there is no walk
  pub no-walk-answer : is_among walk.search.present to ≡ false → IsPlainAnswer (graph_read reads) (Path from to bound pass) (Walk None)
  no-walk-answer none other w = both_ways _ none (h.searched.found.present to ∙ end_present (graph_read reads) (passing_of pass) from to other (and_parts (is_walk (graph_read reads) (passing_of pass) from to other) _ w).0)
