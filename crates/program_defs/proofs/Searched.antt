-- The search of a program after one more read.
-- Used by `see`, Answering, Pathing and Stages.
use Rattle.std.proofs.Common.{append-nil, append_assoc, ◌≡◌, ℕ, zero, suc, ◌+◌, ◌-◌, ◌≤◌, Bool, true, false, not, ◌&&◌, ◌||◌, List, [], ◌∷◌, ◌++◌, IsTrue, length, refl, sym, ap, subst, ◌∙◌, Option, Some, None, inl, inr, arith}
use Rattle.std.specs.Prelude.{is_some, is_none, IsSome, if◌then◌else◌}
use Rattle.std.specs.Cmp.{both_ways as same_test}
use Rattle.std.specs.Map.{keys_of}
use Rattle.std.proofs.lemmas.Bool.{or_cases, both_ways, false_from_ne_true, and_parts}
use Rattle.weave_data.specs.Names.{same_name, one_name}
use Rattle.weave_data.specs.declared.name.Name.{Name}
use Rattle.graph_ops.specs.Mentions.{is_among}
use Rattle.graph_ops.specs.Operations.{State}
use Rattle.graph_ops.specs.PlainGraph.{PlainGraph}
use Rattle.graph_ops.proofs.States.{same_name-sym}
use Rattle.program_defs.specs.declared.program.Program.{Program}
use Rattle.program_defs.specs.Searching.{SearchState, AddsState, IsWithinLevel, IsTargetNotIn, IsOnce, IsLeft, HasFound, HasSearched, AllRead, aim_of, next_of, levels_read, turned_search, onto_next_level, gone_on}
use Rattle.program_defs.specs.Visits.{as_set, not_among, targets_of_all, through_level, visits_to, graph_read, first_of}
use Rattle.program_defs.specs.Walks.{is_value}
use Rattle.program_defs.proofs.Cutting.{cut, cut-free, cut-only, cut-first, cut-here, cut-at, cut-at-bound, begins}
use Rattle.program_defs.proofs.Members.{among-left, among-right, among-cases, filter-has, filter-only, as_set-has, as_set-only}
use Rattle.program_defs.proofs.NextVisit.{read-there}
use Rattle.program_defs.proofs.Once.{once-append, level-set}
use Rattle.program_defs.proofs.OneList.{nothing-more}
use Rattle.program_defs.proofs.Seeing.{among-append, new-read, same-levels-read, within-next}
use Rattle.program_defs.proofs.Sets.{same-sets, as_set-set}
use Rattle.program_defs.proofs.Turning.{next-first}

-- What is there

-- what was found stays right with one read more, if the vertex is new, its state is added and all reads are visits
pub found-next : (search next : SearchState) (program : Program) (reads : List (Name × State)) (v : Name) (state : State) → is_among (keys_of reads) v ≡ false → HasFound search program reads → AddsState v state search next
    → ((w : Name) → IsTrue (is_among (keys_of ((v, state) ∷ reads)) w) → IsTrue (is_among (visits_to (length ((v, state) ∷ reads)) (graph_read ((v, state) ∷ reads)) program) w))
    → HasFound next program ((v, state) ∷ reads)
found-next search next program reads v state new was adds all =
    record {
      present = there;
      once = subst IsOnce (sym adds.present) (once-append search.present (if is_some state then v ∷ [] else []) was.once (once (is_some state)) (λ w k. apart w (is_some state) k));
      visited = all;
    }
  where
    absent : is_among search.present v ≡ false
    absent = false_from_ne_true _ (λ k. both_ways _ new (read-there reads v (sym (was.present v) ∙ k)))

    once : (b : Bool) → IsOnce (if b then v ∷ [] else [])
    once true = (refl, tt)
    once false = tt

    apart : (w : Name) (b : Bool) → IsTrue (is_among (if b then v ∷ [] else []) w) → is_among search.present w ≡ false
    apart w true k = elim (or_cases (same_name v w) _ k) [ inl same ↦ subst (λ u. is_among search.present u ≡ false) (one_name v w same) absent | inr none ↦ cc ]
    apart w false k = cc

    there : (w : Name) → is_among next.present w ≡ is_some (graph_read ((v, state) ∷ reads) w)
    there w =
        ap (λ xs. is_among xs w) adds.present
        ∙ among-append search.present (if is_some state then v ∷ [] else []) w
        ∙ at (same_name v w) (is_some state) refl refl
      where
        at : (b s : Bool) → same_name v w ≡ b → is_some state ≡ s → is_among search.present w || is_among (if s then v ∷ [] else []) w ≡ is_some (if b then state else graph_read reads w)
        at true true e f = ap (λ c. is_among search.present w || (c || false)) e ∙ last (is_among search.present w) ∙ sym f
          where
            last : (a : Bool) → a || true ≡ true
            last true = refl
            last false = refl
        at true false e f = ap (λ u. is_among search.present u || false) (sym (one_name v w e)) ∙ ap (λ a. a || false) absent ∙ sym f
        at false true e f = ap (λ c. is_among search.present w || (c || false)) e ∙ last (is_among search.present w) ∙ was.present w
          where
            last : (a : Bool) → a || (false || false) ≡ a
            last true = refl
            last false = refl
        at false false e f = last (is_among search.present w) ∙ was.present w
          where
            last : (a : Bool) → a || false ≡ a
            last true = refl
            last false = refl

-- The levels as they are read

-- names that aren't without a first have a first
pub some-first : (names : List Name) → is_none (first_of names) ≡ false → IsSome (first_of names)
some-first [] e = cc
some-first (x ∷ xs) e = refl

-- names without a first are none
pub none-first : (names : List Name) → is_none (first_of names) ≡ true → names ≡ []
none-first [] e = refl
none-first (x ∷ xs) e = cc

-- all that was read of a level, and the rest of it
module _ (search : SearchState) (program : Program) (reads : List (Name × State)) (n : ℕ) (done : List Name) (within : IsWithinLevel search reads n done) (aim : aim_of program ≡ Some search.aim) where
  abbrev graph : PlainGraph
  graph = graph_read reads

  abbrev all_read : List Name
  all_read = (levels_read reads search.aim n).before ++ done

  levels-split : through_level n graph search.aim.pass search.aim.from ≡ all_read ++ search.rest
  levels-split = ap (λ xs. (levels_read reads search.aim n).before ++ xs) within.level ∙ sym (append_assoc (levels_read reads search.aim n).before done search.rest)

  -- the list of visits begins with what was read
  pub record IsVisitsAfter : Type 0 where
    pub more : List Name
    pub is : visits_to (length reads) graph program ≡ cut search.aim.target (all_read ++ more)

  -- up to the target, the list of visits is what was read, then the rest of the level, and then maybe more
  pub visits-through : (more : List Name) × (visits_to (length reads) graph program ≡ cut search.aim.target (all_read ++ (search.rest ++ more)))
  visits-through =
      let at = cut-at reads program search.aim n search.left aim within.left in
      let more = begins graph search.aim n at.last at.later in
      (more.0, at.is ∙ ap (cut search.aim.target) (more.1 ∙ ap (λ xs. xs ++ more.0) levels-split ∙ append_assoc all_read search.rest more.0))

  visits-after : IsVisitsAfter
  visits-after = record { more = search.rest ++ visits-through.0; is = visits-through.1 }

  -- all is read if the visits are among these
  read-of : (xs : List Name) → visits_to (length reads) graph program ≡ cut search.aim.target xs → ((w : Name) → IsTrue (is_among xs w) → IsTrue (is_among all_read w)) → AllRead reads program
  read-of xs is inside w k = within.read w ∙ inside w (cut-only search.aim.target xs w (subst (λ ys. IsTrue (is_among ys w)) is k))

  -- at the bound
  read-at-bound : search.rest ≡ [] → search.left ≡ Some 0 → AllRead reads program
  read-at-bound none left =
      read-of (through_level n graph search.aim.pass search.aim.from) (cut-at-bound reads program search.aim n aim (subst (λ l. IsLeft search.aim.bound n l) left within.left))
      (λ w k. subst (λ xs. IsTrue (is_among xs w)) (levels-split ∙ ap (λ xs. all_read ++ xs) none ∙ append-nil all_read) k)

  -- the names found are the next level
  module _ (none : search.rest ≡ []) where
    whole : through_level n graph search.aim.pass search.aim.from ≡ all_read
    whole = levels-split ∙ ap (λ xs. all_read ++ xs) none ∙ append-nil all_read

    -- if nothing is left of a level, what was read of it is the whole level
    pub level-done : (levels_read reads search.aim n).level ≡ done
    level-done = within.level ∙ ap (λ xs. done ++ xs) none ∙ append-nil done

    abbrev new : Name → Bool
    new w = not (is_among (through_level n graph search.aim.pass search.aim.from) w)

    abbrev found : List Name
    found = targets_of_all graph search.aim.pass (levels_read reads search.aim n).level

    next-is : as_set search.found ≡ (levels_read reads search.aim (suc n)).level
    next-is =
        same-sets (as_set search.found) (levels_read reads search.aim (suc n)).level (as_set-set search.found) (level-set graph search.aim.pass search.aim.from (suc n))
        (λ w. same_test _ _ (as_set-only search.found w) (as_set-has search.found w)
        ∙ within.found w
        ∙ ap (λ ts. is_among ts w && not (is_among (through_level n graph search.aim.pass search.aim.from) w)) (ap (targets_of_all graph search.aim.pass) (sym level-done))
        ∙ sym (same_test _ _ (λ k. filter-only new found w (as_set-only (not_among (through_level n graph search.aim.pass search.aim.from) found) w k)) (λ k. as_set-has (not_among (through_level n graph search.aim.pass search.aim.from) found) w (both w k))))
      where
        both : (w : Name) → IsTrue (is_among found w && new w) → IsTrue (is_among (not_among (through_level n graph search.aim.pass search.aim.from) found) w)
        both w k = let parts = and_parts (is_among found w) _ k in filter-has new found w parts.0 parts.1

    -- nothing more
    read-at-end : as_set search.found ≡ [] → AllRead reads program
    read-at-end empty =
        let at = cut-at reads program search.aim n search.left aim within.left in
        read-of (through_level n graph search.aim.pass search.aim.from)
        (at.is ∙ ap (cut search.aim.target) (still at.last at.later)) (λ w k. subst (λ xs. IsTrue (is_among xs w)) whole k)
      where
        still : (last : ℕ) → n ≤ last → through_level last graph search.aim.pass search.aim.from ≡ through_level n graph search.aim.pass search.aim.from
        still last le =
            let e : last - n + n ≡ last = omega (arith, le) in
            ap (λ m. through_level m graph search.aim.pass search.aim.from) (sym e) ∙ nothing-more graph search.aim.pass search.aim.from (last - n) n (sym next-is ∙ empty)

    -- or the next level
    abbrev down : Option ℕ → SearchState
    down left = onto_next_level left search

    -- the search gone on to the next level, if the bound allows it, is within that level, with none of it read
    pub within-down : (left : Option ℕ) → IsLeft search.aim.bound (suc n) left → IsWithinLevel (down left) reads (suc n) []
    within-down left so_many = record {
      left = so_many;
      level = sym next-is;
      read = λ w. within.read w ∙ ap (λ xs. is_among xs w) (sym whole ∙ sym (append-nil (through_level n graph search.aim.pass search.aim.from)));
      reached = λ w. within.reached w ∙ ap (λ b. is_among (through_level n graph search.aim.pass search.aim.from) w || b) (same_test _ _ (as_set-has search.found w) (as_set-only search.found w) ∙ ap (λ xs. is_among xs w) next-is)
          ∙ sym (among-append (through_level n graph search.aim.pass search.aim.from) (levels_read reads search.aim (suc n)).level w) ∙ unit (is_among (through_level (suc n) graph search.aim.pass search.aim.from) w);
      found = λ w. refl;
      found_once = tt;
    }
      where
        unit : (b : Bool) → b ≡ b || false
        unit true = refl
        unit false = refl

    -- and a target that isn't among what was read isn't in the levels before the next one
    pub free-down : IsTargetNotIn search.aim.target all_read → IsTargetNotIn search.aim.target ((levels_read reads search.aim (suc n)).before ++ [])
    free-down free = subst (IsTargetNotIn search.aim.target) (sym whole ∙ sym (append-nil (through_level n graph search.aim.pass search.aim.from))) free

-- One more read

-- without regard to the room
with-room : (program : Program) (search : SearchState) (reads : List (Name × State)) (room : ℕ) → HasSearched program search reads → HasSearched program (record search { room = room }) reads
with-room program search reads room h = record {
  aim = h.aim;
  found = record { present = h.found.present; once = h.found.once; visited = h.found.visited };
  going = λ e. let g = h.going e in (
    g.0,
    g.1,
    record {
      within = record { left = g.2.within.left; level = g.2.within.level; read = g.2.within.read; reached = g.2.within.reached; found = g.2.within.found; found_once = g.2.within.found_once };
      more = g.2.more;
      free = g.2.free;
    },
  );
  ended = h.ended;
}

-- it is over
over-now : (program : Program) (search : SearchState) (reads : List (Name × State)) → aim_of program ≡ Some search.aim → HasFound search program reads → AllRead reads program → HasSearched program (record search { over = true }) reads
over-now program search reads aim found all = record {
  aim = aim;
  found = record { present = found.present; once = found.once; visited = found.visited };
  going = λ e. absurd (cc);
  ended = λ e. all;
}

-- the target is free of what was read before it, and of this one
pub free-more : (target : Option Name) (xs : List Name) (v : Name) → IsTargetNotIn target xs → is_value target v ≡ false → IsTargetNotIn target (xs ++ v ∷ [])
free-more None xs v free other = free
free-more (Some to) xs v free other =
    among-append xs (v ∷ []) to ∙ rw (free, same_name-sym v to, other) refl

-- what was read before a vertex of a level: the levels before, and what precedes it in its own
abbrev pub read-earlier : SearchState → List (Name × State) → ℕ → List Name → List Name
read-earlier search reads n before = (levels_read reads search.aim n).before ++ before

module _ (program : Program) (search : SearchState) (reads : List (Name × State)) (n : ℕ) (before : List Name) (v : Name) where
  abbrev done : List Name
  done = before ++ v ∷ []

  -- what was added goes on
  pub goes-on-from : (within : IsWithinLevel search reads n done) → aim_of program ≡ Some search.aim → IsTargetNotIn search.aim.target (read-earlier search reads n before) → HasFound search program reads → search.over ≡ false → HasSearched program (gone_on v search) reads
  goes-on-from within aim free found going = by_target (is_value search.aim.target v) refl
    where
      split : (levels_read reads search.aim n).before ++ done ≡ (read-earlier search reads n before) ++ v ∷ []
      split = sym (append_assoc (levels_read reads search.aim n).before before (v ∷ []))

      at-target : is_value search.aim.target v ≡ true → AllRead reads program
      at-target hit =
          let visits = visits-after search program reads n done within aim in
          let cut_here : cut search.aim.target (((levels_read reads search.aim n).before ++ done) ++ visits.more) ≡ (levels_read reads search.aim n).before ++ done =
          ap (λ xs. cut search.aim.target (xs ++ visits.more)) split
          ∙ ap (cut search.aim.target) (append_assoc (read-earlier search reads n before) (v ∷ []) visits.more)
          ∙ cut-free search.aim.target (read-earlier search reads n before) (v ∷ visits.more) free
          ∙ ap (λ xs. (read-earlier search reads n before) ++ xs) (cut-here search.aim.target v visits.more hit)
          ∙ sym split in
          λ w k. within.read w ∙ subst (λ xs. IsTrue (is_among xs w)) (visits.is ∙ cut_here) k

      down-now : search.rest ≡ [] → is_value search.aim.target v ≡ false → (left : Option ℕ) → IsLeft search.aim.bound (suc n) left → HasSearched program (onto_next_level left search) reads
      down-now none other left so_many = record {
        aim = aim;
        found = record { present = found.present; once = found.once; visited = found.visited };
        going = λ more. (
          suc n,
          [],
          record {
            within = within-down search program reads n done within aim none left so_many;
            more = some-first (as_set search.found) more;
            free = free-down search program reads n done within aim none (subst (IsTargetNotIn search.aim.target) (sym split) (free-more search.aim.target (read-earlier search reads n before) v free other));
          },
        );
        ended = λ over. read-at-end search program reads n done within aim none (none-first (as_set search.found) over);
      }

      by_left : search.rest ≡ [] → is_value search.aim.target v ≡ false → (left : Option ℕ) → search.left ≡ left → HasSearched program (turned_search left search) reads
      by_left none other (Some zero) e = over-now program search reads aim found (read-at-bound search program reads n done within aim none e)
      by_left none other (Some (suc left)) e = down-now none other (Some left) (fewer search.aim.bound (subst (IsLeft search.aim.bound n) e within.left))
        where
          fewer : (bound : Option ℕ) → IsLeft bound n (Some (suc left)) → IsLeft bound (suc n) (Some left)
          fewer None l = absurd l
          fewer (Some b) l = omega (arith, l)
      by_left none other None e = down-now none other None (same search.aim.bound (subst (IsLeft search.aim.bound n) e within.left))
        where
          same : (bound : Option ℕ) → IsLeft bound n None → IsLeft bound (suc n) None
          same None l = l
          same (Some b) l = absurd l

      by_rest : is_value search.aim.target v ≡ false → (b : Bool) → is_none (first_of search.rest) ≡ b → HasSearched program (if b then turned_search search.left search else search) reads
      by_rest other true e = by_left (none-first search.rest e) other search.left refl
      by_rest other false e = record {
        aim = aim;
        found = found;
        going = λ still. (n, done, record { within = within; more = some-first search.rest e; free = subst (IsTargetNotIn search.aim.target) (sym split) (free-more search.aim.target (read-earlier search reads n before) v free other) });
        ended = λ over. absurd (both_ways _ going over);
      }

      by_target : (b : Bool) → is_value search.aim.target v ≡ b → HasSearched program (if b then record search { over = true } else (if is_none (first_of search.rest) then turned_search search.left search else search)) reads
      by_target true hit = over-now program search reads aim found (at-target hit)
      by_target false other = by_rest other (is_none (first_of search.rest)) refl

-- after one more read, the search has still searched for the program, with one more state among its reads
pub seen : (program : Program) (search next last : SearchState) (v : Name) (state : State) (reads : List (Name × State)) → next_of search ≡ Some v → HasSearched program search reads
    → AddsState v state search next → (IsOnce next.found → last ≡ record (gone_on v next) { room = last.room }) → HasSearched program last ((v, state) ∷ reads)
seen program search next last v state reads is h adds goes =
    let first = next-first search v is in
    let now = h.going first.1 in
    let n = now.0 in
    let done = now.1 in
    let g = now.2 in
    let reads' : List (Name × State) = (v, state) ∷ reads in
    let within = within-next search reads n done g.within v next.rest adds.rest state next adds in
    let aim = h.aim ∙ ap Some (sym adds.aim) in
    let free : IsTargetNotIn next.aim.target ((levels_read reads' next.aim n).before ++ done) =
    subst (λ a. IsTargetNotIn a.target ((levels_read reads' a n).before ++ done)) (sym adds.aim) (subst (λ levels. IsTargetNotIn search.aim.target (levels.before ++ done)) (same-levels-read search reads n done g.within v next.rest adds.rest state) g.free) in
    let found = found-next search next program reads v state (new-read search reads n done g.within v next.rest adds.rest state) h.found adds (all n done within aim free) in
    subst (λ s. HasSearched program s reads') (sym (goes within.found_once)) (with-room program (gone_on v next) reads' last.room (goes-on-from program next reads' n done v within aim free found (adds.over ∙ first.1)))
  where
    all : (n : ℕ) (done : List Name) → IsWithinLevel next ((v, state) ∷ reads) n (done ++ v ∷ []) → aim_of program ≡ Some next.aim → IsTargetNotIn next.aim.target ((levels_read ((v, state) ∷ reads) next.aim n).before ++ done)
        → (w : Name) → IsTrue (is_among (keys_of ((v, state) ∷ reads)) w) → IsTrue (is_among (visits_to (length ((v, state) ∷ reads)) (graph_read ((v, state) ∷ reads)) program) w)
    all n done within aim free w k =
        let visits = visits-after next program ((v, state) ∷ reads) n (done ++ v ∷ []) within aim in
        let before : List Name = (levels_read ((v, state) ∷ reads) next.aim n).before in
        let split : (before ++ (done ++ v ∷ [])) ++ visits.more ≡ (before ++ done) ++ v ∷ visits.more = ap (λ xs. xs ++ visits.more) (sym (append_assoc before done (v ∷ []))) ∙ append_assoc (before ++ done) (v ∷ []) visits.more in
        let parts : visits_to (length ((v, state) ∷ reads)) (graph_read ((v, state) ∷ reads)) program ≡ (before ++ done) ++ cut next.aim.target (v ∷ visits.more) =
        visits.is ∙ ap (cut next.aim.target) split ∙ cut-free next.aim.target (before ++ done) (v ∷ visits.more) free in
        let here : IsTrue (is_among ((before ++ done) ++ v ∷ []) w) = subst (λ xs. IsTrue (is_among xs w)) (sym (append_assoc before done (v ∷ []))) (sym (within.read w) ∙ k) in
        subst (λ xs. IsTrue (is_among xs w)) (sym parts)
        (elim (among-cases (before ++ done) (v ∷ []) w here) [
          | inl earlier ↦ among-left (before ++ done) (cut next.aim.target (v ∷ visits.more)) w earlier
          | inr last ↦ among-right (before ++ done) (cut next.aim.target (v ∷ visits.more)) w (elim (or_cases (same_name v w) _ last) [ inl same ↦ subst (λ u. IsTrue (is_among (cut next.aim.target (v ∷ visits.more)) u)) (one_name v w same) (cut-first next.aim.target v visits.more) | inr none ↦ cc ])
        ])
