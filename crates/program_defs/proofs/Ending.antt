-- A search of a whole graph ends: each vertex that it reads is the start or a target of an edge, and is read once.
-- Used by `searched` and `walked`.
use Rattle.std.proofs.Common.{◌≡◌, ℕ, zero, suc, ◌<◌, Bool, true, false, not, ◌||◌, cond, List, [], ◌∷◌, ◌++◌, IsTrue, length, refl, sym, ap, subst, ◌∙◌, Option, Some, None, inl, inr, arith}
use Rattle.std.specs.FinMap as map
use Rattle.std.specs.List.{find, flat_map}
use Rattle.std.specs.Map.{keys_of}
use Rattle.std.proofs.lemmas.Bool.{or_cases, or_left, or_right, not-true}
use Rattle.weave_data.specs.Names.{name_cmp, same_name}
use Rattle.weave_data.specs.declared.name.Name.{Name}
use Rattle.graph_ops.specs.Graphs.{Vertices, plain_of}
use Rattle.graph_ops.specs.Mentions.{is_among}
use Rattle.graph_ops.specs.Operations.{State}
use Rattle.graph_ops.specs.declared.record.Record.{Record}
use Rattle.graph_ops.proofs.Vertices.{same_name-refl}
use Rattle.program_defs.specs.declared.aim.Aim.{Aim}
use Rattle.program_defs.specs.declared.passing.Passing.{Passing}
use Rattle.program_defs.specs.declared.program.Program.{Program}
use Rattle.program_defs.specs.Agreement.{Agree}
use Rattle.program_defs.specs.Asking.{AreRead, count_unread, names_asked}
use Rattle.program_defs.specs.Searching.{SearchState, HasSearched, IsLeft, aim_of, has_name, next_of}
use Rattle.program_defs.specs.Visits.{levels_to, through_level, visits_to, graph_read, next_visit}
use Rattle.program_defs.specs.Walks.{targets}
use Rattle.program_defs.proofs.Answering.{next-is-next}
use Rattle.program_defs.proofs.Cutting.{cut-at, cut-only}
use Rattle.program_defs.proofs.Levels.{source-before}
use Rattle.program_defs.proofs.Members.{among-left, among-right, among-cases, target-of}
use Rattle.program_defs.proofs.NextVisit.{count-more, read-there}

-- The names of a graph

-- what a find gives passes, and is there
find-there : (p : Name → Bool) (xs : List Name) (v : Name) → find p xs ≡ Some v → IsTrue (is_among xs v)
find-there p [] v e = cc
find-there p (x ∷ xs) v e = at (p x) e (find-there p xs v)
  where
    at : (b : Bool) → cond b (Some x) (find p xs) ≡ Some v → (find p xs ≡ Some v → IsTrue (is_among xs v)) → IsTrue (is_among (x ∷ xs) v)
    at true f rest = let same : x ≡ v = cc in or_left _ _ (subst (λ y. IsTrue (same_name y v)) (sym same) (same_name-refl v))
    at false f rest = or_right (same_name x v) _ (rest f)

find-passes : (p : Name → Bool) (xs : List Name) (v : Name) → find p xs ≡ Some v → IsTrue (p v)
find-passes p [] v e = cc
find-passes p (x ∷ xs) v e = at (p x) refl e (find-passes p xs v)
  where
    at : (b : Bool) → p x ≡ b → cond b (Some x) (find p xs) ≡ Some v → (find p xs ≡ Some v → IsTrue (p v)) → IsTrue (p v)
    at true is f rest = let same : x ≡ v = cc in subst (λ y. IsTrue (p y)) same is
    at false is f rest = rest f

-- the targets of a record in a map are among those of all
targets-among : (pass : Passing) (entries : List (Name × Record)) (u : Name) (v : Name) → IsTrue (is_among (targets pass (map.find name_cmp u entries)) v) → IsTrue (is_among (flat_map (λ (e : Name × Record). targets pass (Some e.1)) entries) v)
targets-among pass [] u v k = cc
targets-among pass (e ∷ entries) u v k = at (same_name u e.0) k (targets-among pass entries u v)
  where
    at : (b : Bool) → IsTrue (is_among (targets pass (cond b (Some e.1) (map.find name_cmp u entries))) v)
        → (IsTrue (is_among (targets pass (map.find name_cmp u entries)) v) → IsTrue (is_among (flat_map (λ (e : Name × Record). targets pass (Some e.1)) entries) v))
        → IsTrue (is_among (targets pass (Some e.1) ++ flat_map (λ (e : Name × Record). targets pass (Some e.1)) entries) v)
    at true k rest = among-left (targets pass (Some e.1)) _ v k
    at false k rest = among-right (targets pass (Some e.1)) _ v (rest k)

target-named : (graph : Vertices) (aim : Aim) (u v : Name) → IsTrue (is_among (targets aim.pass (plain_of graph u)) v) → IsTrue (is_among (names_asked graph aim) v)
target-named graph aim u v k =
    or_right (same_name aim.from v) _ (targets-among aim.pass (map.entries graph) u v (subst (λ s. IsTrue (is_among (targets aim.pass s) v)) (map.get-entries graph u) k))

module _ (graph : Vertices) (aim : Aim) (reads : List (Name × State)) (agree : Agree (graph_read reads) (plain_of graph) (keys_of reads)) where
  read-target : (u v : Name) → IsTrue (is_among (targets aim.pass (graph_read reads u)) v) → IsTrue (is_among (names_asked graph aim) v)
  read-target u v k =
      let there = read-there reads u (target-of aim.pass (graph_read reads u) v k) in
      target-named graph aim u v (subst (λ s. IsTrue (is_among (targets aim.pass s) v)) (agree u there) k)

  level-named : (n : ℕ) (v : Name) → IsTrue (is_among (through_level n (graph_read reads) aim.pass aim.from) v) → IsTrue (is_among (names_asked graph aim) v)
  level-named zero v k = elim (or_cases (same_name aim.from v) false k) [ inl same ↦ or_left _ _ same | inr none ↦ cc ]
  level-named (suc n) v k =
      elim (among-cases (through_level n (graph_read reads) aim.pass aim.from) (levels_to (suc n) (graph_read reads) aim.pass aim.from).level v k) [
        | inl earlier ↦ level-named n v earlier
        | inr here ↦ (let source = source-before (graph_read reads) aim.pass aim.from n v here in read-target source.0 v source.1.edge)
      ]

  next-named : (program : Program) (v : Name) → aim_of program ≡ Some aim → next_visit reads program ≡ Some v → IsTrue (is_among (names_asked graph aim) v)
  next-named program v is next =
      let at = cut-at reads program aim 0 aim.bound is (all-left aim.bound) in
      let visit = find-there (λ w. not (is_among (keys_of reads) w)) (visits_to (length reads) (graph_read reads) program) v next in
      level-named at.last v (cut-only aim.target _ v (subst (λ xs. IsTrue (is_among xs v)) at.is visit))
    where
      all-left : (bound : Option ℕ) → IsLeft bound 0 bound
      all-left None = tt
      all-left (Some bound) = omega arith

-- each read leaves fewer names to be read
pub fewer-left : (program : Program) (graph : Vertices) (aim : Aim) (search : SearchState) (reads : List (Name × State)) (names after : List Name) (v : Name) → aim_of program ≡ Some aim → HasSearched program search reads
    → Agree (graph_read reads) (plain_of graph) (keys_of reads) → AreRead reads names → next_of search ≡ Some v → ((w : Name) → has_name after w ≡ (same_name v w || has_name names w)) → count_unread graph aim after < count_unread graph aim names
fewer-left program graph aim search reads names after v is searched agree noted next put =
    let visit : next_visit reads program ≡ Some v = sym (next-is-next program search reads searched) ∙ next in
    let new : has_name names v ≡ false = noted v ∙ not-true _ (find-passes (λ w. not (is_among (keys_of reads) w)) (visits_to (length reads) (graph_read reads) program) v visit) in
    count-more (λ w. not (has_name after w)) (λ w. not (has_name names w)) wider (names_asked graph aim) v (next-named graph aim reads agree program v is visit)
    (ap not (put v ∙ ap (λ b. b || has_name names v) (same_name-refl v))) (ap not new)
  where
    wider : (w : Name) → IsTrue (not (has_name after w)) → IsTrue (not (has_name names w))
    wider w k = at (same_name v w) (has_name names w) (sym (ap not (put w)) ∙ k)
      where
        at : (a b : Bool) → IsTrue (not (a || b)) → IsTrue (not b)
        at true b h = cc
        at false b h = h
