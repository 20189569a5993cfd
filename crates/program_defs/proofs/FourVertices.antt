-- A worked graph: vertices a, b, c, d; edges a e1 c, a e2 b, a e3 b, b e1 d, c e1 d.
-- Used by nothing: worked examples.
use Rattle.std.proofs.Common.{◌≡◌, ◌≤◌, ◌∙◌, arith, true, false, List, [], ◌∷◌, IsTrue, refl, sym, subst, Some, None, inl, inr}
use Rattle.std.specs.Prelude.{codes}
use Rattle.std.specs.Cmp.Lexicographic.{slice_cmp}
use Rattle.std.specs.Ordering.{is_le}
use Rattle.std.proofs.lemmas.Bool.{or_cases, and_parts, both_ways, leb-true}
use Rattle.std.proofs.lemmas.Cmp.{eq_by_cmp_equiv, nat_list_cmp_total}
use Rattle.weave_data.specs.Names.{name_cmp, same_name, one_name}
use Rattle.weave_data.specs.declared.name.Name.{Name}
use Rattle.graph_ops.specs.Mentions.{is_among}
use Rattle.graph_ops.specs.PlainGraph.{PlainGraph, empty_graph, transaction, graph_left}
use Rattle.graph_ops.specs.declared.op.Op.{Op}
use Rattle.graph_ops.specs.declared.op.Op.TheVariants.{Create, Delete, Link, Tag}
use Rattle.program_defs.specs.declared.program.Program.TheVariants.{Show, Reach, Around, Path}
use Rattle.program_defs.specs.declared.passing.Passing.TheVariants.{Every}
use Rattle.program_defs.specs.declared.program.Answer.TheVariants.{Found, Shown, Reached, Walk}
use Rattle.program_defs.specs.Walks.{targets, is_walk, walk_length, is_walk_within}
use Rattle.program_defs.specs.PlainAnswer.{IsPlainAnswer}
use Rattle.program_defs.specs.Visits.{visits_to, next_visit}
use Rattle.program_defs.proofs.Closed.{first_step, one_vertex, stays_inside, end_present}
use Rattle.program_defs.proofs.Levels.{around_visits}

abbrev a : Name
a = codes "a"

abbrev b : Name
b = codes "b"

abbrev c : Name
c = codes "c"

abbrev d : Name
d = codes "d"

abbrev x : Name
x = codes "x"

abbrev e1 : Name
e1 = codes "e1"

abbrev e2 : Name
e2 = codes "e2"

abbrev e3 : Name
e3 = codes "e3"

-- the graph after a transaction
abbrev changed : PlainGraph → List Op → PlainGraph
changed graph ops = graph_left graph (transaction ops graph)

abbrev graph : PlainGraph
graph = changed empty_graph (Create a ∷ Create b ∷ Create c ∷ Create d ∷ Link a e1 c ∷ Link a e2 b ∷ Link a e3 b ∷ Link b e1 d ∷ Link c e1 d ∷ [])

abbrev without_b : PlainGraph
without_b = changed graph (Delete b ∷ [])

abbrev without_both : PlainGraph
without_both = changed without_b (Delete c ∷ [])

-- Visits: level by level, in byte order, up to the target

-- `path` from a to d within two edges visits a, b, c and d in turn
pub path_visits : visits_to 0 graph (Path a d 2 None) ≡ a ∷ b ∷ c ∷ d ∷ []
path_visits = refl

-- within one edge it visits a, b and c alone
pub path_visits_within_bound : visits_to 0 graph (Path a d 1 None) ≡ a ∷ b ∷ c ∷ []
path_visits_within_bound = refl

-- `path` from a to itself within no edge visits a alone
pub path_visits_itself : visits_to 0 graph (Path a a 0 None) ≡ a ∷ []
path_visits_itself = refl

-- `reach` from a to c visits a and b, and ends with c
pub reach_visits : visits_to 5 graph (Reach a c None) ≡ a ∷ b ∷ c ∷ []
reach_visits = refl

-- `reach` from a to x, which isn't there, visits a, b, c and d in turn
pub reach_visits_all : visits_to 5 graph (Reach a x None) ≡ a ∷ b ∷ c ∷ d ∷ []
reach_visits_all = refl

-- `around` a within one edge visits a, b and c
pub around_visits_near : visits_to 0 graph (Around a 1 None) ≡ a ∷ b ∷ c ∷ []
around_visits_near = refl

-- `path` from x, which isn't there, visits x alone
pub absent_visits : visits_to 0 graph (Path x d 5 None) ≡ x ∷ []
absent_visits = refl

-- an absent target is visited, and has no edges
pub deleted_visits : visits_to 5 without_b (Reach a x None) ≡ a ∷ b ∷ c ∷ d ∷ []
deleted_visits = refl

-- The next visit, as states are read

-- before any read, `path` from a to d asks for a
pub first_visit : next_visit [] (Path a d 2 None) ≡ Some a
first_visit = refl

-- when a is read, it asks for b
pub second_visit : next_visit ((a, graph a) ∷ []) (Path a d 2 None) ≡ Some b
second_visit = refl

-- when a and b are read, `reach` from a to x asks for c
pub third_visit : next_visit ((b, graph b) ∷ (a, graph a) ∷ []) (Reach a x None) ≡ Some c
third_visit = refl

-- when c is read too, it asks for d
pub fourth_visit : next_visit ((c, graph c) ∷ (b, graph b) ∷ (a, graph a) ∷ []) (Reach a x None) ≡ Some d
fourth_visit = refl

-- when all four are read, `path` from a to d asks for no more
pub last_visit : next_visit ((d, graph d) ∷ (c, graph c) ∷ (b, graph b) ∷ (a, graph a) ∷ []) (Path a d 2 None) ≡ None
last_visit = refl

-- when a is read, `show` of a asks for no more
pub show_visit : next_visit ((a, graph a) ∷ []) (Show a) ≡ None
show_visit = refl

-- Filters: an edge passes if its tag at the key has the value

abbrev tagged : PlainGraph
tagged = changed graph (Tag a e2 x d ∷ Tag a e1 x c ∷ [])

-- if only edges whose tag at x has the value d pass, `reach` from a to d visits a and b alone
pub filtered_visits : visits_to 5 tagged (Reach a d (Some (record { key = x; value = d }))) ≡ a ∷ b ∷ []
filtered_visits = refl

-- Answers

-- a, b, d is a walk from a to d of at most two edges
pub walk_abd : IsTrue (is_walk_within 2 graph Every a d (a ∷ b ∷ d ∷ []))
walk_abd = refl

-- it is no walk of at most one edge
pub walk_too_long : is_walk_within 1 graph Every a d (a ∷ b ∷ d ∷ []) ≡ false
walk_too_long = refl

-- without the vertex b it is no walk
pub walk_abd_gone : is_walk without_b Every a d (a ∷ b ∷ d ∷ []) ≡ false
walk_abd_gone = refl

-- without the vertex b, a, c, d is a walk from a to d of at most two edges
pub walk_acd : IsTrue (is_walk_within 2 without_b Every a d (a ∷ c ∷ d ∷ []))
walk_acd = refl

-- `reach` from a to d answers yes
pub reached : IsPlainAnswer graph (Reach a d None) (Reached true)
reached = (λ h. (a ∷ b ∷ d ∷ [], refl), λ h. refl)

-- `show` of x, which isn't there, answers that it is absent
pub shown_absent : IsPlainAnswer graph (Show x) (Shown None)
shown_absent = refl

-- `show` of d answers a record without properties and edges
pub shown : IsPlainAnswer graph (Show d) (Shown (Some (record { props = []; edges = [] })))
shown = refl

no_walk : (walk : List Name) → ¬ IsTrue (is_walk without_both Every a d walk)
no_walk walk h = let inside = stays_inside without_both Every (a ∷ b ∷ c ∷ []) refl walk a d refl h in cc

-- without the vertices b and c, `reach` from a to d answers no
pub not_reached : IsPlainAnswer without_both (Reach a d None) (Reached false)
not_reached = (λ h. cc, λ h. absurd (no_walk h.0 h.1))

walk_to : (v : Name) → IsTrue (is_among (a ∷ b ∷ c ∷ []) v) → (walk : List Name) × IsTrue (is_walk_within 1 graph Every a v walk)
walk_to v h =
    elim (or_cases (same_name a v) _ h) [
      | inl same ↦ (a ∷ [], subst (λ w. IsTrue (is_walk_within 1 graph Every a w (a ∷ []))) (one_name a v same) refl)
      | inr more ↦ elim (or_cases (same_name b v) _ more) [
        | inl same ↦ (a ∷ b ∷ [], subst (λ w. IsTrue (is_walk_within 1 graph Every a w (a ∷ b ∷ []))) (one_name b v same) refl)
        | inr last ↦ elim (or_cases (same_name c v) _ last) [
          | inl same ↦ (a ∷ c ∷ [], subst (λ w. IsTrue (is_walk_within 1 graph Every a w (a ∷ c ∷ []))) (one_name c v same) refl)
          | inr none ↦ cc
        ]
      ]
    ]

-- `around` a within one edge finds a, b and c
pub found : IsPlainAnswer graph (Around a 1 None) (Found (a ∷ b ∷ c ∷ []))
found = (refl, λ v. (walk_to v, λ h. around_visits graph Every a v 1 h.0 h.1))

-- The least walk from a to d goes through b: one through c comes later, and none is shorter

different : (v w : Name) → same_name v w ≡ false → ¬ (v ≡ w)
different v w differ same = both_ways _ differ (subst (λ y. IsTrue (same_name v y)) same ((eq_by_cmp_equiv nat_list_cmp_total).refl v))

two_edges : (walk : List Name) → IsTrue (is_walk graph Every a d walk) → 2 ≤ walk_length walk
two_edges [] h = cc
two_edges (v ∷ []) h = let one = one_vertex graph Every a d v h in absurd (different a d refl (one.start ∙ one.end))
two_edges (v ∷ w ∷ []) h =
    let step = first_step graph Every a d v w [] h in
    let one = one_vertex graph Every w d w step.onward in
    let edge : IsTrue (is_among (targets Every (graph a)) d) =
    subst (λ y. IsTrue (is_among (targets Every (graph a)) y)) one.end (subst (λ y. IsTrue (is_among (targets Every (graph y)) w)) (sym step.start) step.edge) in
    cc
two_edges (v ∷ w ∷ u ∷ rest) h = omega arith

through : (w : Name) → IsTrue (is_among (c ∷ b ∷ b ∷ []) w) → IsTrue (is_le (slice_cmp name_cmp (a ∷ b ∷ d ∷ []) (a ∷ w ∷ d ∷ [])))
through w h =
    elim (or_cases (same_name c w) _ h) [
      | inl same ↦ at c refl (one_name c w same)
      | inr more ↦ elim (or_cases (same_name b w) _ more) [
        | inl same ↦ at b refl (one_name b w same)
        | inr last ↦ elim (or_cases (same_name b w) _ last) [ inl same ↦ at b refl (one_name b w same) | inr none ↦ cc ]
      ]
    ]
  where
    at : (y : Name) → IsTrue (is_le (slice_cmp name_cmp (a ∷ b ∷ d ∷ []) (a ∷ y ∷ d ∷ []))) → y ≡ w → IsTrue (is_le (slice_cmp name_cmp (a ∷ b ∷ d ∷ []) (a ∷ w ∷ d ∷ [])))
    at y le is = subst (λ z. IsTrue (is_le (slice_cmp name_cmp (a ∷ b ∷ d ∷ []) (a ∷ z ∷ d ∷ [])))) is le

first_of_two : (walk : List Name) → IsTrue (is_walk graph Every a d walk) → walk_length walk ≡ 2 → IsTrue (is_le (slice_cmp name_cmp (a ∷ b ∷ d ∷ []) walk))
first_of_two [] h two = cc
first_of_two (v ∷ []) h two = absurd (omega (arith, two))
first_of_two (v ∷ w ∷ []) h two = absurd (omega (arith, two))
first_of_two (v ∷ w ∷ u ∷ []) h two =
    let one = first_step graph Every a d v w (u ∷ []) h in
    let next = first_step graph Every w d w u [] one.onward in
    let last = one_vertex graph Every u d u next.onward in
    let edge = subst (λ y. IsTrue (is_among (targets Every (graph y)) w)) (sym one.start) one.edge in
    subst (λ y. IsTrue (is_le (slice_cmp name_cmp (a ∷ b ∷ d ∷ []) (y ∷ w ∷ u ∷ [])))) one.start
    (subst (λ y. IsTrue (is_le (slice_cmp name_cmp (a ∷ b ∷ d ∷ []) (a ∷ w ∷ y ∷ [])))) (sym last.end) (through w edge))
first_of_two (v ∷ w ∷ u ∷ t ∷ rest) h two = absurd (omega (arith, two))

-- `path` from a to d within two edges answers the walk a, b, d
pub least_walk : IsPlainAnswer graph (Path a d 2 None) (Walk (Some (a ∷ b ∷ d ∷ [])))
least_walk = record { walks = refl; shortest = two_edges; first = first_of_two }

-- within one edge it answers that there is no walk
pub no_shorter_walk : IsPlainAnswer graph (Path a d 1 None) (Walk None)
no_shorter_walk walk h =
    let parts = and_parts (is_walk graph Every a d walk) _ h in
    let least = two_edges walk parts.0 in
    let within = leb-true (walk_length walk) 1 parts.1 in
    omega (arith, least, within)

-- `path` from a to x, which isn't there, answers that there is no walk
pub walk_to_absent : IsPlainAnswer graph (Path a x 5 None) (Walk None)
walk_to_absent walk h = let there = end_present graph Every a x walk (and_parts (is_walk graph Every a x walk) _ h).0 in cc

-- and so does `path` from x to d
pub walk_from_absent : IsPlainAnswer graph (Path x d 5 None) (Walk None)
walk_from_absent walk h = let inside = stays_inside graph Every (x ∷ []) refl walk x d refl (and_parts (is_walk graph Every x d walk) _ h).0 in cc

-- a walk of no edge
pub walk_to_itself : IsPlainAnswer graph (Path a a 0 None) (Walk (Some (a ∷ [])))
walk_to_itself = record { walks = refl; shortest = λ other h. omega arith; first = itself_first }
  where
    itself_first : (other : List Name) → IsTrue (is_walk graph Every a a other) → walk_length other ≡ 0 → IsTrue (is_le (slice_cmp name_cmp (a ∷ []) other))
    itself_first [] h none = cc
    itself_first (v ∷ []) h none =
        let one = one_vertex graph Every a a v h in subst (λ y. IsTrue (is_le (slice_cmp name_cmp (a ∷ []) (y ∷ [])))) one.start refl
    itself_first (v ∷ w ∷ rest) h none = absurd (omega (arith, none))
