-- An existing vertex is in the levels 0 to n exactly if a walk of at most n edges leads to it.
-- Used by `levels_are_distances`, Answering, AnswersAgree, Ending, FourVertices, Leads, NextVisit, Once, OneList,
-- Rereading and Walked.
use Rattle.std.proofs.Common.{◌≡◌, ℕ, zero, suc, ◌+◌, ◌≤◌, Bool, true, false, not, List, [], ◌∷◌, ◌++◌, IsTrue, length, refl, sym, ap, subst, ◌∙◌, inl, inr, arith}
use Rattle.std.specs.Prelude.{is_some, ◌↔◌}
use Rattle.std.proofs.lemmas.Bool.{and_parts, and_from, not-true, leb-true, le-leb, or_cases, or_left}
use Rattle.weave_data.specs.Names.{same_name}
use Rattle.weave_data.specs.declared.name.Name.{Name}
use Rattle.graph_ops.specs.Mentions.{is_among}
use Rattle.graph_ops.specs.PlainGraph.{PlainGraph}
use Rattle.graph_ops.proofs.Vertices.{same_name-refl}
use Rattle.program_defs.specs.declared.passing.Passing.{Passing}
use Rattle.program_defs.specs.Walks.{targets, is_walk, walk_length, is_walk_within}
use Rattle.program_defs.specs.Visits.{targets_of_all, levels_to, through_level}
use Rattle.program_defs.proofs.Closed.{first_step, one_vertex}
use Rattle.program_defs.proofs.Members.{among-left, among-right, among-cases, all-targets-has, filter-has, as_set-has, filter-only, as_set-only, target-of, IsSource, all-targets-only}

module _ (graph : PlainGraph) (pass : Passing) (start : Name) where
  -- the next level has the new targets of this one
  next-has : (n : ℕ) (v w : Name) → IsTrue (is_among (levels_to n graph pass start).level v) → IsTrue (is_among (targets pass (graph v)) w) → IsTrue (is_among (through_level (suc n) graph pass start) w)
  next-has n v w h g = here (is_among (through_level n graph pass start) w) refl
    where
      here : (b : Bool) → is_among (through_level n graph pass start) w ≡ b → IsTrue (is_among (through_level (suc n) graph pass start) w)
      here true is = among-left (through_level n graph pass start) _ w is
      here false is =
          among-right (through_level n graph pass start) _ w
          (as_set-has _ w (filter-has _ (targets_of_all graph pass (levels_to n graph pass start).level) w (all-targets-has graph pass (levels_to n graph pass start).level v w h g) (ap not is)))

  -- a passing edge leads from a vertex of the levels 0 to n to one of the levels 0 to n + 1
  pub targets-through : (n : ℕ) (v w : Name) → IsTrue (is_among (through_level n graph pass start) v) → IsTrue (is_among (targets pass (graph v)) w) → IsTrue (is_among (through_level (suc n) graph pass start) w)
  targets-through zero v w h g = next-has 0 v w h g
  targets-through (suc n) v w h g =
      elim (among-cases (through_level n graph pass start) (levels_to (suc n) graph pass start).level v h) [
        | inl earlier ↦ among-left (through_level (suc n) graph pass start) _ w (targets-through n v w earlier g)
        | inr here ↦ next-has (suc n) v w here g
      ]

  -- a vertex of the levels 0 to n is one of the levels 0 to k + n
  pub through-more : (k n : ℕ) (w : Name) → IsTrue (is_among (through_level n graph pass start) w) → IsTrue (is_among (through_level (k + n) graph pass start) w)
  through-more zero n w h = let e : 0 + n ≡ n = omega arith in subst (λ m. IsTrue (is_among (through_level m graph pass start) w)) (sym e) h
  through-more (suc k) n w h =
      let e : suc k + n ≡ suc (k + n) = omega arith in
      subst (λ m. IsTrue (is_among (through_level m graph pass start) w)) (sym e) (among-left (through_level (k + n) graph pass start) _ w (through-more k n w h))

  walk-through : (walk : List Name) (n k : ℕ) (v to : Name) → IsTrue (is_among (through_level n graph pass start) v) → walk_length walk ≤ k → IsTrue (is_walk graph pass v to walk) → IsTrue (is_among (through_level (k + n) graph pass start) to)
  walk-through [] n k v to h le walks = cc
  walk-through (x ∷ []) n k v to h le walks =
      let one = one_vertex graph pass v to x walks in
      through-more k n to (subst (λ y. IsTrue (is_among (through_level n graph pass start) y)) (one.start ∙ one.end) h)
  walk-through (x ∷ w ∷ rest) n zero v to h le walks = absurd (omega (arith, le))
  walk-through (x ∷ w ∷ rest) n (suc k) v to h le walks =
      let step = first_step graph pass v to x w rest walks in
      let x_in = subst (λ y. IsTrue (is_among (through_level n graph pass start) y)) step.start h in
      let e : k + suc n ≡ suc k + n = omega arith in
      subst (λ m. IsTrue (is_among (through_level m graph pass start) to)) e
      (walk-through (w ∷ rest) (suc n) k w to (targets-through n x w x_in step.edge) (omega (arith, le)) step.onward)

-- each end of a walk within the bound is in the levels up to it
pub around_visits : (graph : PlainGraph) (pass : Passing) (from to : Name) (bound : ℕ) (walk : List Name)
    → IsTrue (is_walk_within bound graph pass from to walk) → IsTrue (is_among (through_level bound graph pass from) to)
around_visits graph pass from to bound walk h =
    let parts = and_parts (is_walk graph pass from to walk) _ h in
    let le = leb-true (walk_length walk) bound parts.1 in
    let start : IsTrue (is_among (through_level 0 graph pass from) from) = or_left _ _ (same_name-refl from) in
    let e : bound + 0 ≡ bound = omega arith in
    subst (λ m. IsTrue (is_among (through_level m graph pass from) to)) e (walk-through graph pass from walk 0 bound from to start le parts.0)

-- A walk with one edge more

-- a walk with one passing edge more, to a vertex that is there, is a walk
pub walk-and-edge : (graph : PlainGraph) (pass : Passing) (from u v : Name) (walk : List Name)
    → IsTrue (is_walk graph pass from u walk) → IsTrue (is_among (targets pass (graph u)) v) → IsTrue (is_some (graph v)) → IsTrue (is_walk graph pass from v (walk ++ v ∷ []))
walk-and-edge graph pass from u v [] walks edge there = cc
walk-and-edge graph pass from u v (x ∷ []) walks edge there =
    let one = one_vertex graph pass from u x walks in
    let start : IsTrue (same_name from x) = subst (λ y. IsTrue (same_name from y)) one.start (same_name-refl from) in
    let edge' = subst (λ y. IsTrue (is_among (targets pass (graph y)) v)) (sym one.end) edge in
    and_from _ _ (and_from _ _ (and_from _ _ start one.there) edge') (and_from _ _ (and_from _ _ (same_name-refl v) there) (same_name-refl v))
walk-and-edge graph pass from u v (x ∷ w ∷ rest) walks edge there =
    let step = first_step graph pass from u x w rest walks in
    let start : IsTrue (same_name from x) = subst (λ y. IsTrue (same_name from y)) step.start (same_name-refl from) in
    and_from _ _ (and_from _ _ (and_from _ _ start step.there) step.edge) (walk-and-edge graph pass w u v (w ∷ rest) step.onward edge there)

-- a walk with one vertex more is longer by one edge
pub length-and-edge : (graph : PlainGraph) (pass : Passing) (from u v : Name) (walk : List Name)
    → IsTrue (is_walk graph pass from u walk) → walk_length (walk ++ v ∷ []) ≡ suc (walk_length walk)
length-and-edge graph pass from u v [] walks = cc
length-and-edge graph pass from u v (x ∷ rest) walks = one_more rest
  where
    one_more : (xs : List Name) → length (xs ++ v ∷ []) ≡ suc (length xs)
    one_more [] = refl
    one_more (y ∷ xs) = ap suc (one_more xs)

module _ (graph : PlainGraph) (pass : Passing) (from : Name) where
  -- a vertex of a level is a target of one before, if it isn't the start
  pub source-before : (n : ℕ) (v : Name) → IsTrue (is_among (levels_to (suc n) graph pass from).level v) → (u : Name) × IsSource graph pass (levels_to n graph pass from).level v u
  source-before n v h =
      all-targets-only graph pass (levels_to n graph pass from).level v
      (and_parts (is_among (targets_of_all graph pass (levels_to n graph pass from).level) v) _ (filter-only _ _ v (as_set-only _ v h))).0

  -- a vertex of a level is in no earlier one
  pub new-in-level : (n : ℕ) (v : Name) → IsTrue (is_among (levels_to n graph pass from).level v) → is_among (levels_to n graph pass from).before v ≡ false
  new-in-level zero v h = refl
  new-in-level (suc n) v h =
      not-true _
      (and_parts (is_among (targets_of_all graph pass (levels_to n graph pass from).level) v) _ (filter-only _ _ v (as_set-only _ v h))).1

  -- a walk of at most n edges leads to each vertex of the levels 0 to n that is there
  pub walk-within : (n : ℕ) (v : Name) → IsTrue (is_some (graph v)) → IsTrue (is_among (through_level n graph pass from) v) → (walk : List Name) × IsTrue (is_walk_within n graph pass from v walk)
  walk-within zero v there h =
      elim (or_cases (same_name from v) _ h) [
        | inl same ↦ (v ∷ [], and_from _ _ (and_from _ _ (and_from _ _ same there) (same_name-refl v)) refl)
        | inr none ↦ cc
      ]
  walk-within (suc n) v there h =
      elim (among-cases (through_level n graph pass from) (levels_to (suc n) graph pass from).level v h) [
        | inl earlier ↦ longer (walk-within n v there earlier)
        | inr here ↦ onward (source-before n v here) (walk-within n)
      ]
    where
      longer : (walk : List Name) × IsTrue (is_walk_within n graph pass from v walk) → (walk : List Name) × IsTrue (is_walk_within (suc n) graph pass from v walk)
      longer w =
          let parts = and_parts (is_walk graph pass from v w.0) _ w.1 in
          let le = leb-true (walk_length w.0) n parts.1 in
          (w.0, and_from _ _ parts.0 (le-leb (walk_length w.0) (suc n) (omega (arith, le))))

      onward : (u : Name) × IsSource graph pass (levels_to n graph pass from).level v u
          → ((u : Name) → IsTrue (is_some (graph u)) → IsTrue (is_among (through_level n graph pass from) u) → (walk : List Name) × IsTrue (is_walk_within n graph pass from u walk))
          → (walk : List Name) × IsTrue (is_walk_within (suc n) graph pass from v walk)
      onward source walks =
          let u = source.0 in
          let w = walks u (target-of pass (graph u) v source.1.edge) (among-right (levels_to n graph pass from).before _ u source.1.among) in
          let parts = and_parts (is_walk graph pass from u w.0) _ w.1 in
          let le = leb-true (walk_length w.0) n parts.1 in
          let more = length-and-edge graph pass from u v w.0 parts.0 in
          (w.0 ++ v ∷ [], and_from _ _ (walk-and-edge graph pass from u v w.0 parts.0 source.1.edge there) (le-leb (walk_length (w.0 ++ v ∷ [])) (suc n) (omega (arith, le, more))))

  -- a vertex that is there is in the levels 0 to n exactly if a walk of at most n edges leads to it
  pub levels-are-distances : (n : ℕ) (v : Name) → IsTrue (is_some (graph v)) → IsTrue (is_among (through_level n graph pass from) v) ↔ ((walk : List Name) × IsTrue (is_walk_within n graph pass from v walk))
  levels-are-distances n v there = (walk-within n v there, λ w. around_visits graph pass from v n w.0 w.1)

-- a list that no name is among is empty
pub no-member : (xs : List Name) → ((v : Name) → ¬ IsTrue (is_among xs v)) → xs ≡ []
no-member [] none = refl
no-member (x ∷ xs) none = absurd (none x (or_left _ _ (same_name-refl x)))
