-- A program has one list of visits at most.
-- Used by `list_of_visits_is_one`, AnswersAgree, Cutting, GoingOn, Onward, ReadOrder, Searched and VisitsAgree.
use Rattle.std.proofs.Common.{append-nil, ◌||◌, ◌≡◌, ℕ, zero, suc, ◌+◌, ◌-◌, ◌≤◌, Bool, true, false, List, [], ◌∷◌, ◌++◌, IsTrue, refl, sym, ap, subst, ◌∙◌, inl, inr, arith}
use Rattle.std.specs.Prelude.{if◌then◌else◌}
use Rattle.std.proofs.lemmas.Bool.{cases_lt, both_ways, or_left, or_parts}
use Rattle.std.proofs.lemmas.List.{append_assoc}
use Rattle.weave_data.specs.Names.{same_name}
use Rattle.weave_data.specs.declared.name.Name.{Name}
use Rattle.graph_ops.specs.Mentions.{is_among}
use Rattle.graph_ops.specs.PlainGraph.{PlainGraph}
use Rattle.graph_ops.proofs.Vertices.{same_name-refl}
use Rattle.graph_ops.proofs.States.{same_name-sym}
use Rattle.program_defs.specs.declared.passing.Passing.{Passing}
use Rattle.program_defs.specs.declared.passing.Passing.TheVariants.{Priced}
use Rattle.program_defs.specs.declared.program.Program.{Program}
use Rattle.program_defs.specs.declared.program.Program.TheVariants.{Show, Reach, Around, Path, Price}
use Rattle.program_defs.specs.Walks.{passing_of}
use Rattle.program_defs.specs.Visits.{as_set, targets_of_all, not_among, levels_to, through_level, up_to, visits_to, IsVisited, IsListOfVisits}
use Rattle.program_defs.proofs.Members.{among-right}
use Rattle.program_defs.proofs.Levels.{new-in-level}

-- Names up to a target

-- what comes after the target is left out
pub cut-there : (target : Name) (xs more : List Name) → IsTrue (is_among xs target) → up_to target (xs ++ more) ≡ up_to target xs
cut-there target [] more h = cc
cut-there target (x ∷ xs) more h = here (same_name target x) (subst (λ b. IsTrue (b || is_among xs target)) (same_name-sym x target) h) (cut-there target xs more)
  where
    here : (b : Bool) → IsTrue (b || is_among xs target) → (IsTrue (is_among xs target) → up_to target (xs ++ more) ≡ up_to target xs)
        → (if b then x ∷ [] else x ∷ up_to target (xs ++ more)) ≡ (if b then x ∷ [] else x ∷ up_to target xs)
    here true g rest = refl
    here false g rest = ap (λ ys. x ∷ ys) (rest g)

-- a target that isn't in the first list cuts the second alone
pub not-there : (target : Name) (xs more : List Name) → is_among xs target ≡ false → up_to target (xs ++ more) ≡ xs ++ up_to target more
not-there target [] more h = refl
not-there target (x ∷ xs) more h =
    let parts = or_parts (same_name x target) _ h in
    here (same_name target x) (same_name-sym target x ∙ parts.0) (not-there target xs more parts.1)
  where
    here : (b : Bool) → b ≡ false → up_to target (xs ++ more) ≡ xs ++ up_to target more → (if b then x ∷ [] else x ∷ up_to target (xs ++ more)) ≡ x ∷ xs ++ up_to target more
    here true g rest = cc
    here false g rest = ap (λ ys. x ∷ ys) rest

-- the first name of a list stays when the list is cut after a target
pub first-there : (target x : Name) (xs : List Name) → IsTrue (is_among (up_to target (x ∷ xs)) x)
first-there target x xs = here (same_name target x)
  where
    here : (b : Bool) → IsTrue (is_among (if b then x ∷ [] else x ∷ up_to target xs) x)
    here true = or_left _ _ (same_name-refl x)
    here false = or_left _ _ (same_name-refl x)

module _ (graph : PlainGraph) (pass : Passing) (from : Name) where
  -- after an empty level each is empty
  empty-after : (k n : ℕ) → (levels_to (suc n) graph pass from).level ≡ [] → (levels_to (suc (k + n)) graph pass from).level ≡ []
  empty-after zero n h = let e : n ≡ 0 + n = omega arith in subst (λ m. (levels_to (suc m) graph pass from).level ≡ []) e h
  empty-after (suc k) n h =
      let e : suc (k + n) ≡ suc k + n = omega arith in
      subst (λ m. (levels_to (suc m) graph pass from).level ≡ []) e
      (ap (λ level. as_set (not_among (through_level (suc (k + n)) graph pass from) (targets_of_all graph pass level))) (empty-after k n h))

  -- if level n + 1 is empty, the vertices through any later level are just those through level n
  pub nothing-more : (k n : ℕ) → (levels_to (suc n) graph pass from).level ≡ [] → through_level (k + n) graph pass from ≡ through_level n graph pass from
  nothing-more zero n h = let e : 0 + n ≡ n = omega arith in ap (λ m. through_level m graph pass from) e
  nothing-more (suc k) n h =
      let e : suc k + n ≡ suc (k + n) = omega arith in
      ap (λ m. through_level m graph pass from) e
      ∙ ap (λ level. through_level (k + n) graph pass from ++ level) (empty-after k n h)
      ∙ append-nil (through_level (k + n) graph pass from)
      ∙ nothing-more k n h

  -- more levels begin with these
  pub goes-on : (k n : ℕ) → (more : List Name) × (through_level (k + n) graph pass from ≡ through_level n graph pass from ++ more)
  goes-on zero n = let e : 0 + n ≡ n = omega arith in ([], ap (λ m. through_level m graph pass from) e ∙ sym (append-nil (through_level n graph pass from)))
  goes-on (suc k) n =
      let e : suc k + n ≡ suc (k + n) = omega arith in
      let rest = goes-on k n in
      let level = (levels_to (suc (k + n)) graph pass from).level in
      (rest.0 ++ level, ap (λ m. through_level m graph pass from) e ∙ ap (λ xs. xs ++ level) rest.1 ∙ append_assoc (through_level n graph pass from) rest.0 level)

  -- a level is empty if the levels before it have its first vertex
  empty-if-old : (n : ℕ) → ((x : Name) → IsTrue (is_among (levels_to (suc n) graph pass from).level x) → IsTrue (is_among (through_level n graph pass from) x)) → (levels_to (suc n) graph pass from).level ≡ []
  empty-if-old n old = at (levels_to (suc n) graph pass from).level refl
    where
      at : (level : List Name) → (levels_to (suc n) graph pass from).level ≡ level → (levels_to (suc n) graph pass from).level ≡ []
      at [] e = e
      at (x ∷ xs) e =
          let first : IsTrue (is_among (levels_to (suc n) graph pass from).level x) = subst (λ level. IsTrue (is_among level x)) (sym e) (or_left _ _ (same_name-refl x)) in
          absurd (both_ways _ (new-in-level graph pass from (suc n) x first) (old x first))

  -- if the levels to n have each vertex of any, more levels change nothing
  all-whole : (n k : ℕ) → ((v : Name) (m : ℕ) → IsTrue (is_among (through_level m graph pass from) v) → IsTrue (is_among (through_level n graph pass from) v))
      → through_level (k + n) graph pass from ≡ through_level n graph pass from
  all-whole n k whole = nothing-more k n (empty-if-old n (λ x first. whole x (suc n) (among-right (through_level n graph pass from) (levels_to (suc n) graph pass from).level x first)))

  -- if the list up to the target is whole, more levels change nothing
  reach-whole : (to : Name) (n k : ℕ) → ((v : Name) (m : ℕ) → IsTrue (is_among (up_to to (through_level m graph pass from)) v) → IsTrue (is_among (up_to to (through_level n graph pass from)) v))
      → up_to to (through_level (k + n) graph pass from) ≡ up_to to (through_level n graph pass from)
  reach-whole to n k whole = there (is_among (through_level n graph pass from) to) refl
    where
      there : (b : Bool) → is_among (through_level n graph pass from) to ≡ b → up_to to (through_level (k + n) graph pass from) ≡ up_to to (through_level n graph pass from)
      there true is =
          let more = goes-on k n in
          ap (up_to to) more.1 ∙ cut-there to (through_level n graph pass from) more.0 is
      there false is = ap (up_to to) (nothing-more k n (empty (levels_to (suc n) graph pass from).level refl))
        where
          -- its first vertex would be visited, and be no new one
          empty : (level : List Name) → (levels_to (suc n) graph pass from).level ≡ level → (levels_to (suc n) graph pass from).level ≡ []
          empty [] e = e
          empty (x ∷ xs) e =
              let first : IsTrue (is_among (up_to to (through_level (suc n) graph pass from)) x) =
              subst (λ ys. IsTrue (is_among ys x)) (sym (not-there to (through_level n graph pass from) (levels_to (suc n) graph pass from).level is))
              (among-right (through_level n graph pass from) _ x (subst (λ level. IsTrue (is_among (up_to to level) x)) (sym e) (first-there to x xs))) in
              let uncut : up_to to (through_level n graph pass from) ≡ through_level n graph pass from =
              ap (up_to to) (sym (append-nil (through_level n graph pass from))) ∙ not-there to (through_level n graph pass from) [] is ∙ append-nil (through_level n graph pass from) in
              let old : IsTrue (is_among (through_level n graph pass from) x) = subst (λ ys. IsTrue (is_among ys x)) uncut (whole x (suc n) first) in
              let new = new-in-level graph pass from (suc n) x (subst (λ level. IsTrue (is_among level x)) (sym e) (or_left _ _ (same_name-refl x))) in
              absurd (both_ways _ new old)

-- the list gone through to one level, if it is whole, is the one gone through to another
pub visits-whole : (graph : PlainGraph) (program : Program) (n k : ℕ) → ((v : Name) → IsVisited graph program v → IsTrue (is_among (visits_to n graph program) v)) → visits_to (k + n) graph program ≡ visits_to n graph program
visits-whole graph (Show v) n k whole = refl
visits-whole graph (Reach from to pass) n k whole = reach-whole graph (passing_of pass) from to n k (λ v m h. whole v (m, h))
visits-whole graph (Around from bound pass) n k whole = refl
visits-whole graph (Path from to bound pass) n k whole = refl
visits-whole graph (Price from to key) n k whole = all-whole graph (Priced key) from n k (λ v m h. whole v (m, h))

-- two complete lists of visits of a program on one graph are equal
pub one_list : (graph : PlainGraph) (program : Program) (a b : List Name) → IsListOfVisits graph program a → IsListOfVisits graph program b → a ≡ b
one_list graph program a b g h =
    elim (cases_lt g.last_level h.last_level) [
      | inl less ↦ sym (h.in_turn ∙ step g.last_level h.last_level (omega (arith, less)) a g.in_turn g.whole)
      | inr more ↦ g.in_turn ∙ step h.last_level g.last_level more b h.in_turn h.whole
    ]
  where
    step : (n m : ℕ) → n ≤ m → (visits : List Name) → visits ≡ visits_to n graph program → ((v : Name) → IsVisited graph program v → IsTrue (is_among visits v)) → visits_to m graph program ≡ visits
    step n m le visits is whole =
        let e : m ≡ (m - n) + n = omega (arith, le) in
        ap (λ i. visits_to i graph program) e
        ∙ visits-whole graph program n (m - n) (λ v at. subst (λ xs. IsTrue (is_among xs v)) is (whole v at))
        ∙ sym is
