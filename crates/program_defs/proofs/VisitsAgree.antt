-- Graphs that agree on the vertices that a program visits have the same list of visits.
-- Used by `only_visits_matter`, Answering, AnswersAgree, Asking, Cutting, Feeding, Listing, Once, Onward, Pathing and
-- Seeing.
use Rattle.std.proofs.Common.{◌≡◌, ℕ, zero, suc, Bool, true, false, List, [], ◌∷◌, ◌++◌, IsTrue, refl, sym, ap, subst, ◌∙◌, ◌⊎◌, inl, inr}
use Rattle.std.specs.Prelude.{if◌then◌else◌}
use Rattle.std.proofs.lemmas.Bool.{cases_Bool, both_ways, or_cases, or_left, or_right}
use Rattle.weave_data.specs.Names.{same_name}
use Rattle.weave_data.specs.declared.name.Name.{Name}
use Rattle.graph_ops.specs.Mentions.{is_among}
use Rattle.graph_ops.specs.PlainGraph.{PlainGraph}
use Rattle.graph_ops.proofs.Vertices.{same_name-refl}
use Rattle.graph_ops.proofs.States.{same_name-sym}
use Rattle.program_defs.specs.declared.passing.Passing.{Passing}
use Rattle.program_defs.specs.declared.passing.Passing.TheVariants.{Priced}
use Rattle.program_defs.specs.declared.program.Program.{Program}
use Rattle.program_defs.specs.declared.program.Program.TheVariants.{Show, Reach, Around, Path, Price}
use Rattle.program_defs.specs.Visits.{Levels, names_through, next_level, as_set, targets_of_all, not_among, levels_to, through_level, up_to, visits_to, IsVisited, IsListOfVisits}
use Rattle.program_defs.specs.Walks.{passing_of, targets}
use Rattle.program_defs.specs.Agreement.{Agree, AgreeOnVisits}
use Rattle.program_defs.proofs.Members.{among-left, among-right}
use Rattle.program_defs.proofs.OneList.{cut-there, not-there}

-- Names up to a target

-- a target that is among some names is among the names up to it
pub target-there : (target : Name) (xs : List Name) → IsTrue (is_among xs target) → IsTrue (is_among (up_to target xs) target)
target-there target [] h = cc
target-there target (x ∷ xs) h = here (same_name target x) refl (or_cases (same_name x target) _ h) (target-there target xs)
  where
    here : (b : Bool) → same_name target x ≡ b → IsTrue (same_name x target) ⊎ IsTrue (is_among xs target) → (IsTrue (is_among xs target) → IsTrue (is_among (up_to target xs) target)) → IsTrue (is_among (if b then x ∷ [] else x ∷ up_to target xs) target)
    here true e g rest = or_left _ _ (same_name-sym x target ∙ e)
    here false e (inl same) rest = absurd (both_ways _ e (same_name-sym target x ∙ same))
    here false e (inr more) rest = or_right (same_name x target) _ (rest more)

-- each of the names up to a target is among all the names
pub up-to-only : (target : Name) (xs : List Name) (v : Name) → IsTrue (is_among (up_to target xs) v) → IsTrue (is_among xs v)
up-to-only target [] v h = h
up-to-only target (x ∷ xs) v h = here (same_name target x) h (up-to-only target xs v)
  where
    here : (b : Bool) → IsTrue (is_among (if b then x ∷ [] else x ∷ up_to target xs) v) → (IsTrue (is_among (up_to target xs) v) → IsTrue (is_among xs v)) → IsTrue (is_among (x ∷ xs) v)
    here true g rest = elim (or_cases (same_name x v) _ g) [ inl same ↦ or_left _ _ same | inr none ↦ cc ]
    here false g rest = elim (or_cases (same_name x v) _ g) [ inl same ↦ or_left _ _ same | inr more ↦ or_right (same_name x v) _ (rest more) ]

-- Levels

module _ (g h : PlainGraph) (pass : Passing) where
  -- graphs that agree on some vertices have the same passing targets of these
  pub targets-same : (vs : List Name) → Agree g h vs → targets_of_all g pass vs ≡ targets_of_all h pass vs
  targets-same [] a = refl
  targets-same (v ∷ vs) a =
      ap (λ s. targets pass s ++ targets_of_all g pass vs) (a v (or_left _ _ (same_name-refl v)))
      ∙ ap (λ rest. targets pass (h v) ++ rest) (targets-same vs (λ w k. a w (or_right (same_name v w) _ k)))

  next-same : (levels : Levels) → Agree g h levels.level → next_level g pass levels ≡ next_level h pass levels
  next-same levels a = ap (λ ts. record { before = names_through levels; level = as_set (not_among (names_through levels) ts) }) (targets-same levels.level a)

  module _ (from : Name) where
    -- agreement through a level gives the next one
    pub next-levels : (n : ℕ) → Agree g h (through_level n g pass from) → levels_to (suc n) g pass from ≡ levels_to (suc n) h pass from
    next-levels zero a = next-same (record { before = []; level = from ∷ [] }) a
    next-levels (suc n) a =
        next-same (levels_to (suc n) g pass from) (λ v k. a v (among-right (levels_to (suc n) g pass from).before (levels_to (suc n) g pass from).level v k))
        ∙ ap (next_level h pass) (next-levels n (λ v k. a v (among-left (through_level n g pass from) (levels_to (suc n) g pass from).level v k)))

    -- two graphs that agree on the levels 0 to n have the same names in these levels, in the same order
    pub same-levels : (n : ℕ) → Agree g h (through_level n g pass from) → through_level n g pass from ≡ through_level n h pass from
    same-levels zero a = refl
    same-levels (suc n) a = ap names_through (next-levels n (λ v k. a v (among-left (through_level n g pass from) (levels_to (suc n) g pass from).level v k)))

    -- and so up to a target
    pub same-up-to : (to : Name) (n : ℕ) → Agree g h (up_to to (through_level n g pass from)) → up_to to (through_level n g pass from) ≡ up_to to (through_level n h pass from)
    same-up-to to zero a = refl
    same-up-to to (suc n) a = at (cases_Bool (is_among (through_level n g pass from) to)) (same-up-to to n)
      where
        at : (is_among (through_level n g pass from) to ≡ true) ⊎ (is_among (through_level n g pass from) to ≡ false) → (Agree g h (up_to to (through_level n g pass from)) → up_to to (through_level n g pass from) ≡ up_to to (through_level n h pass from))
            → up_to to (through_level (suc n) g pass from) ≡ up_to to (through_level (suc n) h pass from)
        at (inl there) rest =
            let cut-g : up_to to (through_level (suc n) g pass from) ≡ up_to to (through_level n g pass from) = cut-there to (through_level n g pass from) (levels_to (suc n) g pass from).level there in
            let same = rest (λ v k. a v (subst (λ xs. IsTrue (is_among xs v)) (sym cut-g) k)) in
            let there-h : IsTrue (is_among (through_level n h pass from) to) = up-to-only to (through_level n h pass from) to (subst (λ xs. IsTrue (is_among xs to)) same (target-there to (through_level n g pass from) there)) in
            cut-g ∙ same ∙ sym (cut-there to (through_level n h pass from) (levels_to (suc n) h pass from).level there-h)
        at (inr none) rest =
            let all : up_to to (through_level (suc n) g pass from) ≡ through_level n g pass from ++ up_to to (levels_to (suc n) g pass from).level = not-there to (through_level n g pass from) (levels_to (suc n) g pass from).level none in
            ap (λ levels. up_to to (names_through levels)) (next-levels n (λ v k. a v (subst (λ xs. IsTrue (is_among xs v)) (sym all) (among-left (through_level n g pass from) (up_to to (levels_to (suc n) g pass from).level) v k))))

-- the list of visits is the same
pub visits-same : (g h : PlainGraph) (program : Program) (n : ℕ) → Agree g h (visits_to n g program) → visits_to n g program ≡ visits_to n h program
visits-same g h (Show v) n a = refl
visits-same g h (Reach from to pass) n a = same-up-to g h (passing_of pass) from to n a
visits-same g h (Around from bound pass) n a = same-levels g h (passing_of pass) from bound a
visits-same g h (Path from to bound pass) n a = same-up-to g h (passing_of pass) from to bound a
visits-same g h (Price from to key) n a = same-levels g h (Priced key) from n a

-- graphs that agree on the visits of a program have the same vertices visited by it
pub visited-same : (g h : PlainGraph) (program : Program) → AgreeOnVisits g h program → (v : Name) → IsVisited g program v → IsVisited h program v
visited-same g h program a v visited = (visited.0, subst (λ xs. IsTrue (is_among xs v)) (visits-same g h program visited.0 (λ w k. a w (visited.0, k))) visited.1)

-- if two graphs agree on what a program visits in the first, they agree on what it visits in the second
pub agree-back : (g h : PlainGraph) (program : Program) → AgreeOnVisits g h program → AgreeOnVisits h g program
agree-back g h program a v visited = sym (a v (visited.0, subst (λ xs. IsTrue (is_among xs v)) (sym (visits-same g h program visited.0 (λ w k. a w (visited.0, k)))) visited.1))

-- the whole list is one of the other graph
pub list-same : (g h : PlainGraph) (program : Program) (visits : List Name) → AgreeOnVisits g h program → IsListOfVisits g program visits → IsListOfVisits h program visits
list-same g h program visits a is = record {
  last_level = is.last_level;
  in_turn = is.in_turn ∙ visits-same g h program is.last_level (λ w k. a w (is.last_level, k));
  whole = λ v visited. is.whole v (visited-same h g program (agree-back g h program a) v visited);
}
