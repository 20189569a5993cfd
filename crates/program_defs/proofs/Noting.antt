-- Hops that are noted edge by edge, and marks that are given hop by hop.
-- Used by `first_mark`, `mark_in_turn` and `note_all`.
use Rattle.std.proofs.Common.{append_assoc, ◌≡◌, ℕ, ◌+◌, Bool, true, false, cond, ◌||◌, List, [], ◌∷◌, ◌++◌, length, refl, sym, ap, ◌∙◌, Some, None, arith}
use Rattle.std.specs.Prelude.{is_some, if◌then◌else◌}
use Rattle.weave_data.specs.Names.{same_name}
use Rattle.weave_data.specs.declared.name.Name.{Name}
use Rattle.graph_ops.specs.Mentions.{is_among}
use Rattle.graph_ops.specs.declared.record.Edge.{Edge}
use Rattle.program_defs.specs.declared.path_search.Hop.{Hop}
use Rattle.program_defs.specs.declared.path_search.Mark.{Mark}
use Rattle.program_defs.specs.declared.passing.Passing.{Passing}
use Rattle.program_defs.specs.LeastWalks.{mark_in, with_mark, marks_after, hops_from}
use Rattle.program_defs.specs.Walks.{passes_edge}
use Rattle.program_defs.proofs.Marking.{marked-old, marked-new}
use Rattle.program_defs.proofs.NewNames.{targets_in, targets-next}

-- if the next edge passes and its hop is put at the end, the hops so far and those to come stay the same
pub hop-more : (pass : Passing) (v : Name) (rank : ℕ) (front rest : List (Name × Edge)) (key : Name) (edge : Edge) (hops hops' all : List Hop)
    → front ≡ (key, edge) ∷ rest → passes_edge pass edge ≡ true → hops' ≡ hops ++ record { rank = rank; target = edge.target; parent = v } ∷ []
    → hops ++ hops_from v rank (targets_in pass front) ≡ all → hops' ++ hops_from v rank (targets_in pass rest) ≡ all
hop-more pass v rank front rest key edge hops hops' all next pass_it adds so_far =
    ap (λ xs. xs ++ hops_from v rank (targets_in pass rest)) adds
    ∙ append_assoc hops (record { rank = rank; target = edge.target; parent = v } ∷ []) (hops_from v rank (targets_in pass rest))
    ∙ ap (λ ts. hops ++ hops_from v rank ts) (sym (targets-next pass front rest key edge next pass_it))
    ∙ so_far

-- the next hop is taken
pub marked-step : (old new : List (Name × Mark)) (hop : Hop) (rest : List Hop)
    → ((v : Name) → mark_in new v ≡ (if is_some (mark_in old hop.target) then mark_in old v else with_mark hop.target (record { parent = hop.parent; rank = length old }) (mark_in old) v))
    → length new ≡ length old + (if is_some (mark_in old hop.target) then 0 else 1)
    → (v : Name) → marks_after (mark_in new) (length new) rest v ≡ marks_after (mark_in old) (length old) (hop ∷ rest) v
marked-step old new hop rest marks count v = at (is_some (mark_in old hop.target)) refl
  where
    at : (b : Bool) → is_some (mark_in old hop.target) ≡ b → marks_after (mark_in new) (length new) rest v ≡ marks_after (mark_in old) (length old) (hop ∷ rest) v
    at true e =
        let m : mark_in new ≡ mark_in old = λ i w. (marks w ∙ ap (λ b. if b then mark_in old w else with_mark hop.target (record { parent = hop.parent; rank = length old }) (mark_in old) w) e) i in
        let none : length old + 0 ≡ length old = omega arith in
        let n : length new ≡ length old = count ∙ ap (λ b. length old + (if b then 0 else 1)) e ∙ none in
        (λ i. marks_after (m i) (n i) rest v) ∙ sym (marked-old (mark_in old) (length old) hop rest v e)
    at false e =
        let m : mark_in new ≡ with_mark hop.target (record { parent = hop.parent; rank = length old }) (mark_in old) = λ i w. (marks w ∙ ap (λ b. if b then mark_in old w else with_mark hop.target (record { parent = hop.parent; rank = length old }) (mark_in old) w) e) i in
        let n : length new ≡ length old + 1 = count ∙ ap (λ b. length old + (if b then 0 else 1)) e in
        (λ i. marks_after (m i) (n i) rest v) ∙ sym (marked-new (mark_in old) (length old) hop rest v e)

-- if one name is marked where none was, just this name has a mark
pub first-mark : (from : Name) (start : Mark) (old new : List (Name × Mark)) → ((v : Name) → mark_in old v ≡ None) → ((v : Name) → mark_in new v ≡ cond (same_name from v) (Some start) (mark_in old v)) → (v : Name) → is_some (mark_in new v) ≡ is_among (from ∷ []) v
first-mark from start old new none puts v = ap is_some (puts v ∙ ap (cond (same_name from v) (Some start)) (none v)) ∙ at (same_name from v)
  where
    at : (b : Bool) → is_some (cond b (Some start) None) ≡ b || false
    at true = refl
    at false = refl
