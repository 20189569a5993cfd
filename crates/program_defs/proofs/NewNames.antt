-- Names that are new to a table, and the targets of edges that are looked at in turn.
-- Used by `look`, `note_all`, `reach`, `row_of`, Noting, Seeing and crate priced_path.
use Rattle.std.proofs.Common.{append_assoc, add-one, ◌≡◌, ◌+◌, ◌<◌, ℕ, length, get_or, drop, Bool, true, false, ◌||◌, ◌&&◌, not, List, [], ◌∷◌, ◌++◌, map, refl, sym, ap, subst, ◌∙◌}
use Rattle.std.proofs.Math.Seq.{drop-cons}
use Rattle.std.specs.Prelude.{if◌then◌else◌}
use Rattle.std.specs.List.{filter}
use Rattle.std.specs.Map.{values_of}
use Rattle.weave_data.specs.Names.{same_name, one_name}
use Rattle.weave_data.specs.declared.name.Name.{Name}
use Rattle.graph_ops.specs.Mentions.{is_among}
use Rattle.graph_ops.specs.declared.record.Edge.{Edge}
use Rattle.graph_ops.proofs.Vertices.{same_name-refl}
use Rattle.graph_ops.proofs.States.{same_name-sym}
use Rattle.program_defs.specs.declared.passing.Passing.{Passing}
use Rattle.program_defs.specs.Searching.{has_name, new_names, IsOnce}
use Rattle.program_defs.specs.Walks.{passes_edge}

-- a table has the names among its own
pub has-among : (names : List Name) (v : Name) → has_name names v ≡ is_among names v
has-among [] v = refl
has-among (x ∷ xs) v = ap (λ b. b || has_name xs v) (same_name-sym v x) ∙ ap (λ b. same_name x v || b) (has-among xs v)

-- a name that is known stays so
pub known-same : (names : List Name) (name v : Name) → has_name names name ≡ true → has_name names v ≡ same_name name v || has_name names v
known-same names name v known = at (same_name name v) refl
  where
    at : (b : Bool) → same_name name v ≡ b → has_name names v ≡ b || has_name names v
    at true is = ap (has_name names) (sym (one_name name v is)) ∙ known
    at false is = refl

-- the targets of the passing ones of these edges
abbrev pub targets_in : Passing → List (Name × Edge) → List Name
targets_in pass edges = map (λ (edge : Edge). edge.target) (filter (passes_edge pass) (values_of edges))

-- what is left of the edges begins with the one that is read
pub next-edge : (all edges : List (Name × Edge)) (i : ℕ) (one : Name × Edge) → all ≡ edges → i < length all → one ≡ get_or all i one → drop i edges ≡ one ∷ drop (i + 1) edges
next-edge all edges i one same inside is = subst (λ (xs : List (Name × Edge)). drop i xs ≡ one ∷ drop (i + 1) xs) same (drop-cons all i one inside ∙ rw (← is, add-one) refl)

-- a set of names that has this one besides
abbrev pub AddsName : List Name → Name → List Name → Type 0
AddsName names name more = (v : Name) → has_name more v ≡ same_name name v || has_name names v

-- if the next edge passes and its target is added unless known, the names found and to be found stay the same
pub new-more : (pass : Passing) (front rest : List (Name × Edge)) (key : Name) (edge : Edge) (all found found' reached reached' : List Name)
    → front ≡ (key, edge) ∷ rest → passes_edge pass edge ≡ true
    → found' ≡ found ++ (if has_name reached edge.target then [] else edge.target ∷ []) → AddsName reached edge.target reached'
    → found ++ new_names (has_name reached) (targets_in pass front) ≡ all → found' ++ new_names (has_name reached') (targets_in pass rest) ≡ all
new-more pass front rest key edge all found found' reached reached' next pass_it adds knows so_far =
    let known : has_name reached' ≡ (λ w. same_name edge.target w || has_name reached w) = λ i v. knows v i in
    let here : targets_in pass front ≡ edge.target ∷ targets_in pass rest = ap (targets_in pass) next ∙ rw pass_it refl in
    ap (λ xs. xs ++ new_names (has_name reached') (targets_in pass rest)) adds
    ∙ ap (λ f. (found ++ (if has_name reached edge.target then [] else edge.target ∷ [])) ++ new_names f (targets_in pass rest)) known
    ∙ append_assoc found (if has_name reached edge.target then [] else edge.target ∷ []) (new_names (λ w. same_name edge.target w || has_name reached w) (targets_in pass rest))
    ∙ ap (λ ts. found ++ new_names (has_name reached) ts) (sym here)
    ∙ so_far

-- when a passing edge's target is noted as reached, the names reached or still to come are the same as before
pub known-more : (pass : Passing) (front rest : List (Name × Edge)) (key : Name) (edge : Edge) (reached reached' : List Name) (all : Name → Bool)
    → front ≡ (key, edge) ∷ rest → passes_edge pass edge ≡ true → ((v : Name) → has_name reached' v ≡ same_name edge.target v || has_name reached v)
    → ((v : Name) → is_among (targets_in pass front) v || has_name reached v ≡ all v) → (v : Name) → is_among (targets_in pass rest) v || has_name reached' v ≡ all v
known-more pass front rest key edge reached reached' all next pass_it knows so_far v =
    let here : targets_in pass front ≡ edge.target ∷ targets_in pass rest = ap (targets_in pass) next ∙ rw pass_it refl in
    ap (λ b. is_among (targets_in pass rest) v || b) (knows v)
    ∙ turned (is_among (targets_in pass rest) v) (same_name edge.target v) (has_name reached v)
    ∙ ap (λ ts. is_among ts v || has_name reached v) (sym here)
    ∙ so_far v
  where
    turned : (a b c : Bool) → a || (b || c) ≡ (b || a) || c
    turned true true c = refl
    turned true false c = refl
    turned false true c = refl
    turned false false c = refl

-- if the first edge passes, the targets of the passing edges are its target, and then those of the rest
pub targets-next : (pass : Passing) (front rest : List (Name × Edge)) (key : Name) (edge : Edge) → front ≡ (key, edge) ∷ rest → passes_edge pass edge ≡ true → targets_in pass front ≡ edge.target ∷ targets_in pass rest
targets-next pass front rest key edge next pass_it = ap (targets_in pass) next ∙ rw pass_it refl

-- the next edge doesn't pass
pub targets-skipped : (pass : Passing) (front rest : List (Name × Edge)) (key : Name) (edge : Edge) → front ≡ (key, edge) ∷ rest → passes_edge pass edge ≡ false → targets_in pass front ≡ targets_in pass rest
targets-skipped pass front rest key edge next pass_it = ap (targets_in pass) next ∙ rw pass_it refl

-- Members of new names

-- a name is among the new names exactly if it is among all the names and isn't known
pub new-among : (names : List Name) (known : Name → Bool) (v : Name) → is_among (new_names known names) v ≡ is_among names v && not (known v)
new-among [] known v = refl
new-among (x ∷ xs) known v = at (known x) (same_name x v) refl refl (new-among xs (λ w. same_name x w || known w) v)
  where
    at : (k s : Bool) → known x ≡ k → same_name x v ≡ s → is_among (new_names (λ w. same_name x w || known w) xs) v ≡ is_among xs v && not (same_name x v || known v)
        → is_among ((if k then [] else x ∷ []) ++ new_names (λ w. same_name x w || known w) xs) v ≡ (s || is_among xs v) && not (known v)
    at true true k s rest = let e : known v ≡ true = ap known (sym (one_name x v s)) ∙ k in rest ∙ rw (s, e) (none (is_among xs v))
      where
        none : (b : Bool) → b && false ≡ false
        none true = refl
        none false = refl
    at true false k s rest = rest ∙ rw s refl
    at false true k s rest = let e : known v ≡ false = ap known (sym (one_name x v s)) ∙ k in rw (s, e) refl
    at false false k s rest = ap (λ b. b || is_among (new_names (λ w. same_name x w || known w) xs) v) s ∙ rest ∙ rw s refl

-- no new name comes twice
pub new-once : (names : List Name) (known : Name → Bool) → IsOnce (new_names known names)
new-once [] known = tt
new-once (x ∷ xs) known = at (known x) (new-once xs (λ w. same_name x w || known w))
  where
    at : (k : Bool) → IsOnce (new_names (λ w. same_name x w || known w) xs) → IsOnce ((if k then [] else x ∷ []) ++ new_names (λ w. same_name x w || known w) xs)
    at true rest = rest
    at false rest = (new-among xs (λ w. same_name x w || known w) x ∙ rw (same_name-refl x) (none (is_among xs x)), rest)
      where
        none : (b : Bool) → b && false ≡ false
        none true = refl
        none false = refl
