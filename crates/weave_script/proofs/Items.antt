-- One more request, and one more phase, at the end of a script's items.
-- Used by Phases and Reached.
use Rattle.std.proofs.Common.{◌≡◌, ℕ, ◌+◌, ◌<◌, Bool, true, false, cond, List, [], ◌∷◌, ◌++◌, length, refl, sym, ap, ◌∙◌, append_assoc, append-nil, arith}
use Rattle.std.specs.Prelude.{nat_le}
use Rattle.std.specs.List.{list_all}
use Rattle.std.proofs.lemmas.Bool.{and_parts, leb-true, false_from_ne_true}
use Rattle.program_defs.specs.declared.script.Request.{Request}
use Rattle.weave_script.specs.ScriptLines.{request_lines, phase_line, phase_lines, due_phases, later_phases, item_lines}

-- at most n requests are before each phase
abbrev pub are_at_most : ℕ → List ℕ → Bool
are_at_most n phases = list_all (λ phase. nat_le phase n) phases

-- if every phase is due, none is later
pub all_due : (n : ℕ) (phases : List ℕ) → are_at_most n phases ≡ true → (due_phases n phases ≡ phases) × (later_phases n phases ≡ [])
all_due n [] h = (refl, refl)
all_due n (phase ∷ phases) h =
    let parts = and_parts (nat_le phase n) (are_at_most n phases) h in
    let rest = all_due n phases parts.1 in
    step (nat_le phase n) parts.0 rest
  where
    step : (due : Bool) → due ≡ true → (due_phases n phases ≡ phases) × (later_phases n phases ≡ [])
        → (cond due (phase ∷ due_phases n phases) [] ≡ phase ∷ phases) × (cond due (later_phases n phases) (phase ∷ phases) ≡ [])
    step true e rest = (ap (λ due. phase ∷ due) rest.0, rest.1)
    step false e rest = absurd cc

later_at_most : (n m : ℕ) (phases : List ℕ) → are_at_most m phases ≡ true → are_at_most m (later_phases n phases) ≡ true
later_at_most n m [] h = refl
later_at_most n m (phase ∷ phases) h = step (nat_le phase n) (later_at_most n m phases (and_parts (nat_le phase m) (are_at_most m phases) h).1)
  where
    step : (due : Bool) → are_at_most m (later_phases n phases) ≡ true → are_at_most m (cond due (later_phases n phases) (phase ∷ phases)) ≡ true
    step true k = k
    step false k = h

-- one more request adds its lines, if every phase is due before it
pub item_lines-push_request : (n m : ℕ) (requests : List Request) (request : Request) (phases : List ℕ) → m ≡ n + length requests → are_at_most m phases ≡ true
    → item_lines n (requests ++ request ∷ []) phases ≡ item_lines n requests phases ++ request_lines request
item_lines-push_request n m [] request phases e h =
    let same : m ≡ n = omega (arith, e) in
    let all = all_due n phases (rw same at h) in
    ap (λ due. phase_lines due ++ request_lines request ++ phase_lines (later_phases n phases)) all.0
    ∙ ap (λ later. phase_lines phases ++ request_lines request ++ phase_lines later) all.1
    ∙ append-nil (phase_lines phases ++ request_lines request)
item_lines-push_request n m (first ∷ requests) request phases e h =
    let front = phase_lines (due_phases n phases) ++ request_lines first in
    let rest = item_lines-push_request (n + 1) m requests request (later_phases n phases) (omega (arith, e)) (later_at_most n m phases h) in
    ap (λ lines. front ++ lines) rest ∙ sym (append_assoc front (item_lines (n + 1) requests (later_phases n phases)) (request_lines request))

not_due : (n phase : ℕ) (phases : List ℕ) → n < phase → (due_phases n (phases ++ phase ∷ []) ≡ due_phases n phases) × (later_phases n (phases ++ phase ∷ []) ≡ later_phases n phases ++ phase ∷ [])
not_due n phase [] h =
    let later : nat_le phase n ≡ false = false_from_ne_true (nat_le phase n) (λ e. absurd (omega (arith, leb-true _ _ e))) in
    (ap (λ due. cond due (phase ∷ []) []) later, ap (λ due. cond due [] (phase ∷ [])) later)
not_due n phase (first ∷ phases) h = step (nat_le first n) (not_due n phase phases h)
  where
    step : (due : Bool) → (due_phases n (phases ++ phase ∷ []) ≡ due_phases n phases) × (later_phases n (phases ++ phase ∷ []) ≡ later_phases n phases ++ phase ∷ [])
        → (cond due (first ∷ due_phases n (phases ++ phase ∷ [])) [] ≡ cond due (first ∷ due_phases n phases) [])
        × (cond due (later_phases n (phases ++ phase ∷ [])) (first ∷ (phases ++ phase ∷ [])) ≡ cond due (later_phases n phases) (first ∷ phases) ++ phase ∷ [])
    step true rest = (ap (λ due. first ∷ due) rest.0, rest.1)
    step false rest = (refl, refl)

more_phases : (phases : List ℕ) (phase : ℕ) → phase_lines (phases ++ phase ∷ []) ≡ phase_lines phases ++ phase_line ∷ []
more_phases [] phase = refl
more_phases (first ∷ phases) phase = ap (λ lines. phase_line ∷ lines) (more_phases phases phase)

-- one more phase after all requests adds its line
pub item_lines-push_phase : (n : ℕ) (requests : List Request) (phases : List ℕ) (phase : ℕ) → phase ≡ n + length requests
    → item_lines n requests (phases ++ phase ∷ []) ≡ item_lines n requests phases ++ phase_line ∷ []
item_lines-push_phase n [] phases phase e = more_phases phases phase
item_lines-push_phase n (first ∷ requests) phases phase e =
    let apart = not_due n phase phases (omega (arith, e)) in
    let front = phase_lines (due_phases n phases) ++ request_lines first in
    ap (λ due. phase_lines due ++ request_lines first ++ item_lines (n + 1) requests (later_phases n (phases ++ phase ∷ []))) apart.0
    ∙ ap (λ later. front ++ item_lines (n + 1) requests later) apart.1
    ∙ ap (λ lines. front ++ lines) (item_lines-push_phase (n + 1) requests (later_phases n phases) phase (omega (arith, e)))
    ∙ sym (append_assoc front (item_lines (n + 1) requests (later_phases n phases)) (phase_line ∷ []))
