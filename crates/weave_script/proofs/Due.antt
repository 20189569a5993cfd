-- Where the phases that are due end.
-- Used by `print_phases` and `split_due`.
use Rattle.std.proofs.Common.{◌≡◌, ℕ, suc, ◌+◌, ◌<◌, Bool, true, false, cond, List, [], ◌∷◌, length, take, drop, add-one, drop-cons, refl, ap, ◌∙◌, arith}
use Rattle.std.specs.Prelude.{nat_le}
use Rattle.std.specs.List.{prefix_len}
use Rattle.weave_script.specs.ScriptLines.{phase_line, phase_lines, due_phases, later_phases}

abbrev pub count_due : ℕ → List ℕ → ℕ
count_due n phases = prefix_len (λ phase. nat_le phase n) phases

pub record AreParts (n : ℕ) (phases : List ℕ) (count : ℕ) : Type 0 where
  pub due : take count phases ≡ due_phases n phases
  pub later : drop count phases ≡ later_phases n phases

more : (due : Bool) (n phase : ℕ) (phases : List ℕ) → AreParts n phases (count_due n phases) → (count : ℕ) → count ≡ cond due (suc (count_due n phases)) 0
    → (take count (phase ∷ phases) ≡ cond due (phase ∷ due_phases n phases) []) × (drop count (phase ∷ phases) ≡ cond due (later_phases n phases) (phase ∷ phases))
more true n phase phases h count e = (ap (λ count. take count (phase ∷ phases)) e ∙ ap (λ due. phase ∷ due) h.due, ap (λ count. drop count (phase ∷ phases)) e ∙ h.later)
more false n phase phases h count e = (ap (λ count. take count (phase ∷ phases)) e, ap (λ count. drop count (phase ∷ phases)) e)

-- the counted phases at the front are those that are due, and the rest are the later ones
pub parts : (n : ℕ) (phases : List ℕ) → AreParts n phases (count_due n phases)
parts n [] = record { due = refl; later = refl }
parts n (phase ∷ phases) =
    let one : 1 + count_due n phases ≡ suc (count_due n phases) = omega arith in
    let both = more (nat_le phase n) n phase phases (parts n phases) (count_due n (phase ∷ phases)) (ap (λ count. cond (nat_le phase n) count 0) one) in
    record { due = both.0; later = both.1 }

-- the first of the phases that are left has a line
pub next_phase : (phases : List ℕ) (i : ℕ) → i < length phases → phase_lines (drop i phases) ≡ phase_line ∷ phase_lines (drop (i + 1) phases)
next_phase phases i h = rw (add-one, drop-cons phases i 0)
