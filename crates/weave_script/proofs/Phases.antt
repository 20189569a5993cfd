-- Phases that rise still rise with one more at the end, and so do those that are due and the later ones.
-- Used by Reached and ReadAgain.
use Rattle.std.proofs.Common.{◌≡◌, ℕ, ◌+◌, ◌≤◌, Bool, true, false, cond, List, [], ◌∷◌, ◌++◌, refl, ap, arith}
use Rattle.std.specs.Prelude.{nat_le}
use Rattle.std.proofs.lemmas.Bool.{and_from, le-leb, leb-true, leb-false}
use Rattle.weave_script.specs.ScriptLines.{due_phases, later_phases}
use Rattle.weave_script.specs.Scripts.{RiseTo}
use Rattle.weave_script.proofs.Items.{are_at_most}

-- phases that rise up to an end rise up to each higher one
pub rise_further : (low high more : ℕ) (phases : List ℕ) → high ≤ more → RiseTo low high phases → RiseTo low more phases
rise_further low high more [] above h = tt
rise_further low high more (phase ∷ phases) above h = (h.0, omega (arith, h.1), rise_further phase high more phases above h.2)

-- phases that rise up to an end still do with one more phase at this end
pub rise-push : (low high : ℕ) (phases : List ℕ) → low ≤ high → RiseTo low high phases → RiseTo low high (phases ++ high ∷ [])
rise-push low high [] some h = (some, omega arith, tt)
rise-push low high (phase ∷ phases) some h = (h.0, h.1, rise-push phase high phases h.1 h.2)

-- each is at most the end
pub rising-at_most : (low high : ℕ) (phases : List ℕ) → RiseTo low high phases → are_at_most high phases ≡ true
rising-at_most low high [] h = refl
rising-at_most low high (phase ∷ phases) h = and_from (nat_le phase high) (are_at_most high phases) (le-leb phase high h.1) (rising-at_most phase high phases h.2)

-- ---- phases that are due

chosen : (b : Bool) {A : Type 0} (x y : A) (P : A → Type 0) → (b ≡ true → P x) → (b ≡ false → P y) → P (cond b x y)
chosen true x y P first second = first refl
chosen false x y P first second = second refl

-- of rising phases, those with at most n requests before them rise up to n
pub due_rise : (low n high : ℕ) (phases : List ℕ) → RiseTo low high phases → RiseTo low n (due_phases n phases)
due_rise low n high [] h = tt
due_rise low n high (phase ∷ phases) h =
    chosen (nat_le phase n) (phase ∷ due_phases n phases) [] (RiseTo low n) (λ due. (h.0, leb-true phase n due, due_rise phase n high phases h.2)) (λ later. tt)

-- and the later ones rise from one past n to the old end
pub later_rise : (low n high : ℕ) (phases : List ℕ) → RiseTo low high phases → RiseTo (n + 1) high (later_phases n phases)
later_rise low n high [] h = tt
later_rise low n high (phase ∷ phases) h =
    chosen (nat_le phase n) (later_phases n phases) (phase ∷ phases) (RiseTo (n + 1) high) (λ due. later_rise phase n high phases h.2) (λ later. (omega (arith, leb-false phase n later), h.1, h.2))

-- the phases that are due and then the later ones are all of them
pub due_and_later : (n : ℕ) (phases : List ℕ) → due_phases n phases ++ later_phases n phases ≡ phases
due_and_later n [] = refl
due_and_later n (phase ∷ phases) = go (nat_le phase n) (due_and_later n phases)
  where
    go : (b : Bool) → due_phases n phases ++ later_phases n phases ≡ phases → cond b (phase ∷ due_phases n phases) [] ++ cond b (later_phases n phases) (phase ∷ phases) ≡ phase ∷ phases
    go true rest = ap (λ more. phase ∷ more) rest
    go false rest = refl
