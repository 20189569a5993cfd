-- Answers of steps break their clause at the first place, if there is one.
-- Used by `first_answer`.
use Rattle.std.proofs.Common.{◌≡◌, List, [], ◌∷◌, length, arith, refl}
use Rattle.report_rules.specs.declared.report.StepAnswer.{StepAnswer}
use Rattle.weave_data.specs.Facts.{AllHold, BreaksFirstAt, facts_of_each}

-- the first answer breaks the clause
pub first_breaks : (answers : List StepAnswer) → ¬ (length answers ≡ 0) → BreaksFirstAt (facts_of_each (λ (answer : StepAnswer). ⊥) answers) 1
first_breaks [] some = some refl
first_breaks (answer ∷ answers) some = λ none. none

-- without answers it holds
pub none_breaks : (answers : List StepAnswer) → length answers ≡ 0 → AllHold (facts_of_each (λ (answer : StepAnswer). ⊥) answers)
none_breaks [] none = tt
none_breaks (answer ∷ answers) none = absurd (omega (arith, none))
