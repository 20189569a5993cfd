-- What equations of constructors say, each proved with nothing else in scope: `cc` and `omega` read all that is in
-- scope, and beside the laws of the crates below one call of `cc` takes seconds.
-- Used by BeginStep, GateSteps, JudgeStep, NopStep, QuietGateEntry, QuietSteps, Replying, SendStep, Verdicts,
-- VisitStep and Visiting.
use Rattle.std.proofs.Common.{◌≡◌, false, List, [], ◌∷◌, Option, None, Some, refl, ap}
use Rattle.std.specs.Prelude.{is_some}
use Rattle.std.proofs.lemmas.Bool.{both_ways}
use Rattle.graph_ops.specs.declared.op.Op.{Op}
use Rattle.program_defs.specs.declared.program.Program.{Program}
use Rattle.program_defs.specs.declared.script.Work.TheVariants.{Change, Look}
use Rattle.report_rules.specs.declared.report.StepAnswer.{StepAnswer}
use Rattle.report_rules.specs.declared.report.StepAnswer.TheVariants.{Ok}
use Rattle.step_rules.specs.Trace.{is_ok}

-- an answer other than `Ok` is not `Ok`
pub not-ok : {A : Type 0} (answer : StepAnswer) → is_ok answer ≡ false → answer ≡ Ok → A
not-ok answer other ok = absurd (both_ways (is_ok answer) other (ap is_ok ok))

-- an option that has no value is `None`
pub is-none : {A : Type 0} (o : Option A) → is_some o ≡ false → o ≡ None
is-none None e = refl
is-none (Some x) e = cc

-- a list with an element is not empty
pub not-empty : {A : Type 0} (x : A) (xs : List A) → x ∷ xs ≡ [] → ⊥
not-empty x xs e = cc

-- no work is a transaction and a program
pub change-no-look : (ops : List Op) (program : Program) → Change ops ≡ Look program → ⊥
change-no-look ops program e = cc

-- equal works have the same program
pub same-program : (one other : Program) → Look one ≡ Look other → one ≡ other
same-program one other e = cc
