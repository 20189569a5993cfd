-- What is said of the judge's answer. Used by `judged`.
use Rattle.std.proofs.Common.{◌≡◌, ◌↔◌, ℕ, Result, Ok, Err, IfOk, OnOk}
use Rattle.order_witness.specs.declared.judge.Judged.{Judged}
use Rattle.order_witness.specs.declared.judge.Judged.TheVariants.{No}
use Rattle.program_defs.specs.declared.script.Script.{Script}
use Rattle.report_rules.specs.declared.report.Clause.{Clause}
use Rattle.report_rules.specs.declared.report.Report.{Report}
use Rattle.report_rules.specs.RightReport.{BreaksFirst}

-- the clause and the place that it names are the first that break
pub breaks : {E : Type 0} (script : Script) (report : Report) (result : Result Judged E) → IfOk result (λ judged. (clause : Clause) (place : ℕ) → (judged ≡ No clause place) ↔ BreaksFirst script report clause place) → IfOk result (λ judged. (clause : Clause) (place : ℕ) → judged ≡ No clause place → BreaksFirst script report clause place)
breaks script report (Ok judged) both = λ clause place. (both clause place).0
breaks script report (Err error) both = tt

-- what holds anyway holds after an answer too
pub anyway : {A E : Type 0} {P : Type 0} (result : Result A E) → P → OnOk result P
anyway (Ok value) holds = holds
anyway (Err error) holds = tt
