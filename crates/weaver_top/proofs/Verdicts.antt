-- The line that `check` has to write for a right report, and for one that breaks a clause; and operations can be
-- numbered if each transaction of a script has at most 64.
-- Used by `judged_summary` and `verdict_for`.
use Rattle.std.proofs.Common.{◌≡◌, ℕ, ◌≤◌, ◌^◌, true, List, [], ◌∷◌, length, IsTrue, refl, arith}
use Rattle.std.specs.List.{AllByRecursion, list_all}
use Rattle.std.proofs.lemmas.Bool.{and_from, lt-ltb}
use Rattle.program_defs.specs.declared.script.Request.{Request}
use Rattle.program_defs.specs.declared.script.Script.{Script}
use Rattle.program_defs.specs.declared.script.Work.{Work}
use Rattle.program_defs.specs.declared.script.Work.TheVariants.{Change, Look}
use Rattle.program_defs.specs.Works.{ops_of}
use Rattle.report_rules.specs.declared.report.Clause.{Clause}
use Rattle.report_rules.specs.declared.report.Report.{Report}
use Rattle.report_rules.specs.RightReport.{BreaksFirst, IsRightReport}
use Rattle.weave_script.specs.CheckText.{IsCheckTextOf}
use Rattle.order_witness.specs.Judgement as judgement
use Rattle.weaver_top.specs.Headlines.{TellsYes}
use Rattle.weaver_top.specs.VerdictLines.{TellsNo, no_line, yes_line}

-- if a report is right, the line of a right report is what `check` has to write
pub right : (input text : List ℕ) (script : Script) (report : Report) → length input ≤ 4194304 → IsCheckTextOf input script report → IsRightReport script report → text ≡ yes_line → TellsYes input text
right input text script report short is_text is_right is =
    record { input_is_short = short; script = script; report = report; input_is_their_text = is_text; report_is_right = is_right; line = is }

-- if a report breaks a clause first at a place, the line of this clause and place is what `check` has to write
pub wrong : (input text : List ℕ) (script : Script) (report : Report) (clause : Clause) (place : ℕ) → length input ≤ 4194304 → IsCheckTextOf input script report → BreaksFirst script report clause place → text ≡ no_line clause place → TellsNo input text
wrong input text script report clause place short is_text breaks is =
    record { input_is_short = short; script = script; report = report; input_is_their_text = is_text; clause = clause; place = place; breaks = breaks; line = is }

-- if each transaction has at most 64 operations, they are few enough to be numbered
numbered_work : (work : Work) → length (ops_of work) ≤ 64 → judgement.is_numbered_work work ≡ true
numbered_work (Change ops) few = lt-ltb (length ops) (2 ^ 32) (omega (arith, few))
numbered_work (Look program) few = refl

all_numbered : (requests : List Request) → AllByRecursion (λ (request : Request). length (ops_of request.work) ≤ 64) requests → list_all (λ (request : Request). judgement.is_numbered_work request.work) requests ≡ true
all_numbered [] few = refl
all_numbered (request ∷ requests) few = and_from (judgement.is_numbered_work request.work) _ (numbered_work request.work few.0) (all_numbered requests few.1)

-- if each transaction of a script has at most 64 operations, its operations can be numbered
pub numbered : (script : Script) → AllByRecursion (λ (request : Request). length (ops_of request.work) ≤ 64) script.requests → IsTrue (judgement.has_numbered_operations script)
numbered script few = all_numbered script.requests few
