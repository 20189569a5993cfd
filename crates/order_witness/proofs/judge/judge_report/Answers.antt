use Rattle.std.proofs.Common.{◌≡◌, ℕ, Result, Ok, Err, refl, ap, ◌∙◌, subst}
use Rattle.std.specs.Prelude.{◌↔◌, IfOk}
use Rattle.std.specs.declared.alloc.AllocError.{AllocError}
use Rattle.program_defs.specs.declared.script.Script.{Script}
use Rattle.report_rules.specs.declared.report.Report.{Report}
use Rattle.report_rules.specs.declared.report.Clause.{Clause}
use Rattle.weave_data.specs.Facts.{BreaksFirstAt}
use Rattle.report_rules.specs.RightReport.{facts_of, IsRightReport, BreaksFirst}
use Rattle.order_witness.specs.declared.judge.Judged.{Judged}
use Rattle.order_witness.specs.declared.judge.Judged.TheVariants.{Yes, No}
use Rattle.order_witness.specs.Judgement.{IsJudgement}
use Rattle.order_witness.proofs.judge.judge_report.Goals as goal

module _ (script : Script) (report : Report) where
  yes_exactly : ((clause : Clause) (place : ℕ) → IsRightReport script report → ¬ BreaksFirstAt (facts_of script report clause) place) → (judged : Judged) → IsJudgement script report judged → (judged ≡ Yes) ↔ IsRightReport script report
  yes_exactly nowhere Yes h = (λ e. h, λ right. refl)
  yes_exactly nowhere (No clause place) h = (λ e. cc, λ right. absurd (nowhere clause place right h.1))

  no_exactly : ((clause : Clause) (place : ℕ) → IsRightReport script report → ¬ BreaksFirstAt (facts_of script report clause) place)
      → ((a b : Clause) (m n : ℕ) → BreaksFirst script report a m → BreaksFirst script report b n → (a ≡ b) × (m ≡ n))
      → (judged : Judged) → IsJudgement script report judged → (clause : Clause) (place : ℕ) → (judged ≡ No clause place) ↔ BreaksFirst script report clause place
  no_exactly nowhere once Yes h clause place = (λ e. cc, λ breaks. absurd (nowhere clause place h breaks.1))
  no_exactly nowhere once (No first at) h clause place =
      (λ e. same_judgement first clause at place e h, λ breaks. let one = once first clause at place h breaks in ap (λ c. No c at) one.0 ∙ ap (No clause) one.1)
    where
      same_judgement : (a b : Clause) (m n : ℕ) → No a m ≡ No b n → BreaksFirst script report a m → BreaksFirst script report b n
      same_judgement a b m n e h =
          let clauses : a ≡ b = cc in
          let places : m ≡ n = cc in
          subst (λ c. BreaksFirst script report c n) clauses (subst (BreaksFirst script report a) places h)

if_ok : (P Q : Judged → Type 0) → ((judged : Judged) → P judged → Q judged) → (r : Result Judged AllocError) → IfOk r P → IfOk r Q
if_ok P Q f (Ok judged) h = f judged h
if_ok P Q f (Err e) h = tt

pub returns-clause-yes : goal.returns-clause-yes
returns-clause-yes c =
    if_ok (IsJudgement c.args.script.now c.args.report.now) (λ judged. (judged ≡ Yes) ↔ IsRightReport c.args.script.now c.args.report.now)
    (yes_exactly c.args.script.now c.args.report.now (λ clause place right. c.right_report_breaks_nowhere.ensures c.args.script.now c.args.report.now right clause place)) c.first_clause.result c.first_clause.ensures

pub returns-clause-no : goal.returns-clause-no
returns-clause-no c =
    if_ok (IsJudgement c.args.script.now c.args.report.now) (λ judged. (clause : Clause) (place : ℕ) → (judged ≡ No clause place) ↔ BreaksFirst c.args.script.now c.args.report.now clause place)
    (no_exactly c.args.script.now c.args.report.now (λ clause place right. c.right_report_breaks_nowhere.ensures c.args.script.now c.args.report.now right clause place)
    (λ a b m n. c.wrong_report_breaks_first_once.ensures c.args.script.now c.args.report.now a b m n)) c.first_clause.result c.first_clause.ensures
