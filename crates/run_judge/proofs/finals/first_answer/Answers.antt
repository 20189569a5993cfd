use Rattle.std.proofs.Common.{List, length, sym, ap, ◌∙◌}
use Rattle.report_rules.specs.declared.report.StepAnswer.{StepAnswer}
use Rattle.run_judge.proofs.StepLaws.{first_breaks, none_breaks}
use Rattle.run_judge.proofs.finals.first_answer.Goals as goal

pub returns-then-answers-eq0 : goal.returns-then-answers-eq0
returns-then-answers-eq0 c = none_breaks c.args.report.now.answers (sym (ap (λ (answers : List StepAnswer). length answers) c.as_slice-answers.ensures) ∙ c.if-answers-eq0.true)

pub returns : goal.returns
returns c = first_breaks c.args.report.now.answers (λ none. c.if-answers-eq0.false (ap (λ (answers : List StepAnswer). length answers) c.as_slice-answers.ensures ∙ none))
