use Rattle.std.proofs.Common.{ap, ◌∙◌}
use Rattle.weaver_top.specs.Refusals.{refusal_line}
use Rattle.weaver_top.proofs.RefusalAnswers.{of_the_answer}
use Rattle.weaver_top.proofs.Refusals.{too_long}
use Rattle.weaver_top.proofs.answer.too_long.Goals as goal

pub returns-clause-answer : goal.returns-clause-answer
returns-clause-answer c = of_the_answer _ _ _ c.refusal.ensures.status c.refusal.ensures.text (λ answer status text. too_long answer status (text ∙ ap (refusal_line 0) c.text.ensures))
