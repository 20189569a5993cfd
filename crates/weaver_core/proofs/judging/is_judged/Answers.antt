use Rattle.std.proofs.Common.{is_some, sym, ap, ◌∙◌}
use Rattle.std.specs.Prelude.{option_copied}
use Rattle.weaver_core.proofs.Settled.{as-judged}
use Rattle.weaver_core.proofs.judging.is_judged.Goals as goal

pub returns-in-Some : goal.returns-in-Some
returns-in-Some c = ap is_some (sym (ap (λ o. as-judged (option_copied o)) c.in-Some.is) ∙ c.judged.ensures)

pub returns-in-None : goal.returns-in-None
returns-in-None c = ap is_some (sym (ap (λ o. as-judged (option_copied o)) c.in-None.is) ∙ c.judged.ensures)
