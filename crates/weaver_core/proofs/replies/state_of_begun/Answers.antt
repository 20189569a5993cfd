use Rattle.std.proofs.Common.{sym, ap, ◌∙◌}
use Rattle.std.specs.Prelude.{option_copied}
use Rattle.report_rules.specs.declared.report.ReplyState.{ReplyState}
use Rattle.weave_account.specs.Report.{state_by_verdict, state_of_tx}
use Rattle.weaver_core.proofs.Results.{if_ok_map}
use Rattle.weaver_core.proofs.Settled.{as-judged}
use Rattle.weaver_core.proofs.replies.state_of_begun.Goals as goal

pub returns-in-None : goal.returns-in-None
returns-in-None c = ap state_of_tx (sym (ap (λ o. as-judged (option_copied o)) c.in-None.is) ∙ c.judged.ensures)

pub returns-in-Some : goal.returns-in-Some
returns-in-Some c =
    if_ok_map c.state_by_verdict.result _ _
    (λ (state : ReplyState) is. is ∙ ap state_by_verdict c.verdict_in.ensures ∙ ap state_of_tx (sym (ap (λ o. as-judged (option_copied o)) c.in-Some.is) ∙ c.judged.ensures))
    c.state_by_verdict.ensures
