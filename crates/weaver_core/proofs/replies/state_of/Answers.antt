use Rattle.std.proofs.Common.{sym, ap, ◌∙◌}
use Rattle.report_rules.specs.declared.report.ReplyState.{ReplyState}
use Rattle.weaver_core.specs.Reporting.{state_stamped}
use Rattle.weaver_core.proofs.Results.{if_ok_map}
use Rattle.weaver_core.proofs.replies.state_of.Goals as goal

pub returns-in-None : goal.returns-in-None
returns-in-None c = ap (state_stamped c.args.store.now c.args.request) (sym c.in-None.is)

pub returns-in-Some : goal.returns-in-Some
returns-in-Some c = if_ok_map c.state_of_begun.result _ _ (λ (state : ReplyState) is. is ∙ ap (state_stamped c.args.store.now c.args.request) (sym c.in-Some.is)) c.state_of_begun.ensures
