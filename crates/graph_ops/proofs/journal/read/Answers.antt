use Rattle.std.proofs.Common.{sym, ap, subst, ◌≡◌, ◌∙◌, None, IfOk}
use Rattle.std.specs.Option.{option_copied}
use Rattle.graph_ops.specs.Operations.{State}
use Rattle.graph_ops.proofs.States.{state_there}
use Rattle.graph_ops.proofs.journal.read.Goals as goal

pub returns-in_default : goal.returns-in_default
returns-in_default c = state_there c.args.v _ None (sym c.get.ensures.value ∙ ap option_copied c.in_default.is)

pub returns : goal.returns
returns c = subst (λ (s : State). IfOk c.copy.result (λ state. state ≡ s)) (state_there c.args.v _ _ (sym c.get.ensures.value ∙ ap option_copied c.in-Some.is)) c.copy.ensures
