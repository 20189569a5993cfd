use Rattle.std.proofs.Common.{sym, ap, ◌∙◌, None}
use Rattle.std.specs.Option.{option_copied}
use Rattle.graph_ops.proofs.States.{found}
use Rattle.graph_ops.proofs.graph.Graph.find.Goals as goal

pub returns : goal.returns
returns c = c.as_ref.ensures.value ∙ found c.args.v _ _ _ c.self.view_is (sym c.get.ensures.value ∙ ap option_copied c.in-Some.is)

pub returns-in_default : goal.returns-in_default
returns-in_default c = found c.args.v _ _ None c.self.view_is (sym c.get.ensures.value ∙ ap option_copied c.in_default.is)
