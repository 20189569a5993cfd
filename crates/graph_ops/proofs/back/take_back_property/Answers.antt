use Rattle.std.proofs.Common.{Some, sym, ap, ◌∙◌}
use Rattle.graph_ops.specs.TakingBack.{taken_back}
use Rattle.graph_ops.specs.declared.back.Back.TheVariants.{Props}
use Rattle.graph_ops.proofs.back.take_back_property.Goals as goal

pub returns : goal.returns
returns c = ap (λ held. Some held) c.take_back_property_of.ensures ∙ sym (ap (taken_back (Props c.args.undo)) c.in-Some.is)
