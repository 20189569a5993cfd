use Rattle.std.proofs.Common.{Some, sym, ap, ◌∙◌}
use Rattle.graph_ops.specs.TakingBack.{taken_back}
use Rattle.graph_ops.specs.declared.back.Back.TheVariants.{Tags}
use Rattle.graph_ops.proofs.back.take_back_tag.Goals as goal

pub returns : goal.returns
returns c = ap (λ held. Some held) c.take_back_tag_in.ensures ∙ sym (ap (taken_back (Tags c.args.edge c.args.undo)) c.in-Some.is)
