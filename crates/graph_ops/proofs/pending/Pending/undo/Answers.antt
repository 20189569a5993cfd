use Rattle.std.proofs.Common.{sym, ap, ◌∙◌}
use Rattle.graph_ops.specs.PlainGraph.{PlainGraph}
use Rattle.graph_ops.specs.Pendings.{BothVertices}
use Rattle.graph_ops.proofs.States.{get_held}
use Rattle.graph_ops.proofs.Rewinding.{rewound_is}
use Rattle.graph_ops.proofs.pending.Pending.undo.Goals as goal

pub returns : goal.returns
returns c = sym (rewound_is _ _ _ (λ q. get_held c.rewind.new.slots.entries q ∙ ap (λ (graph : PlainGraph). graph q) c.rewind.ensures)) ∙ ap (λ (both : BothVertices). both.before) c.self.view_is
