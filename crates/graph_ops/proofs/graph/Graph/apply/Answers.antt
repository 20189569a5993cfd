use Rattle.std.proofs.Common.{sym, ap, ◌∙◌}
use Rattle.graph_ops.specs.PlainGraph.{PlainGraph}
use Rattle.graph_ops.specs.Pendings.{rewound_map}
use Rattle.graph_ops.specs.Slots.{vertices_held}
use Rattle.graph_ops.proofs.States.{seen, seen_empty, unchanged}
use Rattle.graph_ops.proofs.Rewinding.{rewound_is}
use Rattle.graph_ops.proofs.graph.Graph.apply.Goals as goal

pub returns-in-Ok-clause-done : goal.returns-in-Ok-clause-done
returns-in-Ok-clause-done c =
    rw (seen _ _ c.self.view_is, seen c.run_or_rewind.new.slots.entries c.new-in-Ok.result.after (sym (c.new-in-Ok.ensures.after ∙ ap (λ slots. vertices_held slots.entries) c.replace-slots.ensures.value))) c.in-Ok.ensures.done

pub returns-in-Ok-clause-before : goal.returns-in-Ok-clause-before
returns-in-Ok-clause-before c =
    c.new-in-Ok.ensures.before ∙ ap (λ slots. rewound_map c.in-Ok.journal.items (vertices_held slots.entries)) c.replace-slots.ensures.value
    ∙ rewound_is c.in-Ok.journal.items c.run_or_rewind.new.slots.entries c.args.self.now (λ q. ap (λ (graph : PlainGraph). graph q) (seen _ _ c.self.view_is ∙ sym c.in-Ok.ensures.back))

pub returns-in-Ok-clause-left : goal.returns-in-Ok-clause-left
returns-in-Ok-clause-left c = seen_empty _ (ap (λ slots. slots.entries) c.replace-slots.ensures.after ∙ c.new.ensures.empty)

pub returns-in-Err-clause-refused : goal.returns-in-Err-clause-refused
returns-in-Err-clause-refused c = rw (seen _ _ c.self.view_is) c.in-Err.ensures.refused

pub returns-in-Err-clause-unchanged : goal.returns-in-Err-clause-unchanged
returns-in-Err-clause-unchanged c = unchanged _ _ _ c.self.view_is c.in-Err.ensures.unchanged
