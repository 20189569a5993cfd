use Rattle.std.proofs.Common.{sym, ap, ◌∙◌, subst}
use Rattle.graph_ops.specs.Slots.{states_of}
use Rattle.graph_ops.specs.TakingBack.{graph_rewound, CanRewind}
use Rattle.graph_ops.specs.Journals.{CanRewindIn}
use Rattle.graph_ops.proofs.Rewinding.{rewound_last, last_can, others_can, places_stay, other_places}
use Rattle.graph_ops.proofs.journal.rewind.Goals as goal

pub undo_step-requires-clause-fits : goal.undo_step-requires-clause-fits
undo_step-requires-clause-fits c =
    last_can c.pop.new.self.items c.in-Some.step _ (subst (λ steps. CanRewind steps (states_of c.loop-step.slots.entries)) c.in-Some.ensures.items c.loop-step.invariant.can.0)

pub loop-step-preserved : goal.loop-step-preserved
loop-step-preserved c =
    let steps = c.pop.new.self.items in
    let before = c.loop-step.slots.entries in
    let can = subst (λ all. CanRewindIn all before) c.in-Some.ensures.items c.loop-step.invariant.can in
    record {
      can = (
        subst (CanRewind steps) (sym c.undo_step.ensures.after) (others_can steps c.in-Some.step (states_of before) can.0),
        places_stay steps _ _ c.undo_step.ensures.others (other_places steps c.in-Some.step before can.1),
      );
      back = ap (graph_rewound steps) c.undo_step.ensures.after ∙ sym (rewound_last steps c.in-Some.step (states_of before)) ∙ ap (λ all. graph_rewound all (states_of before)) (sym c.in-Some.ensures.items) ∙ c.loop-step.invariant.back;
    }
