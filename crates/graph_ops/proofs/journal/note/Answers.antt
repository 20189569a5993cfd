use Rattle.std.proofs.Common.{◌++◌, [], ◌∷◌, sym, ap, ◌∙◌, subst}
use Rattle.graph_ops.specs.Slots.{states_of}
use Rattle.graph_ops.specs.Journals.{CanRewindIn, Keeps}
use Rattle.graph_ops.specs.TakingBack.{graph_rewound}
use Rattle.graph_ops.proofs.Rewinding.{still_can, noted_can, noted_same}
use Rattle.graph_ops.proofs.journal.note.Goals as goal

pub returns-in_err-make_place-clause-kept : goal.returns-in_err-make_place-clause-kept
returns-in_err-make_place-clause-kept c = still_can c.args.journal.now.items _ _ c.requires c.make_place.ensures.others c.make_place.ensures.same

pub returns-in_err-reserve-clause-kept : goal.returns-in_err-reserve-clause-kept
returns-in_err-reserve-clause-kept c = subst (λ steps. CanRewindIn steps c.make_place.new.slots.entries) (sym c.reserve.ensures.items) (still_can c.args.journal.now.items _ _ c.requires c.make_place.ensures.others c.make_place.ensures.same)

pub returns-in-Ok-clause-kept : goal.returns-in-Ok-clause-kept
returns-in-Ok-clause-kept c =
    let can = still_can c.args.journal.now.items _ _ c.requires c.make_place.ensures.others c.make_place.ensures.same in
    let keeps = subst (λ v. Keeps (record { v = v; back = c.in-Ok.field-0.back }) c.perform.new.slots.entries c.make_place.new.slots.entries) (sym c.vertex-v.ensures) c.in-Ok.ensures.back in
    subst (λ steps. CanRewindIn steps c.perform.new.slots.entries) (sym (c.push_reserved.ensures.items ∙ ap (λ steps. steps ++ record { v = c.vertex-v.result; back = c.in-Ok.field-0.back } ∷ []) c.reserve.ensures.items))
    (noted_can c.args.journal.now.items _ _ _ can c.perform.ensures.others c.in_ok-make_place.ensures.there keeps)

pub returns-in-Ok-clause-same : goal.returns-in-Ok-clause-same
returns-in-Ok-clause-same c =
    let keeps = subst (λ v. Keeps (record { v = v; back = c.in-Ok.field-0.back }) c.perform.new.slots.entries c.make_place.new.slots.entries) (sym c.vertex-v.ensures) c.in-Ok.ensures.back in
    ap (λ steps. graph_rewound steps (states_of c.perform.new.slots.entries)) (c.push_reserved.ensures.items ∙ ap (λ steps. steps ++ record { v = c.vertex-v.result; back = c.in-Ok.field-0.back } ∷ []) c.reserve.ensures.items)
    ∙ noted_same c.args.journal.now.items _ _ _ keeps ∙ ap (graph_rewound c.args.journal.now.items) c.make_place.ensures.same

pub returns-in-Err-clause-kept : goal.returns-in-Err-clause-kept
returns-in-Err-clause-kept c =
    let can = still_can c.args.journal.now.items _ _ c.requires c.make_place.ensures.others c.make_place.ensures.same in
    subst (λ steps. CanRewindIn steps c.perform.new.slots.entries) (sym c.reserve.ensures.items) (still_can c.args.journal.now.items _ _ can c.perform.ensures.others c.in-Err.ensures.unchanged)
