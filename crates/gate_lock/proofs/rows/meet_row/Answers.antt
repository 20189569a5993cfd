use Rattle.std.proofs.Common.{◌≡◌, List, length, map, sym, ap, ◌∙◌, subst}
use Rattle.chronicle.specs.declared.note.Note.{Note}
use Rattle.chronicle.specs.Passes.{lock_noted}
use Rattle.lock_row.specs.Meetings.{AllMet, CanMeet}
use Rattle.lock_row.proofs.Lists.{written}
use Rattle.gate_lock.proofs.rows.meet_row.Goals as goal

pub meet_others-requires-clause-can : goal.meet_others-requires-clause-can
meet_others-requires-clause-can g c =
    let E = g.row.M-Entry.Denot in
    subst (λ (ns : List (Note E)). CanMeet c.args.locks.now c.args.passes.now ns c.args.except) (sym c.as_mut_slice.ensures.value) c.requires.can

pub returns-clause-names : goal.returns-clause-names
returns-clause-names g c =
    let E = g.row.M-Entry.Denot in
    let notes = c.args.notes.now in
    let value = c.as_mut_slice.ensures.value in
    let long : length c.meet_others.new.notes ≡ notes.len = (c.meet_others.ensures.notes ∙ ap (λ (l : List (Note E)). length l) value) ∙ sym notes.ok.0 in
    ap (λ (l : List (Note E)). map lock_noted l) (written notes.len c.meet_others.new.notes notes.items long)
    ∙ (c.meet_others.ensures.names ∙ ap (λ (l : List (Note E)). map lock_noted l) value)

pub returns-clause-met : goal.returns-clause-met
returns-clause-met g c =
    let E = g.row.M-Entry.Denot in
    let notes = c.args.notes.now in
    let value = c.as_mut_slice.ensures.value in
    let later = c.meet_others.new.notes in
    let long : length later ≡ notes.len = (c.meet_others.ensures.notes ∙ ap (λ (l : List (Note E)). length l) value) ∙ sym notes.ok.0 in
    subst (λ (ns : List (Note E)). AllMet c.args.locks.now c.args.passes.now c.meet_others.new.passes notes.items ns c.args.except)
    (sym (written notes.len later notes.items long))
    (subst (λ (ns : List (Note E)). AllMet c.args.locks.now c.args.passes.now c.meet_others.new.passes ns later c.args.except) value
    c.meet_others.ensures.met)
