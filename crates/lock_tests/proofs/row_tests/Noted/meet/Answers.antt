use Rattle.std.proofs.Common.{arith, ◌≡◌, ℕ, List, length, map, sym, ap, ◌∙◌, subst}
use Rattle.chronicle.specs.declared.note.Note.{Note}
use Rattle.chronicle.specs.Passes.{lock_noted}
use Rattle.lock_row.specs.Meetings.{CanMeet}
use Rattle.lock_row.proofs.Lists.{one_of, written}
use Rattle.lock_tests.proofs.row_tests.Noted.meet.Goals as goal

pub meet_others-requires-clause-can : goal.meet_others-requires-clause-can
meet_others-requires-clause-can c = subst (λ (ns : List (Note ℕ)). CanMeet c.args.locks.now c.args.passes.now ns c.args.place)
    (sym c.as_mut_slice.ensures.value) c.requires.can

pub returns-clause-names : goal.returns-clause-names
returns-clause-names c =
    let notes = c.args.self.now.notes in
    let value = c.as_mut_slice.ensures.value in
    let long : length c.meet_others.new.notes ≡ notes.len = (c.meet_others.ensures.notes ∙ ap (λ (l : List (Note ℕ)). length l) value) ∙ sym notes.ok.0 in
    ap (λ (l : List (Note ℕ)). map lock_noted l) (written notes.len c.meet_others.new.notes notes.items long)
    ∙ (c.meet_others.ensures.names ∙ ap (λ (l : List (Note ℕ)). map lock_noted l) value)

pub returns-clause-ready : goal.returns-clause-ready
returns-clause-ready c k l p low other =
    (c.meet_others.ensures.met k l p (one_of c.args.self.now.notes.items k (omega (arith, low, c.requires.notes))) low other).ready
