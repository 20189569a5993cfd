use Rattle.chronicle_keeper.proofs.Added.{three_and_more, added_still}
use Rattle.chronicle_keeper.proofs.noted.five_noted.Goals as goal

pub returns-in_err-add_range-2-clause-added : goal.returns-in_err-add_range-2-clause-added
returns-in_err-add_range-2-clause-added g c = three_and_more _ _ _ _ c.add_range.ensures.added c.in_ok-add_range.ensures.own c.note-note.ensures.number c.note-note.ensures.seen c.add_range-2.ensures.added

pub returns-clause-added : goal.returns-clause-added
returns-clause-added g c = added_still _ _ _ _ _ (three_and_more _ _ _ _ c.add_range.ensures.added c.in_ok-add_range.ensures.own c.note-note.ensures.number c.note-note.ensures.seen c.add_range-2.ensures.added) c.meet.ensures.number c.meet.ensures.own
