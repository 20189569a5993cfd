use Rattle.std.proofs.Common.{map, ap, ◌∙◌}
use Rattle.chronicle.specs.Locks.{lock_of}
use Rattle.chronicle.specs.Passes.{lock_noted}
use Rattle.lock_row.proofs.Meetings.{can_meet}
use Rattle.lock_tests.proofs.row_tests.add_at.Goals as goal

pub meet-requires-clause-can : goal.meet-requires-clause-can
meet-requires-clause-can g c =
    let locks = c.args.locks.now in
    let k = c.args.place in
    let here = ap (λ x. (lock_of x).frame) c.index-locks-place.is ∙ c.requires.frames k c.index-locks-place.result c.requires.place in
    let named = ap (λ m. map lock_noted m.notes.items) c.state-state.ensures.value ∙ (c.enter-held.ensures.frame ∙ here) in
    can_meet locks c.state-state.result.now.notes.items c.args.hand.now k c.enter-held.new.pass named c.requires.ready
