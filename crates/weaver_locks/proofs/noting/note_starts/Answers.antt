use Rattle.std.proofs.Common.{arith, ◌≡◌, List, length, sym, ap, ◌∙◌, subst}
use Rattle.chronicle.specs.declared.chronicle.Chronicle.{Chronicle}
use Rattle.chronicle.specs.declared.pass.Pass.{Pass}
use Rattle.lock_row.specs.Hands.{AreDealt}
use Rattle.lock_row.specs.Notings.{AllStay, HaveNoted}
use Rattle.lock_row.specs.Rows.{AreReady, names_of}
use Rattle.lock_row.proofs.Lists.{written}
use Rattle.weaver_locks.proofs.NotingStarts.{dealt_ready, dealt_stay, starts_noted}
use Rattle.weaver_locks.proofs.noting.note_starts.Goals as goal

pub note_row-requires-clause-ready : goal.note_row-requires-clause-ready
note_row-requires-clause-ready g c =
    subst (λ (z : List (Chronicle g.row.M.Denot g.row.M-Entry.Denot) × List (Pass g.row.M-Entry.Denot)). AreReady z.0 z.1)
    (λ i. (sym c.deref.ensures.value i, sym c.as_mut_slice.ensures.value i)) (dealt_ready _ _ c.requires.first)

pub returns-clause-count : goal.returns-clause-count
returns-clause-count g c =
    let long : length c.note_row.new.passes ≡ c.args.passes.now.len =
    c.note_row.ensures.passes ∙ (ap (λ (l : List (Pass g.row.M-Entry.Denot)). length l) c.as_mut_slice.ensures.value ∙ sym c.args.passes.now.ok.0) in
    ap (λ (l : List (Pass g.row.M-Entry.Denot)). length l) (written c.args.passes.now.len c.note_row.new.passes c.args.passes.now.items long)
    ∙ (long ∙ (c.args.passes.now.ok.0 ∙ c.requires.count))

pub returns-clause-first : goal.returns-clause-first
returns-clause-first g c =
    let locks = c.args.locks.now.items in
    let before = c.args.passes.now.items in
    let after = c.note_row.new.passes in
    let value = c.as_mut_slice.ensures.value in
    let long : length after ≡ c.args.passes.now.len =
    c.note_row.ensures.passes ∙ (ap (λ (l : List (Pass g.row.M-Entry.Denot)). length l) value ∙ sym c.args.passes.now.ok.0) in
    let stay = subst (λ (z : List (Chronicle g.row.M.Denot g.row.M-Entry.Denot) × List (Pass g.row.M-Entry.Denot)). AllStay z.0 z.1 after)
    (λ i. (c.deref.ensures.value i, value i)) c.note_row.ensures.stay in
    subst (λ (l : List (Pass g.row.M-Entry.Denot)). AreDealt 0 locks l) (sym (written c.args.passes.now.len after before long))
    (dealt_stay locks before c.requires.first after stay)

pub returns-clause-notes : goal.returns-clause-notes
returns-clause-notes g c =
    let locks = c.args.locks.now.items in
    let before = c.args.passes.now.items in
    let notes = c.in_ok-notes.notes in
    let is = c.in_ok-notes.ensures in
    let at = c.deref.ensures.value in
    let same = ap (λ (l : List (Chronicle g.row.M.Denot g.row.M-Entry.Denot)). length l) at in
    starts_noted locks before c.requires.first notes.items c.requires.count (omega (arith, is.count, notes.ok.0, same))
    (is.names ∙ ap names_of at)
    (subst (λ (z : List (Chronicle g.row.M.Denot g.row.M-Entry.Denot) × List (Pass g.row.M-Entry.Denot)). HaveNoted z.0 z.1 notes.items)
    (λ i. (at i, c.as_mut_slice.ensures.value i)) is.notes)
