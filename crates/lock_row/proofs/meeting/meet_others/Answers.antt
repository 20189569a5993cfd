use Rattle.std.proofs.Common.{rules, arith, ℕ, ◌<◌, ◌+◌, List, length, sym, subst}
use Rattle.chronicle.specs.declared.pass.Pass.{Pass}
use Rattle.chronicle.specs.declared.note.Note.{Note}
use Rattle.lock_row.proofs.Meetings.{MetSoFar, met_one, met_past, met_now, met_names}
use Rattle.lock_row.proofs.meeting.meet_others.Goals.{then-place-except, else-place-except}
use Rattle.lock_row.proofs.meeting.meet_others.Goals as goal

pub loop-place-preserved : goal.loop-place-preserved
loop-place-preserved g c =
    let was = c.loop-place.invariant in
    let E = g.row.M-Entry.Denot in
    let locks = c.args.locks.now in
    let before = c.args.passes.now in
    let notes = c.args.notes.now in
    let except = c.args.except in
    let k = c.loop-place.place in
    record {
      passes = search rules;
      notes = search rules;
      so_far = elim c.if-place-except.branch [
        | then-place-except w ↦
            let low : k < length locks = c.loop-place-test.true in
            let low_pass : k < length c.loop-place.passes = omega (arith, c.requires.passes, was.passes) in
            let low_note : k < length c.loop-place.notes = omega (arith, c.requires.notes, was.notes) in
            let m = w.meet.ensures in
            let now = met_now locks c.loop-place.passes c.loop-place.notes k w.index-locks-place.result w.index-passes-place.result w.meet.new.pass
            w.index-notes-place.result w.meet.new.note low low_pass low_note w.index-locks-place.is
            record {
              ready = m.ready;
              number = m.number;
              own_is = m.own;
              lock_is = search rules;
              pass_before = m.pass_before;
              note_before = m.note_before;
              longer_is = m.longer;
              either = m.either;
              one = m.one;
            } in
            subst (λ (z : List (Pass E) × List (Note E)). MetSoFar locks before z.0 notes z.1 except (k + 1)) (λ i. (sym w.passes-is i, sym w.notes-is i))
            (met_one locks before c.loop-place.passes notes c.loop-place.notes except k w.meet.new.pass w.meet.new.note w.if-place-except.true
            low_pass low_note was.so_far now)
        | else-place-except w ↦
            subst (λ (z : List (Pass E) × List (Note E)). MetSoFar locks before z.0 notes z.1 except (k + 1)) (λ i. (sym w.passes-is i, sym w.notes-is i))
            (subst (λ (b : ℕ). MetSoFar locks before c.loop-place.passes notes c.loop-place.notes b (k + 1)) w.if-place-except.false
            (met_past locks before c.loop-place.passes notes c.loop-place.notes k
            (subst (λ (b : ℕ). MetSoFar locks before c.loop-place.passes notes c.loop-place.notes b k) (sym w.if-place-except.false) was.so_far)))
      ];
    }

pub returns-clause-met : goal.returns-clause-met
returns-clause-met g c k l p n within other = c.loop-place.invariant.so_far.met k l p n within other (search rules)

pub returns-clause-names : goal.returns-clause-names
returns-clause-names g c =
    let is = c.loop-place.invariant.so_far in
    met_names c.args.locks.now c.args.passes.now c.loop-place.passes c.args.notes.now c.loop-place.notes c.args.except
    (λ k l p n low other. is.met k l p n low other (search rules))
    c.requires.passes c.requires.notes c.loop-place.invariant.notes is.note
