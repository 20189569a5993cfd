use Rattle.std.proofs.Common.{rules, arith, ◌≡◌, ◌<◌, ◌+◌, List, length, get_or, sym, ap, ◌∙◌, subst}
use Rattle.std.proofs.lemmas.List.{get_or_default}
use Rattle.chronicle.specs.declared.chronicle.Chronicle.{Chronicle}
use Rattle.chronicle.specs.declared.pass.Pass.{Pass}
use Rattle.chronicle.specs.declared.note.Note.{Note}
use Rattle.chronicle.specs.Locks.{lock_of}
use Rattle.chronicle.specs.Passes.{IsReady, IsNote, number_of, seen_by_pass}
use Rattle.lock_row.proofs.Notings.{NotedSoFar, noted_more, stay_on, names_noted}
use Rattle.lock_row.proofs.noting.note_row.Goals as goal

pub note-requires : goal.note-requires
note-requires g c =
    let k = c.loop-place.place in
    let passes = c.loop-place.passes in
    let low : k < length passes = omega (arith, c.loop-place-test.true, c.loop-place.invariant.passes, c.requires.passes) in
    subst (λ l. IsReady (lock_of l) (get_or passes k c.index-passes-place.result)) (sym c.index-locks-place.is)
    (c.loop-place.invariant.stay k c.index-locks-place.result c.index-passes-place.result c.loop-place-test.true).ready

pub loop-place-preserved : goal.loop-place-preserved
loop-place-preserved g c =
    let was = c.loop-place.invariant in
    let k = c.loop-place.place in
    let locks = c.args.locks.now in
    let before = c.args.passes.now in
    let passes = c.loop-place.passes in
    let E = g.row.M-Entry.Denot in
    let low : k < length locks = c.loop-place-test.true in
    let low_pass : k < length passes = omega (arith, low, was.passes, c.requires.passes) in
    let told = c.note.ensures in
    let lock : (d : Chronicle g.row.M.Denot E) → c.index-locks-place.result ≡ get_or locks k d = λ d. c.index-locks-place.is
    ∙ get_or_default locks k c.index-locks-place.result d low in
    let pass : (d : Pass E) → get_or passes k c.index-passes-place.result ≡ get_or passes k d = λ d. get_or_default passes k
    c.index-passes-place.result d low_pass in
    record {
      passes = search rules;
      len = search rules;
      room = search rules;
      notes = subst (λ (ns : List (Note E)). NotedSoFar locks before ns (k + 1)) (sym c.push_reserved.ensures.items)
          (noted_more locks before c.loop-place.notes.items c.note.result k (search rules) was.notes (λ d p. record {
            note = subst (λ l. IsNote (lock_of l) c.note.result) (lock d) told.note;
            seen_is = told.noted ∙ (ap seen_by_pass (pass p) ∙ (was.stay k d p low).seen_is);
          }));
      stay = stay_on locks before passes k c.note.new.pass low_pass was.stay (λ d p. record {
        ready = subst (λ l. IsReady (lock_of l) c.note.new.pass) (lock d) told.ready;
        number = told.number ∙ ap number_of (pass p);
        seen_is = told.seen ∙ ap seen_by_pass (pass p);
      });
    }

pub returns-clause-names : goal.returns-clause-names
returns-clause-names g c = let was = c.loop-place.invariant in
    names_noted c.args.locks.now c.args.passes.now c.loop-place.notes.items c.loop-place.place c.requires.passes (search rules) (search rules) was.notes

pub returns-clause-notes : goal.returns-clause-notes
returns-clause-notes g c k l p n low = c.loop-place.invariant.notes k l p n (search rules)
