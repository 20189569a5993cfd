use Rattle.std.proofs.Common.{arith, sym, ap, length, drop, ◌≡◌, ◌∷◌, ◌+◌, ◌∙◌}
use Rattle.program_defs.proofs.NewNames.{new-more, known-more, targets-skipped, next-edge}
use Rattle.program_defs.proofs.targets.look.Goals as goal
use Rattle.program_defs.proofs.targets.look.Goals.{then-passes, else-passes}

pub loop-name-preserved : goal.loop-name-preserved
loop-name-preserved c =
    let edges = c.args.vertex.now.edges in
    let i = c.loop-name._name-index in
    let one = c.loop-name-item.result in
    let next : drop i edges ≡ one ∷ drop (i + 1) edges = next-edge _ edges i one c.as_slice-name-items.ensures.pairs c.loop-name-test.true c.loop-name-item.is in
    let shorter = ap length next in
    let places = c.loop-name.invariant.places in
    let room = c.loop-name.invariant.room in
    elim c.if-passes.branch [
      | then-passes w ↦
          let passing = sym c.passes.ensures ∙ w.if-passes.true in
          let spare = w.reach.ensures.spare in
          let capacity = w.reach.ensures.capacity in
          let len = w.reach.ensures.len in
          rw (w.found-is, w.reached-is) record {
            places = omega (arith, shorter, places, spare);
            room = omega (arith, shorter, room, capacity, len);
            found = new-more _ _ _ _ _ _ _ _ _ _ next passing w.reach.ensures.found w.reach.ensures.reached c.loop-name.invariant.found;
            reached = λ v. known-more _ _ _ _ _ _ _ _ next passing w.reach.ensures.reached c.loop-name.invariant.reached v;
          }
      | else-passes w ↦
          let skipped = targets-skipped c.args.pass.now _ _ _ _ next (sym c.passes.ensures ∙ w.if-passes.false) in
          rw (w.found-is, w.reached-is, ← skipped) record {
            places = omega (arith, shorter, places);
            room = omega (arith, shorter, room);
            found = c.loop-name.invariant.found;
            reached = c.loop-name.invariant.reached;
          }
    ]
