use Rattle.std.proofs.Common.{append-nil, arith, sym, ap, length, drop, ◌≡◌, ◌∷◌, [], ◌+◌, ◌++◌, ◌∙◌}
use Rattle.std.proofs.Math.ListN.{drop_of_length-le}
use Rattle.program_defs.specs.LeastWalks.{hops_from}
use Rattle.program_defs.proofs.NewNames.{targets-skipped, targets_in, next-edge}
use Rattle.program_defs.proofs.Noting.{hop-more}
use Rattle.program_defs.proofs.path_search.note_all.Goals as goal
use Rattle.program_defs.proofs.path_search.note_all.Goals.{then-passes, else-passes}

pub loop-name-preserved : goal.loop-name-preserved
loop-name-preserved c =
    let edges = c.args.found.now.edges in
    let i = c.loop-name._name-index in
    let one = c.loop-name-item.result in
    let next : drop i edges ≡ one ∷ drop (i + 1) edges = next-edge _ edges i one c.as_slice-name-items.ensures.pairs c.loop-name-test.true c.loop-name-item.is in
    let shorter = ap length next in
    let room = c.loop-name.invariant.room in
    let bound = c.loop-name.invariant.len in
    elim c.if-passes.branch [
      | then-passes w ↦
          let passing = sym c.passes.ensures ∙ w.if-passes.true in
          let capacity = w.push_reserved.ensures.capacity in
          let len = w.push_reserved.ensures.len in
          rw (w.hops-is) record {
            room = omega (arith, shorter, room, capacity, len);
            len = omega (arith, shorter, bound, len);
            hops = hop-more _ _ _ _ _ _ _ _ _ _ next passing w.push_reserved.ensures.items c.loop-name.invariant.hops;
          }
      | else-passes w ↦
          let skipped = targets-skipped c.args.pass.now _ _ _ _ next (sym c.passes.ensures ∙ w.if-passes.false) in
          rw (w.hops-is, ← skipped) record {
            room = omega (arith, shorter, room);
            len = omega (arith, shorter, bound);
            hops = c.loop-name.invariant.hops;
          }
    ]

pub push_reserved-requires : goal.push_reserved-requires
push_reserved-requires c =
    let edges = c.args.found.now.edges in
    let i = c.loop-name._name-index in
    let one = c.loop-name-item.result in
    let next : drop i edges ≡ one ∷ drop (i + 1) edges = next-edge _ edges i one c.as_slice-name-items.ensures.pairs c.loop-name-test.true c.loop-name-item.is in
    let shorter = ap length next in
    let room = c.loop-name.invariant.room in
    omega (arith, shorter, room)

pub returns-clause-hops : goal.returns-clause-hops
returns-clause-hops c =
    let same = ap length c.as_slice-name-items.ensures.pairs in
    let past = c.loop-name-test.false in
    let none : drop c.loop-name._name-index c.args.found.now.edges ≡ [] = drop_of_length-le c.args.found.now.edges (omega (arith, same, past)) in
    sym (append-nil _) ∙ ap (λ xs. c.loop-name.hops.items ++ hops_from c.args.v c.args.rank (targets_in c.args.pass.now xs)) (sym none) ∙ c.loop-name.invariant.hops
