use Rattle.std.proofs.Common.{arith, ap, length}
use Rattle.program_defs.proofs.NewNames.{next-edge}
use Rattle.priced_path.proofs.Reading.{keep-next, keep-end}
use Rattle.priced_path.proofs.kept_edge.keep_all.Goals as goal

pub keep_one-requires : goal.keep_one-requires
keep_one-requires c =
    let next = next-edge _ c.args.found.now.edges c.loop-name._name-index c.loop-name-item.result c.as_slice-name-items.ensures.pairs c.loop-name-test.true c.loop-name-item.is in
    let shorter = ap length next in
    let room = c.loop-name.invariant.room in
    omega (arith, shorter, room)

pub loop-name-preserved : goal.loop-name-preserved
loop-name-preserved c =
    let next = next-edge _ c.args.found.now.edges c.loop-name._name-index c.loop-name-item.result c.as_slice-name-items.ensures.pairs c.loop-name-test.true c.loop-name-item.is in
    let shorter = ap length next in
    let room = c.loop-name.invariant.room in
    let len = c.keep_one.ensures.len in
    let capacity = c.keep_one.ensures.capacity in
    record {
      room = omega (arith, shorter, room, len, capacity);
      kept = keep-next c.args.v c.args.key c.args.found.now.edges c.loop-name._name-index c.loop-name-item.result c.loop-name.edges.items c.keep_one.new.edges.items _ next c.keep_one.ensures.kept c.loop-name.invariant.kept;
    }

pub returns : goal.returns
returns c =
    let same = ap length c.as_slice-name-items.ensures.pairs in
    let past = c.loop-name-test.false in
    keep-end c.args.v c.args.key c.args.found.now.edges c.loop-name._name-index c.loop-name.edges.items _ (omega (arith, same, past)) c.loop-name.invariant.kept
