use Rattle.std.proofs.Common.{suc, ◌-◌, ◌<◌, arith}
use Rattle.order_witness.proofs.Nearest.{follow_on, followed_all}
use Rattle.order_witness.proofs.chain.follow.Goals as goal

pub loop-at-preserved : goal.loop-at-preserved
loop-at-preserved c =
    let some : 0 < c.loop-at.at = omega (arith, c.loop-at-test.true) in
    let inv = c.loop-at.invariant in
    let within = inv.within in
    let back = c.requires.back (c.loop-at.at - 1) (omega (arith, some, within)) in
    let is = c.item-at.ensures in
    record {
      within = omega (arith, back, is, within, some);
      so_far = follow_on c.args.b c.args.found.now c.args.from.now (suc c.args.place) c.loop-at.at c.item-at.result c.node.result c.loop-at.chain.items c.push.new.self.items some c.item-at.ensures c.node.ensures c.in_ok-push.ensures.items inv.so_far;
    }

pub returns : goal.returns
returns c = followed_all c.args.b c.args.found.now c.args.from.now (suc c.args.place) c.loop-at.at c.loop-at.chain.items (omega (arith, c.loop-at-test.false)) c.loop-at.invariant.so_far
