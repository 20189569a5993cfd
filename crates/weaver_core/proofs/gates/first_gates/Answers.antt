use Rattle.weaver_core.proofs.AtGates.{first-count, first-more}
use Rattle.weaver_core.proofs.gates.first_gates.Goals as goal

pub loop-home-preserved : goal.loop-home-preserved
loop-home-preserved c =
    let made = c.loop-home.made.items in
    let n = c.loop-home.home in
    first-more n c.args.gates c.args.shards made c.push.new.self.items c.in_ok-new.field-0 c.loop-home.invariant (first-count n c.args.gates c.args.shards made c.loop-home.invariant) c.in_ok-new.ensures c.in_ok-push.ensures.items
