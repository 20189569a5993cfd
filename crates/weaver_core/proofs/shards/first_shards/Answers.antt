use Rattle.weaver_core.proofs.AtShards.{first-count, first-more}
use Rattle.weaver_core.proofs.shards.first_shards.Goals as goal

pub loop-number-preserved : goal.loop-number-preserved
loop-number-preserved c =
    let made = c.loop-number.made.items in
    let n = c.loop-number.number in
    first-more n c.args.gates made c.push.new.self.items c.in_ok-new.field-0 c.loop-number.invariant (first-count n c.args.gates made c.loop-number.invariant) c.in_ok-new.ensures c.in_ok-push.ensures.items
