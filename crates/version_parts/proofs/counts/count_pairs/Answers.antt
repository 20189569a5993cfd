use Rattle.std.proofs.Common.{◌<◌, true, length, arith}
use Rattle.version_parts.specs.Counts.{count_items}
use Rattle.version_parts.proofs.Counting.{count_all, total_split}
use Rattle.version_parts.proofs.counts.count_pairs.Goals as goal

pub overflow_add-count : goal.overflow_add-count
overflow_add-count c =
    let inside : c.loop-pair.pair-index < length c.args.pairs.now = omega arith in
    let split = total_split (count_items (λ update. true)) c.args.pairs.now c.loop-pair.pair-index c.pair-item.result inside c.pair-item.is in
    omega (arith, split, count_all c.pair-item.result.1, c.len.ensures, c.loop-pair.invariant, c.requires)

pub loop-pair-preserved : goal.loop-pair-preserved
loop-pair-preserved c =
    let inside : c.loop-pair.pair-index < length c.args.pairs.now = omega arith in
    let split = total_split (count_items (λ update. true)) c.args.pairs.now c.loop-pair.pair-index c.pair-item.result inside c.pair-item.is in
    omega (arith, split, count_all c.pair-item.result.1, c.len.ensures, c.loop-pair.invariant)
