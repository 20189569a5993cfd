use Rattle.std.proofs.Common.{◌<◌, true, length, arith}
use Rattle.version_parts.specs.Counts.{count_edge}
use Rattle.version_parts.proofs.Counting.{total_split}
use Rattle.version_parts.proofs.counts.count_edge_pairs.Goals as goal

pub count_edge-count-requires : goal.count_edge-count-requires
count_edge-count-requires c =
    let inside : c.loop-pair.pair-index < length c.args.pairs.now = omega arith in
    let split = total_split (count_edge (λ update. true)) c.args.pairs.now c.loop-pair.pair-index c.pair-item.result inside c.pair-item.is in
    omega (arith, split, c.loop-pair.invariant, c.requires)

pub overflow_add-count : goal.overflow_add-count
overflow_add-count c =
    let inside : c.loop-pair.pair-index < length c.args.pairs.now = omega arith in
    let split = total_split (count_edge (λ update. true)) c.args.pairs.now c.loop-pair.pair-index c.pair-item.result inside c.pair-item.is in
    omega (arith, split, c.count_edge-count.ensures, c.loop-pair.invariant, c.requires)

pub loop-pair-preserved : goal.loop-pair-preserved
loop-pair-preserved c =
    let inside : c.loop-pair.pair-index < length c.args.pairs.now = omega arith in
    let split = total_split (count_edge (λ update. true)) c.args.pairs.now c.loop-pair.pair-index c.pair-item.result inside c.pair-item.is in
    omega (arith, split, c.count_edge-count.ensures, c.loop-pair.invariant)
