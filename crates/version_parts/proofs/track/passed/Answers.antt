use Rattle.std.proofs.Common.{rules}
use Rattle.std.specs.Prelude.{nat_le}
use Rattle.std.proofs.lemmas.List.Sorted.{IsPartitionPoint-from_clause, IsPartitionedBy-leb}
use Rattle.version_parts.proofs.Splitting.{split_at}
use Rattle.version_parts.proofs.track.passed.Goals as goal

pub returns-clause-split : goal.returns-clause-split
returns-clause-split g c =
    let parted = IsPartitionedBy-leb (λ item. item.time.update) c.args.items.now c.args.update c.requires in
    let point = IsPartitionPoint-from_clause (λ item. nat_le item.time.update c.args.update) _ _ c.partition_point.ensures.partitioned parted (λ a r q k. search rules) in
    split_at c.args.update c.args.items.now c.partition_point.result c.partition_point.ensures.bound point
