use Rattle.std.proofs.Common.{rules}
use Rattle.std.proofs.lemmas.List.Sorted.{IsPartitionPoint-from_clause}
use Rattle.order_graph.specs.declared.chain.Event.{Event}
use Rattle.order_graph.specs.Frontiers.{at_or_before}
use Rattle.order_graph.proofs.Chains.{first_are_before}
use Rattle.order_graph.proofs.chain.number_until.Goals as goal

pub returns-clause-until : goal.returns-clause-until
returns-clause-until c rising =
    IsPartitionPoint-from_clause (λ (event : Event). at_or_before event.stamp c.args.stamp.now) c.args.events.now _ c.partition_point.ensures.partitioned (first_are_before c.stamps_keep_the_laws.ensures c.args.events.now rising c.args.stamp.now) (λ a r q k. search rules)
