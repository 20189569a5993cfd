use Rattle.std.proofs.Common.{not, rules}
use Rattle.std.proofs.lemmas.Bool.{not-true, not-false}
use Rattle.std.proofs.lemmas.List.Sorted.{IsPartitionPoint-from_clause}
use Rattle.order_graph.specs.declared.chain.Event.{Event}
use Rattle.order_graph.specs.Chains.{leads_to}
use Rattle.order_graph.proofs.Chains.{first_are_not_led}
use Rattle.order_graph.proofs.chain.first_led.Goals as goal

pub returns-clause-first : goal.returns-clause-first
returns-clause-first c led =
    let stamp = c.args.stamp.now in
    let point = IsPartitionPoint-from_clause (λ (event : Event). not (leads_to stamp event)) c.args.events.now _ c.partition_point.ensures.partitioned (first_are_not_led c.args.events.now stamp led) (λ a r q k. search rules) in
    (λ k d low below. not-true _ (point.0 k d low below), λ k d low below. not-false _ (point.1 k d low below))
