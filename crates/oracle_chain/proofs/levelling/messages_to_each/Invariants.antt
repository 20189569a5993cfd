use Rattle.std.proofs.Common.{◌≡◌, ◌++◌, map, drop}
use Rattle.oracle_chain.specs.Held.{replica_of, sent_to_each}
use Rattle.oracle_chain.proofs.levelling.messages_to_each.Given as goal

abbrev pub invariant-loop-number : goal.invariant-loop-number
invariant-loop-number l =
    l.sent.items ++ sent_to_each l.head l.many l.number (map replica_of (drop l.number l.replicas)) ≡ sent_to_each l.head l.many 0 (map replica_of l.replicas)
