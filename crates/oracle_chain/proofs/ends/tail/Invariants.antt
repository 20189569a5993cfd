use Rattle.std.proofs.Common.{◌≡◌, map, take}
use Rattle.oracle_chain.specs.Chain.{tail_number}
use Rattle.oracle_chain.specs.Held.{replica_of}
use Rattle.oracle_chain.proofs.ends.tail.Given as goal

abbrev pub invariant-loop-number : goal.invariant-loop-number
invariant-loop-number l = l.found ≡ tail_number (map replica_of (take l.number l.replicas))
