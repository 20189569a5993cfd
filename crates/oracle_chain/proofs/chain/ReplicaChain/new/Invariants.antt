use Rattle.std.proofs.Common.{◌≡◌, map}
use Rattle.oracle_chain.specs.Calls.{new_replicas}
use Rattle.oracle_chain.specs.Held.{replica_of}
use Rattle.oracle_chain.proofs.chain.ReplicaChain.new.Given as goal

abbrev pub invariant-loop : goal.invariant-loop
invariant-loop l = map replica_of l.made.items ≡ new_replicas l.counter
