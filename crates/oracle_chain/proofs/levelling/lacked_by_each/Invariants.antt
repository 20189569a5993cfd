use Rattle.std.proofs.Common.{◌≡◌, ◌++◌, ◌∷◌, [], map, take}
use Rattle.oracle_chain.specs.Held.{HeldView, replica_of, lacked_by}
use Rattle.oracle_chain.proofs.levelling.lacked_by_each.Given as goal

abbrev pub invariant-loop-replica : goal.invariant-loop-replica
invariant-loop-replica l = l.lacked.items ≡ map (λ (held : HeldView). lacked_by (l.list ++ l.last ∷ []) (replica_of held)) (take l.replica-index l.replicas)
