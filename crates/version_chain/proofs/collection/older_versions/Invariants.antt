use Rattle.std.proofs.Common.{◌≡◌, length}
use Rattle.vector_stamp.specs.Order.{is_before}
use Rattle.vector_stamp.specs.Seeing.{last_place}
use Rattle.vector_stamp.specs.declared.clock.Stamp.{Stamp}
use Rattle.version_chain.proofs.collection.older_versions.Given as goal

abbrev pub invariant-loop-newest : goal.invariant-loop-newest
invariant-loop-newest l = last_place (λ (stamp : Stamp). is_before stamp.clock l.bound) l.stamps ≡ last_place (λ (stamp : Stamp). is_before stamp.clock l.bound) l.rest

abbrev pub decreases-loop-newest : goal.decreases-loop-newest
decreases-loop-newest l = length l.rest
