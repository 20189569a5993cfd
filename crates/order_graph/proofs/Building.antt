-- What adding builds has no cycle.
-- Used by `no_cycle_is_built`.
use Rattle.std.proofs.Common.{◌≡◌, List, [], ◌∷◌, ◌++◌, ap}
use Rattle.vector_stamp.specs.declared.clock.Stamp.{Stamp}
use Rattle.vector_stamp.specs.Order.{id_of}
use Rattle.vector_stamp.specs.Precedence.{GivenPair, IsAcyclic, precedes}
use Rattle.std.specs.Prelude.{IsTrue}
use Rattle.order_graph.specs.Building.{IsBuilt, Empty, Added}

-- the law on one more pair
abbrev pub OnePairKeeps : Type 0
OnePairKeeps = (pairs : List GivenPair) (a b : Stamp) → IsAcyclic pairs → (a ≡ b → ⊥) → ¬ IsTrue (precedes pairs b a) → IsAcyclic (pairs ++ (a, b) ∷ [])

-- what adding builds has no cycle, if no pairs have none and one more permitted pair makes none
pub built_acyclic : IsAcyclic [] → OnePairKeeps → (pairs : List GivenPair) → IsBuilt pairs → IsAcyclic pairs
built_acyclic none one _ Empty = none
built_acyclic none one _ (Added pairs a b built may) = one pairs a b (built_acyclic none one pairs built) (λ same. may.of_two (ap id_of same)) may.permitted
