-- For which reasons a hand's calls refuse.
-- Used by `try_change` and `visit_vertex`.
use Rattle.std.proofs.Common.{ℕ, List, Option, Err}
use Rattle.graph_ops.specs.declared.op.Op.{Op}
use Rattle.vector_stamp.specs.declared.clock.Stamp.{Stamp}
use Rattle.weaver_core.specs.declared.walks.Running.{Running}
use Rattle.weaver_locks.specs.declared.hand.Hand.{Hand}
use Rattle.weaver_hands.specs.declared.fault.HandFault.{HandFault}
use Rattle.weaver_hands.specs.declared.fault.HandFault.TheVariants.{Busy, NotYet, Empty, Waits, Memory}
use Rattle.weaver_hands.specs.Programs.{VisitsAs}
use Rattle.weaver_hands.specs.Transactions.{TransactsAs}
use Rattle.weaver_workers.specs.Turning.{RefusesTransaction, RefusesVisit}

-- a transaction is refused since its gatekeeper is busy, or out of memory
pub refuses-transaction : (shards : ℕ) (old new : Hand) (gate request : ℕ) (ops : List Op) (last : Option Stamp) (fault : HandFault)
    → TransactsAs shards old new gate request ops last (Err fault) → RefusesTransaction fault
refuses-transaction shards old new gate request ops last Busy found = tt
refuses-transaction shards old new gate request ops last (NotYet shard at) none = none
refuses-transaction shards old new gate request ops last Empty none = none
refuses-transaction shards old new gate request ops last (Waits vertex) none = none
refuses-transaction shards old new gate request ops last Memory stops = tt

-- a visit is refused since its shard is not ready, or out of memory
pub refuses-visit : (gates shards : ℕ) (old new : Hand) (was is : Running) (fault : HandFault)
    → VisitsAs gates shards old new was is (Err fault) → RefusesVisit fault
refuses-visit gates shards old new was is Busy none = none
refuses-visit gates shards old new was is (NotYet shard gate) found = tt
refuses-visit gates shards old new was is Empty none = none
refuses-visit gates shards old new was is (Waits vertex) none = none
refuses-visit gates shards old new was is Memory still = tt
