use Rattle.weaver_workers.specs.Carrying.{CarriesAtShard}
use Rattle.weaver_workers.proofs.bringing.apply_round.Given as goal

abbrev pub invariant-loop-gate : goal.invariant-loop-gate
invariant-loop-gate g l = CarriesAtShard l.fn.shared l.fn.shard l.fn.hand l.hand
