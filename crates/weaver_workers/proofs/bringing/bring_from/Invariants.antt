use Rattle.weaver_workers.specs.Carrying.{CarriesAtShard}
use Rattle.weaver_workers.proofs.bringing.bring_from.Given as goal

abbrev pub invariant-loop-number : goal.invariant-loop-number
invariant-loop-number g l = CarriesAtShard l.fn.shared l.fn.shard l.fn.hand l.hand
