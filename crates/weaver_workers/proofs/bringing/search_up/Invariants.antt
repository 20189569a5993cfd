use Rattle.weaver_workers.specs.Carrying.{CarriesAtShard}
use Rattle.weaver_workers.proofs.bringing.search_up.Given as goal

abbrev pub invariant-loop-doubling : goal.invariant-loop-doubling
invariant-loop-doubling g l = CarriesAtShard l.fn.shared l.fn.shard l.fn.hand l.hand
