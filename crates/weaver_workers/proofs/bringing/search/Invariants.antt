use Rattle.weaver_workers.specs.Carrying.{CarriesAtShard}
use Rattle.weaver_workers.proofs.bringing.search.Given as goal

abbrev pub invariant-loop-halving : goal.invariant-loop-halving
invariant-loop-halving g l = CarriesAtShard l.fn.shared l.fn.shard l.fn.hand l.hand
