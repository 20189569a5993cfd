use Rattle.weaver_workers.specs.Carrying.{CarriesAtShard}
use Rattle.weaver_workers.proofs.bringing.apply_channel.Given as goal

abbrev pub invariant-loop : goal.invariant-loop
invariant-loop g l = CarriesAtShard l.fn.shared l.fn.shard l.fn.hand l.hand
