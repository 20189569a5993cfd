use Rattle.weaver_workers.specs.Carrying.{CarriesAtGate}
use Rattle.weaver_workers.proofs.gate_work.send_to_all.Given as goal

abbrev pub invariant-loop-shard : goal.invariant-loop-shard
invariant-loop-shard g l = CarriesAtGate l.fn.shared l.fn.gate l.fn.hand l.hand
