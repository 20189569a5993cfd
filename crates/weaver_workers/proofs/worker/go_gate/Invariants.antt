use Rattle.std.specs.Prelude.{◌<◌}
use Rattle.weaver_workers.specs.Carrying.{AreTold, CarriesAtGate, IsUpToDateBelow}
use Rattle.weaver_workers.proofs.worker.go_gate.Given as goal

abbrev pub invariant-loop-turn : goal.invariant-loop-turn
invariant-loop-turn g l = record {
  there : CarriesAtGate l.fn.shared l.fn.gate l.fn.hand l.hand;
  heard : 0 < l.turn → IsUpToDateBelow l.fn.script.gates l.fn.gate l.fn.hand l.hand;
  told : AreTold l.hand l.fn.gate l.last.items;
}
