use Rattle.weaver_workers.specs.Carrying.{AreTold, CarriesAtGate, IsUpToDateBelow}
use Rattle.weaver_workers.proofs.gate_work.hear_others.Given as goal

abbrev pub invariant-loop-other : goal.invariant-loop-other
invariant-loop-other g l = record {
  there : CarriesAtGate l.fn.shared l.fn.gate l.fn.hand l.hand;
  told : AreTold l.hand l.fn.gate l.last.items;
  heard : IsUpToDateBelow l.other l.fn.gate l.fn.hand l.hand;
}
