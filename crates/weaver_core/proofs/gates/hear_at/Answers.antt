use Rattle.weave_entries.specs.declared.gate_log.GateDeed.TheVariants.{Heard}
use Rattle.weaver_core.proofs.AtGates.{room-then-adds}
use Rattle.weaver_core.proofs.gates.hear_at.Goals as goal

pub returns-clause-heard : goal.returns-clause-heard
returns-clause-heard c = room-then-adds c.args.gate.now c.reserve.new.self c.hear.new.self 1 0 (Heard c.args.clock.now) c.in_ok-reserve.ensures.room c.hear.ensures
