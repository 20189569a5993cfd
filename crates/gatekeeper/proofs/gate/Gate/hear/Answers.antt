use Rattle.std.proofs.Common.{refl}
use Rattle.weave_entries.specs.declared.gate_log.GateDeed.TheVariants.{Heard}
use Rattle.gatekeeper.proofs.Keeping.{keeps_still, no_bits}
use Rattle.gatekeeper.proofs.gate.Gate.hear.Goals as goal

pub invariant_of-self : goal.invariant_of-self
invariant_of-self c =
    keeps_still _ _ _ _ _ _ _ _ c.args.author (Heard c.args.clock.now) _ _ _ _ c.self.invariant (record {
      fits = c.hear.ensures.eight;
      bits = no_bits;
      log_is = c.add.ensures.items;
      clock_is = c.hear.ensures.clock;
      flight_is = refl;
      running_is = c.self.invariant.running_is;
    }) refl
