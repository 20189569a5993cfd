use Rattle.std.proofs.Common.{refl, ◌<◌, subst}
use Rattle.vector_stamp.specs.declared.clock.Clock.{Clock}
use Rattle.weave_entries.specs.declared.gate_log.GateDeed.TheVariants.{Raised}
use Rattle.gatekeeper.proofs.Keeping.{keeps_still, no_bits}
use Rattle.gatekeeper.proofs.gate.Gate.epoch.Goals as goal

pub invariant_of-self : goal.invariant_of-self
invariant_of-self c =
    let later = subst (λ (k : Clock). k.epoch < c.args.epoch) c.self.invariant.clock_is c.if-epoch-self.false in
    keeps_still _ _ _ _ _ _ _ _ c.args.author (Raised c.args.epoch) _ _ _ _ c.self.invariant (record {
      fits = later;
      bits = no_bits;
      log_is = c.add.ensures.items;
      clock_is = c.raise.ensures;
      flight_is = refl;
      running_is = c.self.invariant.running_is;
    }) refl
