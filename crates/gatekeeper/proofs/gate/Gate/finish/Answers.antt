use Rattle.std.proofs.Common.{rules, refl, sym, ap, ◌∙◌, ◌≡◌, true}
use Rattle.std.specs.List.{list_any}
use Rattle.weave_entries.specs.GateReplay.{is_begun, running_of}
use Rattle.weave_entries.specs.declared.gate_log.GateDeed.TheVariants.{Finished}
use Rattle.gatekeeper.specs.Gates.{GateView}
use Rattle.gatekeeper.proofs.Keeping.{keeps_still, no_bits}
use Rattle.gatekeeper.proofs.gate.Gate.finish.Goals as goal

pub returns-then-not-is_running-clause-idle : goal.returns-then-not-is_running-clause-idle
returns-then-not-is_running-clause-idle c =
    let is = ap (λ (v : GateView). list_any (is_begun c.args.author c.args.request) (running_of v.log)) (sym c.self.view_is) ∙ sym (c.is_running.ensures _ c.self.invariant.running_is) in
    (refl, rw is (search rules))

pub returns-clause-idle : goal.returns-clause-idle
returns-clause-idle c =
    let is = ap (λ (v : GateView). list_any (is_begun c.args.author c.args.request) (running_of v.log)) (sym c.self.view_is) ∙ sym (c.is_running.ensures _ c.self.invariant.running_is) in
    rw is (search rules)

pub invariant_of-self-2 : goal.invariant_of-self-2
invariant_of-self-2 c =
    let runs : c.is_running.result ≡ true = search rules in
    keeps_still _ _ _ _ _ _ _ _ c.args.author (Finished c.args.request) _ _ _ _ c.self.invariant (record {
      fits = sym (c.is_running.ensures _ c.self.invariant.running_is) ∙ runs;
      bits = no_bits;
      log_is = rw c.reserve.ensures.items at c.add.ensures.items;
      clock_is = refl;
      flight_is = refl;
      running_is = c.end.ensures _ c.self.invariant.running_is;
    }) refl
