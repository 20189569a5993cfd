use Rattle.std.proofs.Common.{◌≡◌, ℕ, ap, subst, ◌∙◌}
use Rattle.std.specs.Prelude.{not, nat_lt}
use Rattle.weave_data.proofs.Results.{on_ok_map, on_err_map, on_err_known}
use Rattle.gatekeeper.specs.Answers.{IsRefusedWhere}
use Rattle.gatekeeper.specs.Gates.{GateView}
use Rattle.gatekeeper.specs.declared.fault.GateFault.TheVariants.{Old}
use Rattle.weave_entries.specs.declared.gate_log.GateDeed.TheVariants.{Raised}
use Rattle.weave_entries.specs.GateReplay.{clock_of}
use Rattle.weaver_core.proofs.AtGates.{room-then-adds, unchanged}
use Rattle.weaver_core.proofs.Results.{refused-where}
use Rattle.weaver_core.proofs.gates.raise_at.Goals as goal

-- with no room all is as before
pub returns-in_err-reserve-clause-refused : goal.returns-in_err-reserve-clause-refused
returns-in_err-reserve-clause-refused c = on_err_known _ _ (unchanged c.args.gate.now c.reserve.new.self c.in_err-reserve.ensures.refused)

pub returns-clause-raised : goal.returns-clause-raised
returns-clause-raised c =
    on_ok_map c.epoch.result _ _ (λ both. room-then-adds c.args.gate.now c.reserve.new.self c.epoch.new.self 1 0 (Raised c.args.epoch) c.in_ok-reserve.ensures.room both.1) c.epoch.ensures.raised

pub returns-clause-old : goal.returns-clause-old
returns-clause-old c =
    let room = c.in_ok-reserve.ensures.room in
    let same : (clock_of c.reserve.new.self.home c.reserve.new.self.log).epoch ≡ (clock_of c.args.gate.now.home c.args.gate.now.log).epoch = λ i. (clock_of (room.home i) (room.log i)).epoch in
    subst (λ (now : ℕ). IsRefusedWhere Old (not (nat_lt now c.args.epoch)) c.epoch.result) same
    (refused-where c.epoch.result (clock_of c.reserve.new.self.home c.reserve.new.self.log).epoch c.args.epoch _ c.epoch.ensures.raised c.epoch.ensures.old)

pub returns-clause-refused : goal.returns-clause-refused
returns-clause-refused c =
    let room = c.in_ok-reserve.ensures.room in
    on_err_map c.epoch.result _ _ (λ (is : c.epoch.new.self ≡ c.reserve.new.self). record {
      log = ap (λ (x : GateView). x.log) is ∙ room.log;
      home = ap (λ (x : GateView). x.home) is ∙ room.home;
      gates = ap (λ (x : GateView). x.gates) is ∙ room.gates;
      shards = ap (λ (x : GateView). x.shards) is ∙ room.shards;
    }) c.epoch.ensures.refused
