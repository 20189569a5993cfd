use Rattle.std.proofs.Common.{◌≡◌, ℕ, ◌<◌, List, [], length, sym, ap, subst, ◌∙◌}
use Rattle.std.specs.Prelude.{nat_lt, not, slice_set}
use Rattle.weave_data.proofs.Results.{on_ok_map, on_err_map}
use Rattle.gatekeeper.specs.Answers.{IsRefusedWhere}
use Rattle.gatekeeper.specs.Gates.{Adds}
use Rattle.gatekeeper.specs.Stopping.{AreLeftOpen}
use Rattle.gatekeeper.specs.declared.fault.GateFault.TheVariants.{Old}
use Rattle.weave_entries.specs.declared.gate_log.GateDeed.TheVariants.{Raised}
use Rattle.weave_entries.specs.declared.gate_log.GateEntry.{GateEntry}
use Rattle.weave_entries.specs.GateReplay.{clock_of}
use Rattle.weaver_core.specs.GateTable.{AddsToGate, GateTable, IsSameGate, gate_log_at, log_of_gate}
use Rattle.weaver_core.proofs.AtGates.{adds-at, in-order-after, in-order-still, table-rests, table_of}
use Rattle.weaver_core.proofs.Results.{on_either}
use Rattle.weaver_core.proofs.Tables.{image-at, read-at, within-image}
use Rattle.weaver_core.proofs.gates.Gates.restart.Goals as goal

pub restart_at-requires : goal.restart_at-requires
restart_at-requires c =
    let gates = c.self.inside.gates.items in
    let g = c.args.gate in
    let before = c.index_mut-gate.result.now in
    let within = within-image log_of_gate gates g (subst (λ (v : GateTable). g < length v.logs) (sym c.self.view_is) c.requires.there) in
    let at = read-at gates g before within c.index_mut-gate.ensures.value in
    let log : before.log ≡ gate_log_at c.args.self.now g = sym (image-at log_of_gate gates g before at []) ∙ ap (λ (v : GateTable). gate_log_at v g) c.self.view_is in
    record { left = subst (λ (entries : List GateEntry). AreLeftOpen c.args.flight c.args.running.items entries) (sym log) c.requires.left }

pub invariant_of-self : goal.invariant_of-self
invariant_of-self c =
    let gates = c.self.inside.gates.items in
    let g = c.args.gate in
    let before = c.index_mut-gate.result.now in
    let after = c.restart_at.new.gate in
    let within = within-image log_of_gate gates g (subst (λ (v : GateTable). g < length v.logs) (sym c.self.view_is) c.requires.there) in
    let at = read-at gates g before within c.index_mut-gate.ensures.value in
    on_either c.restart_at.result (Adds before after 0 (Raised c.args.epoch)) (IsSameGate before after) _
    (λ adds. in-order-after c.self.inside.shards gates g before after within at 0 (Raised c.args.epoch) c.self.invariant adds)
    (λ is. in-order-still c.self.inside.shards gates g before after within at c.self.invariant is)
    c.restart_at.ensures.raised c.restart_at.ensures.refused

pub returns-clause-raised : goal.returns-clause-raised
returns-clause-raised c =
    let gates = c.self.inside.gates.items in
    let shards = c.self.inside.shards in
    let g = c.args.gate in
    let before = c.index_mut-gate.result.now in
    let after = c.restart_at.new.gate in
    let within = within-image log_of_gate gates g (subst (λ (v : GateTable). g < length v.logs) (sym c.self.view_is) c.requires.there) in
    let at = read-at gates g before within c.index_mut-gate.ensures.value in
    on_ok_map c.restart_at.result (Adds before after 0 (Raised c.args.epoch)) _
    (λ adds. subst (λ (v : GateTable). AddsToGate v (table_of shards (slice_set gates g after)) g 0 (Raised c.args.epoch)) c.self.view_is (adds-at shards gates g before after within at 0 (Raised c.args.epoch) adds))
    c.restart_at.ensures.raised

pub returns-clause-refused : goal.returns-clause-refused
returns-clause-refused c =
    let gates = c.self.inside.gates.items in
    let g = c.args.gate in
    let before = c.index_mut-gate.result.now in
    let after = c.restart_at.new.gate in
    let within = within-image log_of_gate gates g (subst (λ (v : GateTable). g < length v.logs) (sym c.self.view_is) c.requires.there) in
    let at = read-at gates g before within c.index_mut-gate.ensures.value in
    on_err_map c.restart_at.result (IsSameGate before after) _ (λ is. table-rests c.self.inside.shards gates g before after within at is.log ∙ c.self.view_is) c.restart_at.ensures.refused

pub returns-clause-old : goal.returns-clause-old
returns-clause-old c =
    let gates = c.self.inside.gates.items in
    let g = c.args.gate in
    let before = c.index_mut-gate.result.now in
    let within = within-image log_of_gate gates g (subst (λ (v : GateTable). g < length v.logs) (sym c.self.view_is) c.requires.there) in
    let at = read-at gates g before within c.index_mut-gate.ensures.value in
    let home = c.self.invariant.homes g before at in
    let log : before.log ≡ gate_log_at c.args.self.now g = sym (image-at log_of_gate gates g before at []) ∙ ap (λ (v : GateTable). gate_log_at v g) c.self.view_is in
    let same : (clock_of before.home before.log).epoch ≡ (clock_of g (gate_log_at c.args.self.now g)).epoch = λ i. (clock_of (home i) (log i)).epoch in
    subst (λ (now : ℕ). IsRefusedWhere Old (not (nat_lt now c.args.epoch)) c.restart_at.result) same c.restart_at.ensures.old
