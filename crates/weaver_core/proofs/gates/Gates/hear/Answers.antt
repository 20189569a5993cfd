use Rattle.std.proofs.Common.{◌≡◌, ◌<◌, length, sym, ap, subst, ◌∙◌}
use Rattle.std.specs.Prelude.{slice_set}
use Rattle.weave_data.proofs.Results.{on_ok_map, on_err_map}
use Rattle.gatekeeper.specs.Gates.{Adds, GateView}
use Rattle.weave_entries.specs.declared.gate_log.GateDeed.TheVariants.{Heard}
use Rattle.weaver_core.specs.GateTable.{AddsToGate, GateTable, log_of_gate}
use Rattle.weaver_core.proofs.AtGates.{adds-at, in-order-after, in-order-still, table-rests, table_of, unchanged}
use Rattle.weaver_core.proofs.Results.{on_either}
use Rattle.weaver_core.proofs.Tables.{read-at, within-image}
use Rattle.weaver_core.proofs.gates.Gates.hear.Goals as goal

pub invariant_of-self : goal.invariant_of-self
invariant_of-self c =
    let gates = c.self.inside.gates.items in
    let g = c.args.gate in
    let before = c.index_mut-gate.result.now in
    let after = c.hear_at.new.gate in
    let within = within-image log_of_gate gates g (subst (λ (v : GateTable). g < length v.logs) (sym c.self.view_is) c.requires) in
    let at = read-at gates g before within c.index_mut-gate.ensures.value in
    on_either c.hear_at.result (Adds before after 0 (Heard c.args.clock.now)) (after ≡ before) _
    (λ adds. in-order-after c.self.inside.shards gates g before after within at 0 (Heard c.args.clock.now) c.self.invariant adds)
    (λ is. in-order-still c.self.inside.shards gates g before after within at c.self.invariant (unchanged before after is))
    c.hear_at.ensures.heard c.hear_at.ensures.refused

pub returns-clause-heard : goal.returns-clause-heard
returns-clause-heard c =
    let gates = c.self.inside.gates.items in
    let shards = c.self.inside.shards in
    let g = c.args.gate in
    let before = c.index_mut-gate.result.now in
    let after = c.hear_at.new.gate in
    let within = within-image log_of_gate gates g (subst (λ (v : GateTable). g < length v.logs) (sym c.self.view_is) c.requires) in
    let at = read-at gates g before within c.index_mut-gate.ensures.value in
    on_ok_map c.hear_at.result (Adds before after 0 (Heard c.args.clock.now)) _
    (λ adds. subst (λ (v : GateTable). AddsToGate v (table_of shards (slice_set gates g after)) g 0 (Heard c.args.clock.now)) c.self.view_is (adds-at shards gates g before after within at 0 (Heard c.args.clock.now) adds))
    c.hear_at.ensures.heard

pub returns-clause-refused : goal.returns-clause-refused
returns-clause-refused c =
    let gates = c.self.inside.gates.items in
    let g = c.args.gate in
    let before = c.index_mut-gate.result.now in
    let after = c.hear_at.new.gate in
    let within = within-image log_of_gate gates g (subst (λ (v : GateTable). g < length v.logs) (sym c.self.view_is) c.requires) in
    let at = read-at gates g before within c.index_mut-gate.ensures.value in
    on_err_map c.hear_at.result (after ≡ before) _ (λ is. table-rests c.self.inside.shards gates g before after within at (ap (λ (x : GateView). x.log) is) ∙ c.self.view_is) c.hear_at.ensures.refused
