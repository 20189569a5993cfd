use Rattle.std.proofs.Common.{◌≡◌, ◌<◌, List, [], IsTrue, length, sym, ap, subst, ◌∙◌}
use Rattle.std.specs.List.{list_any}
use Rattle.std.specs.Prelude.{slice_set}
use Rattle.weave_data.proofs.Results.{on_ok_map, on_err_map}
use Rattle.gatekeeper.specs.Gates.{Adds, GateView}
use Rattle.weave_entries.specs.declared.gate_log.GateDeed.TheVariants.{Finished}
use Rattle.weave_entries.specs.declared.gate_log.GateEntry.{GateEntry}
use Rattle.weave_entries.specs.GateReplay.{is_begun, running_of}
use Rattle.weaver_core.specs.GateTable.{AddsToGate, GateTable, gate_log_at, log_of_gate}
use Rattle.weaver_core.proofs.AtGates.{adds-at, in-order-after, in-order-still, table-rests, table_of, unchanged}
use Rattle.weaver_core.proofs.Results.{on_either}
use Rattle.weaver_core.proofs.Tables.{image-at, read-at, within-image}
use Rattle.weaver_core.proofs.gates.Gates.finish.Goals as goal

pub finish_at-requires : goal.finish_at-requires
finish_at-requires c =
    let gates = c.self.inside.gates.items in
    let g = c.args.gate in
    let before = c.index_mut-gate.result.now in
    let within = within-image log_of_gate gates g (subst (λ (v : GateTable). g < length v.logs) (sym c.self.view_is) c.requires.there) in
    let at = read-at gates g before within c.index_mut-gate.ensures.value in
    let log : before.log ≡ gate_log_at c.args.self.now g = sym (image-at log_of_gate gates g before at []) ∙ ap (λ (v : GateTable). gate_log_at v g) c.self.view_is in
    subst (λ (l : List GateEntry). IsTrue (list_any (is_begun c.args.author c.args.request) (running_of l))) (sym log) c.requires.runs

pub invariant_of-self : goal.invariant_of-self
invariant_of-self c =
    let gates = c.self.inside.gates.items in
    let g = c.args.gate in
    let before = c.index_mut-gate.result.now in
    let after = c.finish_at.new.gate in
    let within = within-image log_of_gate gates g (subst (λ (v : GateTable). g < length v.logs) (sym c.self.view_is) c.requires.there) in
    let at = read-at gates g before within c.index_mut-gate.ensures.value in
    on_either c.finish_at.result (Adds before after c.args.author (Finished c.args.request)) (after ≡ before) _
    (λ adds. in-order-after c.self.inside.shards gates g before after within at c.args.author (Finished c.args.request) c.self.invariant adds)
    (λ is. in-order-still c.self.inside.shards gates g before after within at c.self.invariant (unchanged before after is))
    c.finish_at.ensures.entry c.finish_at.ensures.refused

pub returns-clause-entry : goal.returns-clause-entry
returns-clause-entry c =
    let gates = c.self.inside.gates.items in
    let shards = c.self.inside.shards in
    let g = c.args.gate in
    let before = c.index_mut-gate.result.now in
    let after = c.finish_at.new.gate in
    let within = within-image log_of_gate gates g (subst (λ (v : GateTable). g < length v.logs) (sym c.self.view_is) c.requires.there) in
    let at = read-at gates g before within c.index_mut-gate.ensures.value in
    on_ok_map c.finish_at.result (Adds before after c.args.author (Finished c.args.request)) _
    (λ adds. subst (λ (v : GateTable). AddsToGate v (table_of shards (slice_set gates g after)) g c.args.author (Finished c.args.request)) c.self.view_is (adds-at shards gates g before after within at c.args.author (Finished c.args.request) adds))
    c.finish_at.ensures.entry

pub returns-clause-refused : goal.returns-clause-refused
returns-clause-refused c =
    let gates = c.self.inside.gates.items in
    let g = c.args.gate in
    let before = c.index_mut-gate.result.now in
    let after = c.finish_at.new.gate in
    let within = within-image log_of_gate gates g (subst (λ (v : GateTable). g < length v.logs) (sym c.self.view_is) c.requires.there) in
    let at = read-at gates g before within c.index_mut-gate.ensures.value in
    on_err_map c.finish_at.result (after ≡ before) _ (λ is. table-rests c.self.inside.shards gates g before after within at (ap (λ (x : GateView). x.log) is) ∙ c.self.view_is) c.finish_at.ensures.refused
