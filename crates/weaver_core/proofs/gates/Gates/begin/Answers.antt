use Rattle.std.proofs.Common.{◌≡◌, ℕ, ◌<◌, List, [], length, IsTrue, sym, ap, subst, ◌∙◌}
use Rattle.std.specs.Prelude.{◌&&◌, is_some, slice_set}
use Rattle.std.specs.Option.{ForSome}
use Rattle.weave_data.proofs.Results.{on_err_map}
use Rattle.vector_stamp.specs.declared.clock.Stamp.{Stamp}
use Rattle.vector_stamp.specs.Clocks.{counts_no_more}
use Rattle.vector_stamp.specs.Order.{stamp_before}
use Rattle.program_defs.specs.Works.{is_change}
use Rattle.gatekeeper.specs.Answers.{IsRefusedWhere}
use Rattle.gatekeeper.specs.Gates.{Adds, GateView}
use Rattle.gatekeeper.specs.declared.fault.GateFault.TheVariants.{Busy}
use Rattle.weave_entries.specs.declared.gate_log.GateEntry.{GateEntry}
use Rattle.weave_entries.specs.GateReplay.{begun_stamp, clock_of, flight_of}
use Rattle.step_rules.specs.Entries.{begin_deed}
use Rattle.weaver_core.specs.GateTable.{AddsToGate, GateTable, gate_log_at, log_of_gate}
use Rattle.weaver_core.proofs.AtGates.{adds-at, in-order-after, in-order-still, table-rests, table_of, unchanged}
use Rattle.weaver_core.proofs.Results.{either_way, if_ok_map}
use Rattle.weaver_core.proofs.Tables.{image-at, read-at, within-image}
use Rattle.weaver_core.proofs.gates.Gates.begin.Goals as goal

pub invariant_of-self : goal.invariant_of-self
invariant_of-self c =
    let gates = c.self.inside.gates.items in
    let g = c.args.gate in
    let before = c.index_mut-gate.result.now in
    let after = c.stamp_at.new.gate in
    let within = within-image log_of_gate gates g (subst (λ (v : GateTable). g < length v.logs) (sym c.self.view_is) c.requires) in
    let at = read-at gates g before within c.index_mut-gate.ensures.value in
    either_way c.stamp_at.result (λ (stamp : Stamp). Adds before after 0 (begin_deed c.args.request stamp c.args.work.now)) (after ≡ before) _
    (λ stamp adds. in-order-after c.self.inside.shards gates g before after within at 0 (begin_deed c.args.request stamp c.args.work.now) c.self.invariant adds)
    (λ is. in-order-still c.self.inside.shards gates g before after within at c.self.invariant (unchanged before after is))
    c.stamp_at.ensures.entry c.stamp_at.ensures.refused

pub returns-clause-stamp : goal.returns-clause-stamp
returns-clause-stamp c =
    let gates = c.self.inside.gates.items in
    let g = c.args.gate in
    let before = c.index_mut-gate.result.now in
    let within = within-image log_of_gate gates g (subst (λ (v : GateTable). g < length v.logs) (sym c.self.view_is) c.requires) in
    let at = read-at gates g before within c.index_mut-gate.ensures.value in
    let home = c.self.invariant.homes g before at in
    let log : before.log ≡ gate_log_at c.args.self.now g = sym (image-at log_of_gate gates g before at []) ∙ ap (λ (v : GateTable). gate_log_at v g) c.self.view_is in
    if_ok_map c.stamp_at.result _ _ (λ (stamp : Stamp) is. is ∙ (λ i. begun_stamp (home i) (clock_of (home i) (log i)) c.args.last)) c.stamp_at.ensures.stamp

pub returns-clause-after : goal.returns-clause-after
returns-clause-after c =
    let gates = c.self.inside.gates.items in
    let g = c.args.gate in
    let before = c.index_mut-gate.result.now in
    let within = within-image log_of_gate gates g (subst (λ (v : GateTable). g < length v.logs) (sym c.self.view_is) c.requires) in
    let at = read-at gates g before within c.index_mut-gate.ensures.value in
    let home = c.self.invariant.homes g before at in
    let log : before.log ≡ gate_log_at c.args.self.now g = sym (image-at log_of_gate gates g before at []) ∙ ap (λ (v : GateTable). gate_log_at v g) c.self.view_is in
    if_ok_map c.stamp_at.result _ _
    (λ (stamp : Stamp) so.
    subst (λ (l : List GateEntry). ForSome c.args.last (λ (heard : Stamp). IsTrue (counts_no_more g (clock_of g l) heard.clock) → IsTrue (stamp_before heard stamp))) log
    (subst (λ (h : ℕ). ForSome c.args.last (λ (heard : Stamp). IsTrue (counts_no_more h (clock_of h before.log) heard.clock) → IsTrue (stamp_before heard stamp))) home so))
    c.stamp_at.ensures.after

pub returns-clause-entry : goal.returns-clause-entry
returns-clause-entry c =
    let gates = c.self.inside.gates.items in
    let shards = c.self.inside.shards in
    let g = c.args.gate in
    let before = c.index_mut-gate.result.now in
    let after = c.stamp_at.new.gate in
    let within = within-image log_of_gate gates g (subst (λ (v : GateTable). g < length v.logs) (sym c.self.view_is) c.requires) in
    let at = read-at gates g before within c.index_mut-gate.ensures.value in
    if_ok_map c.stamp_at.result _ _
    (λ (stamp : Stamp) adds. subst (λ (v : GateTable). AddsToGate v (table_of shards (slice_set gates g after)) g 0 (begin_deed c.args.request stamp c.args.work.now)) c.self.view_is
    (adds-at shards gates g before after within at 0 (begin_deed c.args.request stamp c.args.work.now) adds))
    c.stamp_at.ensures.entry

pub returns-clause-busy : goal.returns-clause-busy
returns-clause-busy c =
    let gates = c.self.inside.gates.items in
    let g = c.args.gate in
    let before = c.index_mut-gate.result.now in
    let within = within-image log_of_gate gates g (subst (λ (v : GateTable). g < length v.logs) (sym c.self.view_is) c.requires) in
    let at = read-at gates g before within c.index_mut-gate.ensures.value in
    let log : before.log ≡ gate_log_at c.args.self.now g = sym (image-at log_of_gate gates g before at []) ∙ ap (λ (v : GateTable). gate_log_at v g) c.self.view_is in
    subst (λ (l : List GateEntry). IsRefusedWhere Busy (is_change c.args.work.now && is_some (flight_of l)) c.stamp_at.result) log c.stamp_at.ensures.busy

pub returns-clause-refused : goal.returns-clause-refused
returns-clause-refused c =
    let gates = c.self.inside.gates.items in
    let g = c.args.gate in
    let before = c.index_mut-gate.result.now in
    let after = c.stamp_at.new.gate in
    let within = within-image log_of_gate gates g (subst (λ (v : GateTable). g < length v.logs) (sym c.self.view_is) c.requires) in
    let at = read-at gates g before within c.index_mut-gate.ensures.value in
    on_err_map c.stamp_at.result _ _ (λ (is : after ≡ before). table-rests c.self.inside.shards gates g before after within at (ap (λ (x : GateView). x.log) is) ∙ c.self.view_is) c.stamp_at.ensures.refused
