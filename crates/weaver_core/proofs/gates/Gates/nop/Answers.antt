use Rattle.std.proofs.Common.{◌≡◌, ◌<◌, [], length, sym, ap, subst, ◌∙◌}
use Rattle.std.specs.Prelude.{is_some, slice_set}
use Rattle.weave_data.proofs.Results.{on_ok_map, on_err_map}
use Rattle.gatekeeper.specs.Answers.{IsRefusedWhere}
use Rattle.gatekeeper.specs.Gates.{Adds, GateView}
use Rattle.gatekeeper.specs.declared.fault.GateFault.TheVariants.{Busy}
use Rattle.weave_entries.specs.declared.gate_log.GateDeed.{GateDeed}
use Rattle.weave_entries.specs.GateReplay.{flight_of}
use Rattle.weaver_core.specs.GateTable.{AddsToGate, GateTable, gate_log_at, log_of_gate}
use Rattle.weaver_core.specs.Messages.{nop_deed}
use Rattle.weaver_core.proofs.AtGates.{adds-at, in-order-after, in-order-still, table-rests, table_of, unchanged}
use Rattle.weaver_core.proofs.Results.{on_either}
use Rattle.weaver_core.proofs.Tables.{image-at, read-at, within-image}
use Rattle.weaver_core.proofs.gates.Gates.nop.Goals as goal

-- the gatekeeper has channels to the shards of the table
pub nop_at-requires : goal.nop_at-requires
nop_at-requires c =
    let gates = c.self.inside.gates.items in
    let g = c.args.gate in
    let before = c.index_mut-gate.result.now in
    let within = within-image log_of_gate gates g (subst (λ (v : GateTable). g < length v.logs) (sym c.self.view_is) c.requires.there) in
    let at = read-at gates g before within c.index_mut-gate.ensures.value in
    subst (λ n. c.args.shard < n) (sym (ap (λ (v : GateTable). v.shards) c.self.view_is) ∙ sym (c.self.invariant.each_shards g before at)) c.requires.shard

pub invariant_of-self : goal.invariant_of-self
invariant_of-self c =
    let gates = c.self.inside.gates.items in
    let g = c.args.gate in
    let before = c.index_mut-gate.result.now in
    let after = c.nop_at.new.gate in
    let within = within-image log_of_gate gates g (subst (λ (v : GateTable). g < length v.logs) (sym c.self.view_is) c.requires.there) in
    let at = read-at gates g before within c.index_mut-gate.ensures.value in
    let deed = nop_deed before.home c.args.shard before.log in
    on_either c.nop_at.result (Adds before after 0 deed) (after ≡ before) _
    (λ adds. in-order-after c.self.inside.shards gates g before after within at 0 deed c.self.invariant adds)
    (λ is. in-order-still c.self.inside.shards gates g before after within at c.self.invariant (unchanged before after is))
    c.nop_at.ensures.entry c.nop_at.ensures.refused

pub returns-clause-entry : goal.returns-clause-entry
returns-clause-entry c =
    let gates = c.self.inside.gates.items in
    let shards = c.self.inside.shards in
    let g = c.args.gate in
    let before = c.index_mut-gate.result.now in
    let after = c.nop_at.new.gate in
    let within = within-image log_of_gate gates g (subst (λ (v : GateTable). g < length v.logs) (sym c.self.view_is) c.requires.there) in
    let at = read-at gates g before within c.index_mut-gate.ensures.value in
    let home = c.self.invariant.homes g before at in
    let log : before.log ≡ gate_log_at (table_of shards gates) g = sym (image-at log_of_gate gates g before at []) in
    let deed : nop_deed before.home c.args.shard before.log ≡ nop_deed g c.args.shard (gate_log_at (table_of shards gates) g) = λ i. nop_deed (home i) c.args.shard (log i) in
    on_ok_map c.nop_at.result (Adds before after 0 (nop_deed before.home c.args.shard before.log)) _
    (λ adds. subst (λ (v : GateTable). AddsToGate v (table_of shards (slice_set gates g after)) g 0 (nop_deed g c.args.shard (gate_log_at v g))) c.self.view_is
    (adds-at shards gates g before after within at 0 _ (subst (λ (d : GateDeed). Adds before after 0 d) deed adds)))
    c.nop_at.ensures.entry

pub returns-clause-busy : goal.returns-clause-busy
returns-clause-busy c =
    let gates = c.self.inside.gates.items in
    let g = c.args.gate in
    let before = c.index_mut-gate.result.now in
    let within = within-image log_of_gate gates g (subst (λ (v : GateTable). g < length v.logs) (sym c.self.view_is) c.requires.there) in
    let at = read-at gates g before within c.index_mut-gate.ensures.value in
    let log : before.log ≡ gate_log_at c.args.self.now g = sym (image-at log_of_gate gates g before at []) ∙ ap (λ (v : GateTable). gate_log_at v g) c.self.view_is in
    subst (λ l. IsRefusedWhere Busy (is_some (flight_of l)) c.nop_at.result) log c.nop_at.ensures.busy

pub returns-clause-refused : goal.returns-clause-refused
returns-clause-refused c =
    let gates = c.self.inside.gates.items in
    let g = c.args.gate in
    let before = c.index_mut-gate.result.now in
    let after = c.nop_at.new.gate in
    let within = within-image log_of_gate gates g (subst (λ (v : GateTable). g < length v.logs) (sym c.self.view_is) c.requires.there) in
    let at = read-at gates g before within c.index_mut-gate.ensures.value in
    on_err_map c.nop_at.result (after ≡ before) _ (λ is. table-rests c.self.inside.shards gates g before after within at (ap (λ (x : GateView). x.log) is) ∙ c.self.view_is) c.nop_at.ensures.refused
