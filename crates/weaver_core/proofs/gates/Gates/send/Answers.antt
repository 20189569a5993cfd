use Rattle.std.proofs.Common.{◌≡◌, ◌<◌, [], List, Some, length, sym, ap, subst, ◌∙◌}
use Rattle.std.specs.Prelude.{slice_set}
use Rattle.std.specs.Option.{ForSome}
use Rattle.weave_data.proofs.Results.{on_ok_map, on_err_map}
use Rattle.gatekeeper.specs.Gates.{GateView, SendsFlight}
use Rattle.weave_entries.specs.declared.gate_log.GateEntry.{GateEntry}
use Rattle.weave_entries.specs.declared.gate_log.GateDeed.TheVariants.{Sent}
use Rattle.weave_entries.specs.GateReplay.{BegunRequest, flight_of}
use Rattle.weave_entries.specs.Sending.{messages_of}
use Rattle.weaver_core.specs.GateTable.{AddsToGate, GateTable, gate_log_at, log_of_gate}
use Rattle.weaver_core.proofs.AtGates.{in-order-after, in-order-still, sends-at, table-rests, table_of, unchanged}
use Rattle.weaver_core.proofs.Results.{on_either}
use Rattle.weaver_core.proofs.Tables.{image-at, read-at, within-image}
use Rattle.weaver_core.proofs.gates.Gates.send.Goals as goal

pub send_at-requires-clause-author : goal.send_at-requires-clause-author
send_at-requires-clause-author c =
    let gates = c.self.inside.gates.items in
    let g = c.args.gate in
    let before = c.index_mut-gate.result.now in
    let within = within-image log_of_gate gates g (subst (λ (v : GateTable). g < length v.logs) (sym c.self.view_is) c.requires.there) in
    let at = read-at gates g before within c.index_mut-gate.ensures.value in
    let log : before.log ≡ gate_log_at c.args.self.now g = sym (image-at log_of_gate gates g before at []) ∙ ap (λ (v : GateTable). gate_log_at v g) c.self.view_is in
    subst (λ (l : List GateEntry). ForSome (flight_of l) (λ (flight : BegunRequest). flight.author ≡ c.args.author)) (sym log) c.requires.author

pub invariant_of-self : goal.invariant_of-self
invariant_of-self c =
    let gates = c.self.inside.gates.items in
    let g = c.args.gate in
    let before = c.index_mut-gate.result.now in
    let after = c.send_at.new.gate in
    let within = within-image log_of_gate gates g (subst (λ (v : GateTable). g < length v.logs) (sym c.self.view_is) c.requires.there) in
    let at = read-at gates g before within c.index_mut-gate.ensures.value in
    on_either c.send_at.result (SendsFlight before after c.args.author c.args.ops.now c.args.verdict.now) (after ≡ before) _
    (λ sends. in-order-after c.self.inside.shards gates g before after within at c.args.author _ c.self.invariant sends.adds)
    (λ is. in-order-still c.self.inside.shards gates g before after within at c.self.invariant (unchanged before after is))
    c.send_at.ensures.entry c.send_at.ensures.refused

pub returns-clause-entry : goal.returns-clause-entry
returns-clause-entry c =
    let gates = c.self.inside.gates.items in
    let shards = c.self.inside.shards in
    let g = c.args.gate in
    let before = c.index_mut-gate.result.now in
    let after = c.send_at.new.gate in
    let within = within-image log_of_gate gates g (subst (λ (v : GateTable). g < length v.logs) (sym c.self.view_is) c.requires.there) in
    let at = read-at gates g before within c.index_mut-gate.ensures.value in
    on_ok_map c.send_at.result (SendsFlight before after c.args.author c.args.ops.now c.args.verdict.now) _
    (λ sends. subst (λ (v : GateTable). (flight : BegunRequest) → flight_of (gate_log_at v g) ≡ Some flight
    → AddsToGate v (table_of shards (slice_set gates g after)) g c.args.author (Sent flight.request (messages_of v.shards (gate_log_at v g) flight c.args.ops.now c.args.verdict.now))) c.self.view_is
    (sends-at shards gates g before after within at c.self.invariant c.args.author c.args.ops.now c.args.verdict.now sends))
    c.send_at.ensures.entry

pub returns-clause-refused : goal.returns-clause-refused
returns-clause-refused c =
    let gates = c.self.inside.gates.items in
    let g = c.args.gate in
    let before = c.index_mut-gate.result.now in
    let after = c.send_at.new.gate in
    let within = within-image log_of_gate gates g (subst (λ (v : GateTable). g < length v.logs) (sym c.self.view_is) c.requires.there) in
    let at = read-at gates g before within c.index_mut-gate.ensures.value in
    on_err_map c.send_at.result (after ≡ before) _ (λ is. table-rests c.self.inside.shards gates g before after within at (ap (λ (x : GateView). x.log) is) ∙ c.self.view_is) c.send_at.ensures.refused
