use Rattle.std.proofs.Common.{◌≡◌, ℕ, [], map, IsTrue, None, sym, ap, subst, ◌∙◌}
use Rattle.std.specs.Prelude.{◌↔◌, slice_index_or}
use Rattle.std.specs.List.{list_all}
use Rattle.weave_entries.specs.GateReplay.{flight_of}
use Rattle.weaver_core.specs.GateTable.{GateTable, has_landed, gate_log_at, log_of_gate}
use Rattle.weaver_core.proofs.Landed.{all-landed}
use Rattle.weaver_core.proofs.gates.Gates.none_in_flight.Goals as goal

pub returns : goal.returns
returns c =
    let gates = c.self.inside.gates.items in
    subst (λ (v : GateTable). IsTrue c.none_in_flight.result ↔ ((gate : ℕ) → flight_of (gate_log_at v gate) ≡ None)) c.self.view_is
    (subst (λ b. IsTrue b ↔ ((gate : ℕ) → flight_of (slice_index_or (map log_of_gate gates) gate []) ≡ None)) (sym (c.none_in_flight.ensures ∙ ap (list_all has_landed) c.as_slice.ensures.value)) (all-landed gates))
