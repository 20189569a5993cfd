use Rattle.std.proofs.Common.{◌≡◌, ◌<◌, [], length, get_or, sym, ap, subst, ◌∙◌}
use Rattle.weaver_core.specs.GateTable.{GateTable, gate_log_at, log_of_gate}
use Rattle.weaver_core.specs.Restarting.{was_ended}
use Rattle.weaver_core.proofs.Tables.{image-at, read-at, within-image}
use Rattle.weaver_core.proofs.gates.Gates.was_ended.Goals as goal

pub returns : goal.returns
returns c =
    let gates = c.self.inside.gates.items in
    let g = c.args.gate in
    let gate = c.index.result.now in
    let within = within-image log_of_gate gates g (subst (λ (v : GateTable). g < length v.logs) (sym c.self.view_is) c.requires) in
    let value : gate ≡ get_or gates g gate = c.index.ensures in
    let at = read-at gates g gate within value in
    c.was_ended_in.ensures ∙ ap (was_ended c.args.request) (c.log.ensures.log ∙ sym (image-at log_of_gate gates g gate at []) ∙ ap (λ (v : GateTable). gate_log_at v g) c.self.view_is)
