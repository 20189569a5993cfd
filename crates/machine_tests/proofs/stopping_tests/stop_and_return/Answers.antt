use Rattle.std.proofs.Common.{List, [], ◌∷◌, Some, sym, ap, subst, ◌∙◌}
use Rattle.weave_entries.specs.declared.gate_log.GateEntry.{GateEntry}
use Rattle.gatekeeper.specs.Gates.{GateView}
use Rattle.gatekeeper.specs.Stopping.{AreLeftOpen}
use Rattle.gatekeeper.specs.declared.stopping.Open.{Open}
use Rattle.machine_tests.proofs.LeftOpen.{left-open}
use Rattle.machine_tests.proofs.stopping_tests.stop_and_return.Goals as goal

pub returned-requires-clause-left : goal.returned-requires-clause-left
returned-requires-clause-left g c =
    let begun = c.args.begun in
    let log = ap (λ (gate : GateView). gate.log) c.stop.ensures ∙ (rw c.expect.ensures at c.reserve.ensures.room).log ∙ c.requires in
    let running = rw c.expect-running.ensures at c.from_array.ensures in
    let given : List Open = record { request = 2; stamp = begun.second } ∷ record { request = 1; stamp = begun.first } ∷ [] in
    subst (λ (opens : List Open). AreLeftOpen (Some 3) opens c.stop.result.log) (sym running.items)
    (subst (λ (entries : List GateEntry). AreLeftOpen (Some 3) given entries) (sym log) (left-open begun.first begun.finished begun.second begun.flight))
