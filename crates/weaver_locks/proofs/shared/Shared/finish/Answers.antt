use Rattle.std.proofs.Common.{ℕ, List, refl, sym, subst}
use Rattle.std.specs.Prelude.{not}
use Rattle.std.specs.List.{list_any}
use Rattle.weave_entries.specs.declared.gate_log.GateDeed.TheVariants.{Finished}
use Rattle.weave_entries.specs.declared.gate_log.GateEntry.{GateEntry}
use Rattle.weave_entries.specs.GateReplay.{is_begun, running_of}
use Rattle.gatekeeper.specs.declared.fault.GateFault.TheVariants.{Idle}
use Rattle.gatekeeper.specs.Answers.{IsRefusedWhere}
use Rattle.seen_logs.specs.References.{EndsAsSeen}
use Rattle.gate_lock.specs.declared.noted_gate.NotedGate.{NotedGate}
use Rattle.gate_lock.specs.Notes.{seen_of_gate}
use Rattle.weaver_locks.specs.GateHolds.{gate_entries_of}
use Rattle.weaver_locks.proofs.Calling.{as_found, ends_there, found_as, on_ok, one_more}
use Rattle.weaver_locks.proofs.shared.Shared.finish.Goals as goal

pub finish-finished-requires : goal.finish-finished-requires
finish-finished-requires g c =
    subst (λ (n : NotedGate). EndsAsSeen (seen_of_gate n.gate n.notes) c.args.request) (sym c.state.ensures.value)
    (ends_there c.gates_keep_their_laws.ensures c.args.hand.now c.enter_gate-held.result.machine c.enter_gate-held.ensures.kept
    c.enter_gate-held.ensures.within c.args.request c.requires.visits)

pub leave_gate-requires-clause-inside : goal.leave_gate-requires-clause-inside
leave_gate-requires-clause-inside g c =
    let shared = c.args.self.now in
    let old = c.args.hand.now in
    let call = c.finish-finished in
    let before = c.enter_gate-held.result.machine.gate.log in
    let deed = λ (answer : Unit {0}). Finished c.args.request in (
      old,
      before,
      gate_entries_of old deed call.result,
      c.requires.hand,
      one_more shared old c.enter_gate-held.new.hand c.args.gate c.enter_gate-held.result _ c.state.result.now refl refl c.state.ensures.value
          c.enter_gate-held.ensures.inside c.number-author.result deed call.result c.number-author.ensures call.ensures.notes
          (on_ok _ call.result call.ensures.entry)
          call.ensures.refused,
    )

pub returns-clause-hand : goal.returns-clause-hand
returns-clause-hand g c =
    let shared = c.args.self.now in
    let old = c.args.hand.now in
    let call = c.finish-finished in
    let before = c.enter_gate-held.result.machine.gate.log in
    let deed = λ (answer : Unit {0}). Finished c.args.request in
    c.leave_gate.ensures.hand old before (gate_entries_of old deed call.result) c.requires.hand
    (one_more shared old c.enter_gate-held.new.hand c.args.gate c.enter_gate-held.result _ c.state.result.now refl refl c.state.ensures.value
    c.enter_gate-held.ensures.inside c.number-author.result deed call.result c.number-author.ensures call.ensures.notes
    (on_ok _ call.result call.ensures.entry)
    call.ensures.refused)

pub returns-clause-hold : goal.returns-clause-hold
returns-clause-hold g c =
    let shared = c.args.self.now in
    let old = c.args.hand.now in
    let call = c.finish-finished in
    let before = c.enter_gate-held.result.machine.gate.log in
    let deed = λ (answer : Unit {0}). Finished c.args.request in
    let was = c.leave_gate.ensures.was old before (gate_entries_of old deed call.result) c.requires.hand
    (one_more shared old c.enter_gate-held.new.hand c.args.gate c.enter_gate-held.result _ c.state.result.now refl refl c.state.ensures.value
    c.enter_gate-held.ensures.inside c.number-author.result deed call.result c.number-author.ensures call.ensures.notes
    (on_ok _ call.result call.ensures.entry)
    call.ensures.refused) in (
      before,
      was,
      subst (λ (n : ℕ). IsRefusedWhere Idle (not (list_any (is_begun n c.args.request) (running_of before))) call.result)
          c.number-author.ensures (as_found (λ (h : ℕ) (l : List GateEntry).
          IsRefusedWhere Idle (not (list_any (is_begun c.number-author.result c.args.request) (running_of l))) call.result)
          c.state.result.now c.args.gate _ before
          (found_as shared old c.enter_gate-held.new.hand c.args.gate c.enter_gate-held.result c.state.result.now c.state.ensures.value
          c.enter_gate-held.ensures.inside) call.ensures.idle),
    )
