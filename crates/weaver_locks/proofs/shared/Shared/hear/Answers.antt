use Rattle.std.proofs.Common.{refl, sym, subst}
use Rattle.weave_entries.specs.declared.gate_log.GateDeed.TheVariants.{Heard}
use Rattle.weave_account.specs.Clocks.{IsKnown}
use Rattle.gate_lock.specs.declared.noted_gate.NotedGate.{NotedGate}
use Rattle.gate_lock.specs.Notes.{seen_of_gate}
use Rattle.weaver_locks.specs.GateHolds.{gate_entries_of}
use Rattle.weaver_locks.proofs.Calling.{known_there, on_ok, one_more}
use Rattle.weaver_locks.proofs.shared.Shared.hear.Goals as goal

pub hear-heard-requires : goal.hear-heard-requires
hear-heard-requires g c =
    subst (λ (n : NotedGate). IsKnown (seen_of_gate n.gate n.notes) c.args.clock.now) (sym c.state.ensures.value)
    (known_there c.gates_keep_their_laws.ensures c.args.self.now c.args.hand.now c.enter_gate-held.result.machine c.enter_gate-held.ensures.kept
    c.enter_gate-held.ensures.within c.args.clock.now c.requires.clock)

pub leave_gate-requires-clause-inside : goal.leave_gate-requires-clause-inside
leave_gate-requires-clause-inside g c =
    let shared = c.args.self.now in
    let old = c.args.hand.now in
    let call = c.hear-heard in
    let before = c.enter_gate-held.result.machine.gate.log in
    let deed = λ (answer : Unit {0}). Heard c.args.clock.now in (
      old,
      before,
      gate_entries_of old deed call.result,
      c.requires.hand,
      one_more shared old c.enter_gate-held.new.hand c.args.gate c.enter_gate-held.result _ c.state.result.now refl refl c.state.ensures.value
          c.enter_gate-held.ensures.inside c.number-author.result deed call.result c.number-author.ensures call.ensures.notes
          (on_ok _ call.result call.ensures.entry)
          call.ensures.refused,
    )

pub returns-clause-hand : goal.returns-clause-hand
returns-clause-hand g c =
    let shared = c.args.self.now in
    let old = c.args.hand.now in
    let call = c.hear-heard in
    let before = c.enter_gate-held.result.machine.gate.log in
    let deed = λ (answer : Unit {0}). Heard c.args.clock.now in
    c.leave_gate.ensures.hand old before (gate_entries_of old deed call.result) c.requires.hand
    (one_more shared old c.enter_gate-held.new.hand c.args.gate c.enter_gate-held.result _ c.state.result.now refl refl c.state.ensures.value
    c.enter_gate-held.ensures.inside c.number-author.result deed call.result c.number-author.ensures call.ensures.notes
    (on_ok _ call.result call.ensures.entry)
    call.ensures.refused)

pub returns-clause-hold : goal.returns-clause-hold
returns-clause-hold g c =
    let shared = c.args.self.now in
    let old = c.args.hand.now in
    let call = c.hear-heard in
    let before = c.enter_gate-held.result.machine.gate.log in
    let deed = λ (answer : Unit {0}). Heard c.args.clock.now in
    let was = c.leave_gate.ensures.was old before (gate_entries_of old deed call.result) c.requires.hand
    (one_more shared old c.enter_gate-held.new.hand c.args.gate c.enter_gate-held.result _ c.state.result.now refl refl c.state.ensures.value
    c.enter_gate-held.ensures.inside c.number-author.result deed call.result c.number-author.ensures call.ensures.notes
    (on_ok _ call.result call.ensures.entry)
    call.ensures.refused) in
    (before, was)
