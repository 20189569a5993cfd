use Rattle.std.proofs.Common.{◌≡◌, ℕ, List, refl, sym, subst}
use Rattle.std.specs.Prelude.{IfOk, is_some}
use Rattle.vector_stamp.specs.declared.clock.Stamp.{Stamp}
use Rattle.weave_entries.specs.declared.gate_log.GateDeed.TheVariants.{BeganTx}
use Rattle.weave_entries.specs.declared.gate_log.GateEntry.{GateEntry}
use Rattle.weave_entries.specs.GateReplay.{begun_stamp, clock_of, flight_of}
use Rattle.weave_account.specs.Clocks.{IsKnown}
use Rattle.gatekeeper.specs.declared.fault.GateFault.TheVariants.{Busy}
use Rattle.gatekeeper.specs.Answers.{IsRefusedWhere}
use Rattle.gate_lock.specs.declared.noted_gate.NotedGate.{NotedGate}
use Rattle.gate_lock.specs.Notes.{seen_of_gate}
use Rattle.weaver_locks.specs.GateHolds.{gate_entries_of}
use Rattle.weaver_locks.proofs.Calling.{as_found, found_as, hears_no_more, known_after, known_there, one_more}
use Rattle.weaver_locks.proofs.shared.Shared.begin_tx.Goals as goal

pub begin_tx-begun-requires : goal.begin_tx-begun-requires
begin_tx-begun-requires g c heard is =
    subst (λ (n : NotedGate). IsKnown (seen_of_gate n.gate n.notes) heard.clock) (sym c.state.ensures.value)
    (known_there c.gates_keep_their_laws.ensures c.args.self.now c.args.hand.now c.enter_gate-held.result.machine c.enter_gate-held.ensures.kept
    c.enter_gate-held.ensures.within heard.clock (c.requires.last heard is))

pub leave_gate-requires-clause-inside : goal.leave_gate-requires-clause-inside
leave_gate-requires-clause-inside g c =
    let shared = c.args.self.now in
    let old = c.args.hand.now in
    let deed = λ (stamp : Stamp). BeganTx c.args.request stamp in
    let begun = c.begin_tx-begun in (
      old,
      c.enter_gate-held.result.machine.gate.log,
      gate_entries_of old deed begun.result,
      c.requires.hand,
      one_more shared old c.enter_gate-held.new.hand c.args.gate c.enter_gate-held.result _ c.state.result.now refl refl c.state.ensures.value
          c.enter_gate-held.ensures.inside c.number-author.result deed begun.result c.number-author.ensures begun.ensures.notes begun.ensures.entry
          begun.ensures.refused,
    )

pub returns-clause-hand : goal.returns-clause-hand
returns-clause-hand g c =
    let shared = c.args.self.now in
    let old = c.args.hand.now in
    let deed = λ (stamp : Stamp). BeganTx c.args.request stamp in
    let begun = c.begin_tx-begun in
    c.leave_gate.ensures.hand old c.enter_gate-held.result.machine.gate.log (gate_entries_of old deed begun.result) c.requires.hand
    (one_more shared old c.enter_gate-held.new.hand c.args.gate c.enter_gate-held.result _ c.state.result.now refl refl c.state.ensures.value
    c.enter_gate-held.ensures.inside c.number-author.result deed begun.result c.number-author.ensures begun.ensures.notes begun.ensures.entry
    begun.ensures.refused)

pub returns-clause-hold : goal.returns-clause-hold
returns-clause-hold g c =
    let shared = c.args.self.now in
    let old = c.args.hand.now in
    let deed = λ (stamp : Stamp). BeganTx c.args.request stamp in
    let begun = c.begin_tx-begun in
    let before = c.enter_gate-held.result.machine.gate.log in
    let found = found_as shared old c.enter_gate-held.new.hand c.args.gate c.enter_gate-held.result c.state.result.now c.state.ensures.value
    c.enter_gate-held.ensures.inside in (
      before,
      c.leave_gate.ensures.was old before (gate_entries_of old deed begun.result) c.requires.hand
          (one_more shared old c.enter_gate-held.new.hand c.args.gate c.enter_gate-held.result _ c.state.result.now refl refl
          c.state.ensures.value c.enter_gate-held.ensures.inside c.number-author.result deed begun.result c.number-author.ensures
          begun.ensures.notes begun.ensures.entry begun.ensures.refused),
      as_found (λ (h : ℕ) (l : List GateEntry). IfOk begun.result (λ (stamp : Stamp). stamp ≡ begun_stamp h (clock_of h l) c.args.last))
          c.state.result.now c.args.gate _ before found begun.ensures.stamp,
      as_found (λ (h : ℕ) (l : List GateEntry). IsRefusedWhere Busy (is_some (flight_of l)) begun.result)
          c.state.result.now c.args.gate _ before found begun.ensures.busy,
      hears_no_more c.gates_keep_their_laws.ensures shared old c.enter_gate-held.new.hand c.args.gate c.enter_gate-held.result c.requires.gate
          c.enter_gate-held.ensures.inside c.enter_gate-held.ensures.kept c.enter_gate-held.ensures.within c.args.last c.requires.last,
    )

pub returns-clause-known : goal.returns-clause-known
returns-clause-known g c =
    let shared = c.args.self.now in
    let old = c.args.hand.now in
    let deed = λ (stamp : Stamp). BeganTx c.args.request stamp in
    let begun = c.begin_tx-begun in
    known_after c.leave_gate.new.hand begun.new.self begun.result (λ (stamp : Stamp). stamp.clock)
    (c.leave_gate.ensures.seen old c.enter_gate-held.result.machine.gate.log (gate_entries_of old deed begun.result) c.requires.hand
    (one_more shared old c.enter_gate-held.new.hand c.args.gate c.enter_gate-held.result _ c.state.result.now refl refl c.state.ensures.value
    c.enter_gate-held.ensures.inside c.number-author.result deed begun.result c.number-author.ensures begun.ensures.notes begun.ensures.entry
    begun.ensures.refused)) begun.ensures.known
