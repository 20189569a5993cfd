use Rattle.std.proofs.Common.{◌≡◌, ℕ, List, [], refl, subst}
use Rattle.weave_entries.specs.declared.gate_log.GateEntry.{GateEntry}
use Rattle.weave_entries.specs.GateReplay.{clock_of}
use Rattle.weave_account.specs.declared.account.Account.{Account}
use Rattle.weave_account.specs.Clocks.{IsKnown}
use Rattle.weaver_locks.specs.Hands.{seen_by}
use Rattle.weaver_locks.proofs.Calling.{as_found, found_as, known_with, no_more}
use Rattle.weaver_locks.proofs.shared.Shared.say.Goals as goal

pub leave_gate-requires-clause-inside : goal.leave_gate-requires-clause-inside
leave_gate-requires-clause-inside g c =
    let shared = c.args.self.now in
    let old = c.args.hand.now in
    let call = c.say-clock in
    let before = c.enter_gate-held.result.machine.gate.log in (
      old,
      before,
      [],
      c.requires.hand,
      no_more shared old c.enter_gate-held.new.hand c.args.gate c.enter_gate-held.result _ c.state.result.now refl refl c.state.ensures.value
          c.enter_gate-held.ensures.inside refl,
    )

pub returns-clause-hand : goal.returns-clause-hand
returns-clause-hand g c =
    let shared = c.args.self.now in
    let old = c.args.hand.now in
    let call = c.say-clock in
    let before = c.enter_gate-held.result.machine.gate.log in
    c.leave_gate.ensures.hand old before [] c.requires.hand
    (no_more shared old c.enter_gate-held.new.hand c.args.gate c.enter_gate-held.result _ c.state.result.now refl refl c.state.ensures.value
    c.enter_gate-held.ensures.inside refl)

pub returns-clause-hold : goal.returns-clause-hold
returns-clause-hold g c =
    let shared = c.args.self.now in
    let old = c.args.hand.now in
    let call = c.say-clock in
    let before = c.enter_gate-held.result.machine.gate.log in
    let found = found_as shared old c.enter_gate-held.new.hand c.args.gate c.enter_gate-held.result c.state.result.now c.state.ensures.value
    c.enter_gate-held.ensures.inside in
    let was = c.leave_gate.ensures.was old before [] c.requires.hand
    (no_more shared old c.enter_gate-held.new.hand c.args.gate c.enter_gate-held.result _ c.state.result.now refl refl c.state.ensures.value
    c.enter_gate-held.ensures.inside refl) in (
      before,
      was,
      as_found (λ (h : ℕ) (l : List GateEntry). call.result ≡ clock_of h l) c.state.result.now c.args.gate _ before found
          call.ensures.clock,
    )

pub returns-clause-known : goal.returns-clause-known
returns-clause-known g c =
    let shared = c.args.self.now in
    let old = c.args.hand.now in
    let call = c.say-clock in
    let before = c.enter_gate-held.result.machine.gate.log in
    let same = c.leave_gate.ensures.seen old before [] c.requires.hand
    (no_more shared old c.enter_gate-held.new.hand c.args.gate c.enter_gate-held.result _ c.state.result.now refl refl c.state.ensures.value
    c.enter_gate-held.ensures.inside refl) in
    known_with (seen_by c.leave_gate.new.hand) call.result (subst (λ (a : Account). IsKnown a call.result) same call.ensures.known)
