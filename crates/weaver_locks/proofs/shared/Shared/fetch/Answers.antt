use Rattle.std.proofs.Common.{◌≡◌, ℕ, List, [], refl}
use Rattle.std.specs.Prelude.{IfOk, Option}
use Rattle.shard_queue.specs.Outbox.{sent_as}
use Rattle.weave_entries.specs.declared.gate_log.GateEntry.{GateEntry}
use Rattle.weave_entries.specs.declared.message.Message.{Message}
use Rattle.weave_entries.specs.GateReplay.{channel_of}
use Rattle.weaver_locks.proofs.Calling.{as_found, found_as, may_arrive, no_more}
use Rattle.weaver_locks.proofs.shared.Shared.fetch.Goals as goal

pub leave_gate-requires-clause-inside : goal.leave_gate-requires-clause-inside
leave_gate-requires-clause-inside g c =
    let shared = c.args.self.now in
    let old = c.args.hand.now in
    let call = c.fetch-found in
    let before = c.enter_gate-held.result.machine.gate.log in (
      old,
      before,
      [],
      c.requires.hand,
      no_more shared old c.enter_gate-held.new.hand c.args.gate c.enter_gate-held.result _ c.state.result.now refl refl c.state.ensures.value
          c.enter_gate-held.ensures.inside refl,
    )

pub returns-clause-hand : goal.returns-clause-hand
returns-clause-hand g c =
    let shared = c.args.self.now in
    let old = c.args.hand.now in
    let call = c.fetch-found in
    let before = c.enter_gate-held.result.machine.gate.log in
    c.leave_gate.ensures.hand old before [] c.requires.hand
    (no_more shared old c.enter_gate-held.new.hand c.args.gate c.enter_gate-held.result _ c.state.result.now refl refl c.state.ensures.value
    c.enter_gate-held.ensures.inside refl)

pub returns-clause-hold : goal.returns-clause-hold
returns-clause-hold g c =
    let shared = c.args.self.now in
    let old = c.args.hand.now in
    let call = c.fetch-found in
    let before = c.enter_gate-held.result.machine.gate.log in
    let found = found_as shared old c.enter_gate-held.new.hand c.args.gate c.enter_gate-held.result c.state.result.now c.state.ensures.value
    c.enter_gate-held.ensures.inside in
    let was = c.leave_gate.ensures.was old before [] c.requires.hand
    (no_more shared old c.enter_gate-held.new.hand c.args.gate c.enter_gate-held.result _ c.state.result.now refl refl c.state.ensures.value
    c.enter_gate-held.ensures.inside refl) in (
      before,
      was,
      as_found (λ (h : ℕ) (l : List GateEntry). IfOk call.result (λ (message : Option Message).
          message ≡ sent_as c.args.number (channel_of c.args.shard l))) c.state.result.now c.args.gate _ before found call.ensures.message,
    )

pub returns-clause-seen : goal.returns-clause-seen
returns-clause-seen g c =
    let shared = c.args.self.now in
    let old = c.args.hand.now in
    let call = c.fetch-found in
    let before = c.enter_gate-held.result.machine.gate.log in
    let found = found_as shared old c.enter_gate-held.new.hand c.args.gate c.enter_gate-held.result c.state.result.now c.state.ensures.value
    c.enter_gate-held.ensures.inside in
    let same = c.leave_gate.ensures.seen old before [] c.requires.hand
    (no_more shared old c.enter_gate-held.new.hand c.args.gate c.enter_gate-held.result _ c.state.result.now refl refl c.state.ensures.value
    c.enter_gate-held.ensures.inside refl) in
    let was = c.leave_gate.ensures.was old before [] c.requires.hand
    (no_more shared old c.enter_gate-held.new.hand c.args.gate c.enter_gate-held.result _ c.state.result.now refl refl c.state.ensures.value
    c.enter_gate-held.ensures.inside refl) in
    may_arrive c.leave_gate.new.hand c.state.result.now c.args.gate _ c.args.shard c.args.number before found call.result was.left same
    call.ensures.sent call.ensures.made
