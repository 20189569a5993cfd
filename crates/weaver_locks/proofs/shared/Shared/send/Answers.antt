use Rattle.std.proofs.Common.{◌≡◌, refl, sym, ap, ◌∙◌, subst, length}
use Rattle.std.specs.Prelude.{OnErr, OnOk, is_none}
use Rattle.std.specs.Option.{ForSome}
use Rattle.weave_entries.specs.declared.gate_log.GateDeed.TheVariants.{Sent}
use Rattle.weave_entries.specs.GateReplay.{BegunRequest, flight_of}
use Rattle.weave_entries.specs.Sending.{IsCountsOf, messages_of}
use Rattle.gatekeeper.specs.declared.fault.GateFault.TheVariants.{Idle}
use Rattle.gatekeeper.specs.Answers.{IsRefusedWhere}
use Rattle.gatekeeper.specs.Gates.{SendsFlight}
use Rattle.gate_lock.specs.declared.noted_gate.NotedGate.{NotedGate}
use Rattle.gate_lock.specs.Notes.{HasJudged, seen_of_gate}
use Rattle.weaver_locks.proofs.Sending.{flies_there, never_idle, sends_counted, sends_judged, sends_own, sent_as_flown}
use Rattle.weaver_locks.specs.GateHolds.{gate_entries_of}
use Rattle.weaver_locks.proofs.Calling.{one_more}
use Rattle.weaver_locks.proofs.shared.Shared.send.Goals as goal

pub send-sent-requires-clause-author : goal.send-sent-requires-clause-author
send-sent-requires-clause-author g c =
    let held = c.enter_gate-held in
    let m = held.result.machine in
    subst (λ (n : NotedGate). ForSome (flight_of n.gate.log) (λ (b : BegunRequest). b.author ≡ c.number-author.result))
    (sym c.state.ensures.value)
    (sends_own c.hands_keep_their_laws.ensures c.gates_keep_their_laws.ensures c.args.self.now c.args.hand.now c.args.gate c.requires.gate
    c.requires.hand m held.ensures.inside.machine.home held.ensures.inside.found held.ensures.kept held.ensures.within c.args.ops.now
    c.args.verdict.now c.requires.judged c.number-author.result c.number-author.ensures)

pub send-sent-requires-clause-counts : goal.send-sent-requires-clause-counts
send-sent-requires-clause-counts g c =
    let held = c.enter_gate-held in
    let m = held.result.machine in
    subst (λ (n : NotedGate). ForSome (flight_of n.gate.log) (λ (b : BegunRequest). IsCountsOf c.args.ops.now c.args.verdict.now))
    (sym c.state.ensures.value)
    (sends_counted c.hands_keep_their_laws.ensures c.gates_keep_their_laws.ensures c.args.self.now c.args.hand.now c.args.gate c.requires.gate
    c.requires.hand m held.ensures.inside.machine.home held.ensures.inside.found held.ensures.kept held.ensures.within c.args.ops.now
    c.args.verdict.now c.requires.judged)

pub send-sent-requires-clause-judged : goal.send-sent-requires-clause-judged
send-sent-requires-clause-judged g c =
    let held = c.enter_gate-held in
    let m = held.result.machine in
    subst (λ (n : NotedGate). ForSome (flight_of n.gate.log) (λ (b : BegunRequest). HasJudged (seen_of_gate n.gate n.notes) b c.args.ops.now c.args.verdict.now))
    (sym c.state.ensures.value)
    (sends_judged c.hands_keep_their_laws.ensures c.gates_keep_their_laws.ensures c.args.self.now c.args.hand.now c.args.gate c.requires.gate
    c.requires.hand m held.ensures.inside.machine.home held.ensures.inside.found held.ensures.kept held.ensures.within c.args.ops.now
    c.args.verdict.now c.requires.judged)

pub leave_gate-requires-clause-inside : goal.leave_gate-requires-clause-inside
leave_gate-requires-clause-inside g c =
    let shared = c.args.self.now in
    let old = c.args.hand.now in
    let call = c.send-sent in
    let before = c.enter_gate-held.result.machine.gate.log in
    let may = c.requires.judged in
    let held = c.enter_gate-held in
    let mine = held.result.machine in
    let deed = λ (answer : Unit {0}). Sent may.flight.request (messages_of (length shared.shards.items) before may.flight c.args.ops.now
    c.args.verdict.now) in
    let entry = sent_as_flown c.hands_keep_their_laws.ensures c.gates_keep_their_laws.ensures shared old c.args.gate c.requires.gate
    c.requires.hand mine held.ensures.inside.machine.home held.ensures.inside.found held.ensures.kept held.ensures.within c.args.ops.now
    c.args.verdict.now may c.number-author.result (length shared.shards.items) call.new.self.gate call.result held.ensures.inside.machine.shards
    (subst (λ (n : NotedGate). OnOk call.result (SendsFlight n.gate call.new.self.gate c.number-author.result c.args.ops.now c.args.verdict.now))
    c.state.ensures.value call.ensures.entry) in
    let refused = subst (λ (n : NotedGate). OnErr call.result (call.new.self.gate ≡ n.gate)) c.state.ensures.value call.ensures.refused in
    let notes = call.ensures.notes ∙ ap (λ (n : NotedGate). n.notes) c.state.ensures.value in (
      old,
      before,
      gate_entries_of old deed call.result,
      c.requires.hand,
      one_more shared old c.enter_gate-held.new.hand c.args.gate c.enter_gate-held.result _ c.enter_gate-held.result.machine refl refl refl
          c.enter_gate-held.ensures.inside c.number-author.result deed call.result c.number-author.ensures notes entry
          refused,
    )

pub returns-clause-hand : goal.returns-clause-hand
returns-clause-hand g c =
    let shared = c.args.self.now in
    let old = c.args.hand.now in
    let call = c.send-sent in
    let before = c.enter_gate-held.result.machine.gate.log in
    let may = c.requires.judged in
    let held = c.enter_gate-held in
    let mine = held.result.machine in
    let deed = λ (answer : Unit {0}). Sent may.flight.request (messages_of (length shared.shards.items) before may.flight c.args.ops.now
    c.args.verdict.now) in
    let entry = sent_as_flown c.hands_keep_their_laws.ensures c.gates_keep_their_laws.ensures shared old c.args.gate c.requires.gate
    c.requires.hand mine held.ensures.inside.machine.home held.ensures.inside.found held.ensures.kept held.ensures.within c.args.ops.now
    c.args.verdict.now may c.number-author.result (length shared.shards.items) call.new.self.gate call.result held.ensures.inside.machine.shards
    (subst (λ (n : NotedGate). OnOk call.result (SendsFlight n.gate call.new.self.gate c.number-author.result c.args.ops.now c.args.verdict.now))
    c.state.ensures.value call.ensures.entry) in
    let refused = subst (λ (n : NotedGate). OnErr call.result (call.new.self.gate ≡ n.gate)) c.state.ensures.value call.ensures.refused in
    let notes = call.ensures.notes ∙ ap (λ (n : NotedGate). n.notes) c.state.ensures.value in
    c.leave_gate.ensures.hand old before (gate_entries_of old deed call.result) c.requires.hand
    (one_more shared old c.enter_gate-held.new.hand c.args.gate c.enter_gate-held.result _ c.enter_gate-held.result.machine refl refl refl
    c.enter_gate-held.ensures.inside c.number-author.result deed call.result c.number-author.ensures notes entry
    refused)

pub returns-clause-hold : goal.returns-clause-hold
returns-clause-hold g c =
    let shared = c.args.self.now in
    let old = c.args.hand.now in
    let call = c.send-sent in
    let before = c.enter_gate-held.result.machine.gate.log in
    let may = c.requires.judged in
    let held = c.enter_gate-held in
    let mine = held.result.machine in
    let deed = λ (answer : Unit {0}). Sent may.flight.request (messages_of (length shared.shards.items) before may.flight c.args.ops.now
    c.args.verdict.now) in
    let entry = sent_as_flown c.hands_keep_their_laws.ensures c.gates_keep_their_laws.ensures shared old c.args.gate c.requires.gate
    c.requires.hand mine held.ensures.inside.machine.home held.ensures.inside.found held.ensures.kept held.ensures.within c.args.ops.now
    c.args.verdict.now may c.number-author.result (length shared.shards.items) call.new.self.gate call.result held.ensures.inside.machine.shards
    (subst (λ (n : NotedGate). OnOk call.result (SendsFlight n.gate call.new.self.gate c.number-author.result c.args.ops.now c.args.verdict.now))
    c.state.ensures.value call.ensures.entry) in
    let refused = subst (λ (n : NotedGate). OnErr call.result (call.new.self.gate ≡ n.gate)) c.state.ensures.value call.ensures.refused in
    let notes = call.ensures.notes ∙ ap (λ (n : NotedGate). n.notes) c.state.ensures.value in
    let was = c.leave_gate.ensures.was old before (gate_entries_of old deed call.result) c.requires.hand
    (one_more shared old c.enter_gate-held.new.hand c.args.gate c.enter_gate-held.result _ c.enter_gate-held.result.machine refl refl refl
    c.enter_gate-held.ensures.inside c.number-author.result deed call.result c.number-author.ensures notes entry
    refused) in (
      before,
      record {
        flight = may.flight;
        flies = flies_there c.hands_keep_their_laws.ensures c.gates_keep_their_laws.ensures shared old c.args.gate c.requires.gate c.requires.hand
            mine held.ensures.inside.machine.home held.ensures.inside.found held.ensures.kept held.ensures.within c.args.ops.now c.args.verdict.now
            may;
        as_seen = may.flies;
        own = may.own;
        was = was;
        never_idle = never_idle c.hands_keep_their_laws.ensures c.gates_keep_their_laws.ensures shared old c.args.gate c.requires.gate
            c.requires.hand mine held.ensures.inside.machine.home held.ensures.inside.found held.ensures.kept held.ensures.within c.args.ops.now
            c.args.verdict.now may call.result (subst (λ (n : NotedGate). IsRefusedWhere Idle (is_none (flight_of n.gate.log)) call.result)
            c.state.ensures.value call.ensures.idle);
      },
    )
