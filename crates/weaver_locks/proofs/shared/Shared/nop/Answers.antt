use Rattle.std.proofs.Common.{◌≡◌, ℕ, ◌<◌, List, refl, sym, subst}
use Rattle.std.specs.Prelude.{IfOk, is_some}
use Rattle.weave_entries.specs.declared.gate_log.GateDeed.TheVariants.{Nop}
use Rattle.weave_entries.specs.declared.gate_log.GateEntry.{GateEntry}
use Rattle.weave_entries.specs.GateReplay.{clock_of, flight_of, low_mark, next_number, next_stamp, running_of}
use Rattle.gatekeeper.specs.declared.fault.GateFault.TheVariants.{Busy}
use Rattle.gatekeeper.specs.Answers.{IsRefusedWhere}
use Rattle.gatekeeper.specs.Gates.{Adds}
use Rattle.weaver_locks.specs.GateHolds.{gate_entries_of}
use Rattle.weaver_locks.proofs.Calling.{as_found, found_as, one_more}
use Rattle.weaver_locks.proofs.shared.Shared.nop.Goals as goal

pub nop-sent-requires : goal.nop-sent-requires
nop-sent-requires g c =
    let found = found_as c.args.self.now c.args.hand.now c.enter_gate-held.new.hand c.args.gate c.enter_gate-held.result c.state.result.now
    c.state.ensures.value c.enter_gate-held.ensures.inside in
    subst (λ (n : ℕ). c.args.shard < n) (sym found.shards_are) c.requires.shard

pub leave_gate-requires-clause-inside : goal.leave_gate-requires-clause-inside
leave_gate-requires-clause-inside g c =
    let shared = c.args.self.now in
    let old = c.args.hand.now in
    let call = c.nop-sent in
    let before = c.enter_gate-held.result.machine.gate.log in
    let found = found_as shared old c.enter_gate-held.new.hand c.args.gate c.enter_gate-held.result c.state.result.now c.state.ensures.value
    c.enter_gate-held.ensures.inside in
    let made = next_stamp c.args.gate (clock_of c.args.gate before) in
    let deed = λ (number : ℕ). Nop c.args.shard number made (low_mark made (running_of before)) in
    let entry = as_found (λ (h : ℕ) (l : List GateEntry). IfOk call.result (λ (number : ℕ). Adds c.state.result.now.gate call.new.self.gate
    c.number-author.result (Nop c.args.shard number (next_stamp h (clock_of h l)) (low_mark (next_stamp h (clock_of h l)) (running_of l)))))
    c.state.result.now c.args.gate _ before found call.ensures.entry in (
      old,
      before,
      gate_entries_of old deed call.result,
      c.requires.hand,
      one_more shared old c.enter_gate-held.new.hand c.args.gate c.enter_gate-held.result _ c.state.result.now refl refl c.state.ensures.value
          c.enter_gate-held.ensures.inside c.number-author.result deed call.result c.number-author.ensures call.ensures.notes entry
          call.ensures.refused,
    )

pub returns-clause-hand : goal.returns-clause-hand
returns-clause-hand g c =
    let shared = c.args.self.now in
    let old = c.args.hand.now in
    let call = c.nop-sent in
    let before = c.enter_gate-held.result.machine.gate.log in
    let found = found_as shared old c.enter_gate-held.new.hand c.args.gate c.enter_gate-held.result c.state.result.now c.state.ensures.value
    c.enter_gate-held.ensures.inside in
    let made = next_stamp c.args.gate (clock_of c.args.gate before) in
    let deed = λ (number : ℕ). Nop c.args.shard number made (low_mark made (running_of before)) in
    let entry = as_found (λ (h : ℕ) (l : List GateEntry). IfOk call.result (λ (number : ℕ). Adds c.state.result.now.gate call.new.self.gate
    c.number-author.result (Nop c.args.shard number (next_stamp h (clock_of h l)) (low_mark (next_stamp h (clock_of h l)) (running_of l)))))
    c.state.result.now c.args.gate _ before found call.ensures.entry in
    c.leave_gate.ensures.hand old before (gate_entries_of old deed call.result) c.requires.hand
    (one_more shared old c.enter_gate-held.new.hand c.args.gate c.enter_gate-held.result _ c.state.result.now refl refl c.state.ensures.value
    c.enter_gate-held.ensures.inside c.number-author.result deed call.result c.number-author.ensures call.ensures.notes entry
    call.ensures.refused)

pub returns-clause-hold : goal.returns-clause-hold
returns-clause-hold g c =
    let shared = c.args.self.now in
    let old = c.args.hand.now in
    let call = c.nop-sent in
    let before = c.enter_gate-held.result.machine.gate.log in
    let found = found_as shared old c.enter_gate-held.new.hand c.args.gate c.enter_gate-held.result c.state.result.now c.state.ensures.value
    c.enter_gate-held.ensures.inside in
    let made = next_stamp c.args.gate (clock_of c.args.gate before) in
    let deed = λ (number : ℕ). Nop c.args.shard number made (low_mark made (running_of before)) in
    let entry = as_found (λ (h : ℕ) (l : List GateEntry). IfOk call.result (λ (number : ℕ). Adds c.state.result.now.gate call.new.self.gate
    c.number-author.result (Nop c.args.shard number (next_stamp h (clock_of h l)) (low_mark (next_stamp h (clock_of h l)) (running_of l)))))
    c.state.result.now c.args.gate _ before found call.ensures.entry in
    let was = c.leave_gate.ensures.was old before (gate_entries_of old deed call.result) c.requires.hand
    (one_more shared old c.enter_gate-held.new.hand c.args.gate c.enter_gate-held.result _ c.state.result.now refl refl c.state.ensures.value
    c.enter_gate-held.ensures.inside c.number-author.result deed call.result c.number-author.ensures call.ensures.notes entry
    call.ensures.refused) in (
      before,
      was,
      as_found (λ (h : ℕ) (l : List GateEntry). IfOk call.result (λ (number : ℕ). number ≡ next_number c.args.shard l))
          c.state.result.now c.args.gate _ before found call.ensures.number,
      as_found (λ (h : ℕ) (l : List GateEntry). IsRefusedWhere Busy (is_some (flight_of l)) call.result)
          c.state.result.now c.args.gate _ before found call.ensures.busy,
    )
