use Rattle.std.proofs.Common.{◌≡◌, ℕ, List, length, get_or, set, refl, sym, ap, ◌∙◌, subst}
use Rattle.std.specs.List.{All}
use Rattle.std.proofs.lemmas.List.{length-set}
use Rattle.weave_entries.specs.declared.gate_log.GateDeed.{GateDeed}
use Rattle.weave_entries.specs.declared.gate_log.GateEntry.{GateEntry}
use Rattle.chronicle.specs.declared.pass.Pass.{Pass}
use Rattle.chronicle.specs.Passes.{number_of}
use Rattle.gate_lock.specs.declared.noted_gate.NotedGate.{NotedGate}
use Rattle.gate_lock.specs.Notes.{GateIsKept, frame_of_gate}
use Rattle.lock_row.proofs.Lists.{one_of, written}
use Rattle.weaver_locks.specs.declared.hand.Hand.{Hand}
use Rattle.weaver_locks.proofs.Leaving.{follows, hand_again, left_by, one_account, was_at_gate}
use Rattle.weaver_locks.proofs.shared.Shared.leave_gate.Goals as goal

pub leave-requires-clause-frame : goal.leave-requires-clause-frame
leave-requires-clause-frame c =
    let inside = c.requires.inside.4 in
    let a = one_of c.args.self.now.gates.items c.args.gate c.requires.gate in
    ap (λ (n : NotedGate). frame_of_gate n.gate n.notes) c.state.ensures.value
    ∙ (inside.machine.frame a ∙ ap (λ l. l.frame) (sym (inside.hold.lock a)))

pub leave-requires-clause-log : goal.leave-requires-clause-log
leave-requires-clause-log c =
    let inside = c.requires.inside.4 in
    let d = c.index-passes-gate.result in
    let x = get_or c.as_mut_slice-passes.result.now c.args.gate d in
    let number : number_of x ≡ number_of c.requires.inside.0.store =
    ap (λ (l : List (Pass GateDeed)). number_of (get_or l c.args.gate d)) c.as_mut_slice-passes.ensures.value ∙ inside.elsewhere.gate_number d in
    follows (number_of x) _ c.requires.inside.1 c.requires.inside.2 c.state.result.now.gate.log inside.hold.entry
    (ap (λ (n : NotedGate). n.gate.log) c.state.ensures.value ∙ inside.machine.log)
    (subst (λ (n : ℕ). All (λ (e : GateEntry). e.author ≡ n) c.requires.inside.2) (sym number) inside.machine.by)

pub returns-clause-hand : goal.returns-clause-hand
returns-clause-hand c old before added hand inside =
    let now = c.args.hand.now in
    let new : Hand = record now {
      gates = Rattle.std.specs.Vec.with_items now.gates (set c.as_mut_slice-passes.result.now c.args.gate c.leave.new.pass);
    } in
    let set_long : length (set c.as_mut_slice-passes.result.now c.args.gate c.leave.new.pass) ≡ now.gates.len =
    (length-set c.as_mut_slice-passes.result.now c.args.gate c.leave.new.pass
    ∙ ap (λ (l : List (Pass GateDeed)). length l) c.as_mut_slice-passes.ensures.value) ∙ sym now.gates.ok.0 in
    let set_is : new.gates.items ≡ set c.as_mut_slice-passes.result.now c.args.gate c.leave.new.pass =
    written now.gates.len (set c.as_mut_slice-passes.result.now c.args.gate c.leave.new.pass) now.gates.items set_long in
    let kept = subst (λ (n : NotedGate). GateIsKept n.gate n.notes) c.state.ensures.value c.shows_what_it_keeps.ensures in
    hand_again c.hands_keep_their_laws.ensures c.gates_keep_their_laws.ensures c.args.self.now old now new c.args.gate before added
    c.args.held.machine c.leave.new.pass c.requires.gate hand inside.elsewhere inside.found inside.machine kept
    (left_by c.args.self.now old now new c.args.gate before c.args.held c.leave.new.pass c.index-passes-gate.result c.state.result.now
    c.as_mut_slice-passes.result.now inside.elsewhere inside.hold c.as_mut_slice-passes.ensures.value set_is refl refl refl
    c.leave.ensures.ready c.leave.ensures.number c.leave.ensures.seen c.state.ensures.value)

pub returns-clause-was : goal.returns-clause-was
returns-clause-was c old before added hand inside =
    let now = c.args.hand.now in
    let new : Hand = record now {
      gates = Rattle.std.specs.Vec.with_items now.gates (set c.as_mut_slice-passes.result.now c.args.gate c.leave.new.pass);
    } in
    let set_long : length (set c.as_mut_slice-passes.result.now c.args.gate c.leave.new.pass) ≡ now.gates.len =
    (length-set c.as_mut_slice-passes.result.now c.args.gate c.leave.new.pass
    ∙ ap (λ (l : List (Pass GateDeed)). length l) c.as_mut_slice-passes.ensures.value) ∙ sym now.gates.ok.0 in
    let set_is : new.gates.items ≡ set c.as_mut_slice-passes.result.now c.args.gate c.leave.new.pass =
    written now.gates.len (set c.as_mut_slice-passes.result.now c.args.gate c.leave.new.pass) now.gates.items set_long in
    let kept = subst (λ (n : NotedGate). GateIsKept n.gate n.notes) c.state.ensures.value c.shows_what_it_keeps.ensures in
    was_at_gate c.hands_keep_their_laws.ensures c.gates_keep_their_laws.ensures c.args.self.now old now new c.args.gate before added
    c.args.held.machine c.leave.new.pass c.requires.gate hand inside.elsewhere inside.found inside.machine kept
    (left_by c.args.self.now old now new c.args.gate before c.args.held c.leave.new.pass c.index-passes-gate.result c.state.result.now
    c.as_mut_slice-passes.result.now inside.elsewhere inside.hold c.as_mut_slice-passes.ensures.value set_is refl refl refl
    c.leave.ensures.ready c.leave.ensures.number c.leave.ensures.seen c.state.ensures.value)

pub returns-clause-seen : goal.returns-clause-seen
returns-clause-seen c old before added hand inside =
    let now = c.args.hand.now in
    let new : Hand = record now {
      gates = Rattle.std.specs.Vec.with_items now.gates (set c.as_mut_slice-passes.result.now c.args.gate c.leave.new.pass);
    } in
    let set_long : length (set c.as_mut_slice-passes.result.now c.args.gate c.leave.new.pass) ≡ now.gates.len =
    (length-set c.as_mut_slice-passes.result.now c.args.gate c.leave.new.pass
    ∙ ap (λ (l : List (Pass GateDeed)). length l) c.as_mut_slice-passes.ensures.value) ∙ sym now.gates.ok.0 in
    let set_is : new.gates.items ≡ set c.as_mut_slice-passes.result.now c.args.gate c.leave.new.pass =
    written now.gates.len (set c.as_mut_slice-passes.result.now c.args.gate c.leave.new.pass) now.gates.items set_long in
    let kept = subst (λ (n : NotedGate). GateIsKept n.gate n.notes) c.state.ensures.value c.shows_what_it_keeps.ensures in
    one_account c.hands_keep_their_laws.ensures c.gates_keep_their_laws.ensures c.args.self.now old now new c.args.gate before added
    c.args.held.machine c.leave.new.pass c.requires.gate hand inside.elsewhere inside.found inside.machine kept
    (left_by c.args.self.now old now new c.args.gate before c.args.held c.leave.new.pass c.index-passes-gate.result c.state.result.now
    c.as_mut_slice-passes.result.now inside.elsewhere inside.hold c.as_mut_slice-passes.ensures.value set_is refl refl refl
    c.leave.ensures.ready c.leave.ensures.number c.leave.ensures.seen c.state.ensures.value)
