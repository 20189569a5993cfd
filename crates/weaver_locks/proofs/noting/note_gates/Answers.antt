use Rattle.std.proofs.Common.{arith, length, sym, ap, subst}
use Rattle.std.specs.List.{All}
use Rattle.std.proofs.lemmas.List.Elements.{All-head, All-push, All-tail}
use Rattle.gate_lock.specs.declared.notes.GateNotes.{GateNotes}
use Rattle.gate_lock.specs.Notes.{GateIsKept}
use Rattle.weaver_locks.specs.Noted.{GateNotesStart}
use Rattle.weaver_locks.proofs.Lists.{mapped_more, mapped_whole}
use Rattle.weaver_locks.proofs.noting.note_gates.Goals as goal

pub note_gate-requires-clause-kept : goal.note_gate-requires-clause-kept
note_gate-requires-clause-kept c =
    All-head (λ b. (notes : GateNotes) → GateNotesStart c.args.locks.now notes → GateIsKept b.gate notes) c.in-Some.gate _
    (subst (All (λ b. (notes : GateNotes) → GateNotesStart c.args.locks.now notes → GateIsKept b.gate notes)) c.in-Some.ensures.steps.0
    c.loop-gate.invariant.kept)

pub loop-gate-preserved : goal.loop-gate-preserved
loop-gate-preserved c =
    let was = c.loop-gate.invariant in
    let steps = c.in-Some.ensures.steps in
    let some = steps.1 in
    let one = c.in_ok-one in
    let long = ap (λ l. length l) (sym steps.0) in record {
      hand = one.ensures.hand;
      all = mapped_more (λ n. n.gate) (λ b. b.gate) c.loop-gate.noted.items c.push_reserved.new.self.items one.one _ _ c.in-Some.gate
          c.push_reserved.ensures.items steps.0 one.ensures.gate was.all;
      kept = All-tail (λ b. (notes : GateNotes) → GateNotesStart c.args.locks.now notes → GateIsKept b.gate notes) c.in-Some.gate _
          (subst (All (λ b. (notes : GateNotes) → GateNotesStart c.args.locks.now notes → GateIsKept b.gate notes)) steps.0 was.kept);
      notes = subst (All (λ n. GateNotesStart c.args.locks.now n.notes)) (sym c.push_reserved.ensures.items)
          (All-push (λ n. GateNotesStart c.args.locks.now n.notes) c.loop-gate.noted.items one.one was.notes one.ensures.notes);
      long = omega (arith, was.long, some, long);
      space = omega (arith, was.space, some, c.push_reserved.ensures.len, c.push_reserved.ensures.capacity);
    }

pub returns-clause-gates : goal.returns-clause-gates
returns-clause-gates c =
    let was = c.loop-gate.invariant in
    mapped_whole (λ n. n.gate) (λ b. b.gate) c.loop-gate.noted.items _ _ was.long c.in-None.ensures.steps.0 was.all
