use Rattle.std.specs.Vec.Iter.{into_iter_items, into_iter_len}
use Rattle.std.proofs.Common.{◌≡◌, ◌≤◌, ◌+◌, ◌++◌, length, map, vec_len, vec_capacity}
use Rattle.std.specs.List.{All}
use Rattle.gate_lock.specs.declared.notes.GateNotes.{GateNotes}
use Rattle.gate_lock.specs.Notes.{GateIsKept}
use Rattle.weaver_locks.specs.Noted.{GateNotesStart}
use Rattle.weaver_locks.specs.Opened.{IsNewHand}
use Rattle.weaver_locks.proofs.noting.note_gates.Given as goal

abbrev pub invariant-loop-gate : goal.invariant-loop-gate
invariant-loop-gate l = record {
  hand : IsNewHand l.fn.locks 0 l.hand;
  all : map (λ n. n.gate) l.noted.items ++ map (λ b. b.gate) (into_iter_items l.gate-iterator) ≡ map (λ b. b.gate) l.fn.bare.items;
  kept : All (λ b. (notes : GateNotes) → GateNotesStart l.fn.locks notes → GateIsKept b.gate notes) (into_iter_items l.gate-iterator);
  notes : All (λ n. GateNotesStart l.fn.locks n.notes) l.noted.items;
  long : into_iter_len l.gate-iterator ≡ length (into_iter_items l.gate-iterator);
  space : vec_len l.noted + into_iter_len l.gate-iterator ≤ vec_capacity l.noted;
}
