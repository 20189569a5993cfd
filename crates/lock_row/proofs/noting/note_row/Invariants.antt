use Rattle.std.proofs.Common.{◌≡◌, ◌≤◌, length, vec_len, vec_capacity}
use Rattle.lock_row.specs.Notings.{AllStay}
use Rattle.lock_row.proofs.Notings.{NotedSoFar}
use Rattle.lock_row.proofs.noting.note_row.Given as goal

abbrev pub invariant-loop-place : goal.invariant-loop-place
invariant-loop-place g l = record {
  passes : length l.passes ≡ length l.initial.passes;
  len : vec_len l.notes ≡ l.place;
  room : length l.fn.locks ≤ vec_capacity l.notes;
  notes : NotedSoFar l.fn.locks l.initial.passes l.notes.items l.place;
  stay : AllStay l.fn.locks l.initial.passes l.passes;
}
