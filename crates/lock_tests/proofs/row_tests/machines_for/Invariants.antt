use Rattle.std.proofs.Common.{◌≡◌, ◌≤◌, [], map, length, vec_len, vec_capacity}
use Rattle.std.specs.List.{All}
use Rattle.chronicle.specs.Passes.{lock_noted}
use Rattle.lock_row.specs.Rows.{names_of, AreReady}
use Rattle.lock_tests.proofs.row_tests.machines_for.Given as goal

abbrev pub invariant-loop-place : goal.invariant-loop-place
invariant-loop-place l = record {
  hand : length l.hand ≡ length l.initial.hand;
  ready : AreReady l.fn.locks l.hand;
  len : vec_len l.machines ≡ l._place;
  room : length l.fn.locks ≤ vec_capacity l.machines;
  names : All (λ m. map lock_noted m.notes.items ≡ names_of l.fn.locks) l.machines.items;
  empty : All (λ m. m.entries.items ≡ []) l.machines.items;
}
