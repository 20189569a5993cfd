use Rattle.std.specs.Vec.Iter.{into_iter_items, into_iter_len}
use Rattle.std.proofs.Common.{◌≡◌, ◌≤◌, ◌+◌, length, drop, vec_capacity}
use Rattle.weaver_locks.proofs.ClosingRows.{ClosedSoFar}
use Rattle.weaver_locks.proofs.closed_rows.close_row.Given as goal

abbrev pub invariant-loop-lock : goal.invariant-loop-lock
invariant-loop-lock g l = record {
  left : into_iter_items l.lock-iterator ≡ drop (length l.machines.items) l.fn.locks.items;
  long : into_iter_len l.lock-iterator ≡ length (into_iter_items l.lock-iterator);
  rooms_left : into_iter_items l.rooms ≡ drop (length l.machines.items) l.fn.rooms.items;
  rooms_long : into_iter_len l.rooms ≡ length (into_iter_items l.rooms);
  count : length l.machines.items + into_iter_len l.lock-iterator ≡ length l.fn.locks.items;
  rooms_count : length l.machines.items + into_iter_len l.rooms ≡ length l.fn.locks.items;
  space : length l.fn.locks.items ≤ vec_capacity l.machines;
  closed : ClosedSoFar g.M.Machine.frame g.M.Machine.log l.fn.locks.items l.fn.rooms.items l.machines.items (length l.machines.items);
}
