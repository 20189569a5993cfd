use Rattle.std.specs.Vec.Iter.{into_iter_items, into_iter_len}
use Rattle.std.proofs.Common.{◌≡◌, ◌≤◌, ◌+◌, ℕ, length, get_or, drop}
use Rattle.weaver_locks.proofs.Gathering.{TakenSoFar}
use Rattle.weaver_locks.proofs.rooms.put_row.Given as goal

abbrev pub invariant-loop-pass : goal.invariant-loop-pass
invariant-loop-pass g l = record {
  left : into_iter_items l.pass-iterator ≡ drop l.place l.fn.passes.items;
  long : into_iter_len l.pass-iterator ≡ length (into_iter_items l.pass-iterator);
  count : l.place + into_iter_len l.pass-iterator ≡ length l.initial.rooms.items;
  same : length l.rooms.items ≡ length l.initial.rooms.items;
  taken : TakenSoFar l.fn.passes.items l.initial.rooms.items l.rooms.items l.place;
  ahead : (k : ℕ) (r : _) → l.place ≤ k → get_or l.rooms.items k r ≡ get_or l.initial.rooms.items k r;
}
