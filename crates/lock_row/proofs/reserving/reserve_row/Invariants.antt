use Rattle.std.proofs.Common.{◌≡◌, ◌≤◌, vec_len, vec_capacity}
use Rattle.std.specs.List.{All}
use Rattle.chronicle.specs.Locks.{lock_of}
use Rattle.lock_row.specs.Reservations.{AreUnopened}
use Rattle.lock_row.proofs.reserving.reserve_row.Given as goal

abbrev pub invariant-loop-place : goal.invariant-loop-place
invariant-loop-place g l = record {
  locks : vec_len l.locks ≡ l._place;
  parts : vec_len l.parts ≡ l._place;
  room : l.fn.count ≤ vec_capacity l.locks;
  parts_room : l.fn.count ≤ vec_capacity l.parts;
  unopened : AreUnopened l.locks.items l.parts.items;
  passes : All (λ c. (lock_of c).passes ≡ l.fn.passes) l.locks.items;
}
