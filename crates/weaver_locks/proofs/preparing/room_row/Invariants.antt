use Rattle.std.proofs.Common.{◌≡◌, ◌≤◌, vec_len, vec_capacity}
use Rattle.weaver_locks.specs.Rooms.{AreRooms}
use Rattle.weaver_locks.proofs.preparing.room_row.Given as goal

abbrev pub invariant-loop-place : goal.invariant-loop-place
invariant-loop-place g l = record {
  len : vec_len l.rooms ≡ l._place;
  space : l.fn.places ≤ vec_capacity l.rooms;
  rooms : AreRooms l.fn.count l.rooms.items;
}
