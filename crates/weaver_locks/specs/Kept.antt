-- What the locks of a run keep for the time when they are closed. No public contract cites this.
use Rattle.std.specs.Prelude.{◌≡◌, ℕ, length}
use Rattle.weaver_locks.specs.declared.ends.Ends.{Ends}
use Rattle.weaver_locks.specs.declared.rooms.Rooms.{Rooms}
use Rattle.weaver_locks.specs.Rooms.{AreRooms, IsRoom}

-- a room for this many passes of each lock
pub record HasRooms (gate_locks shard_locks passes : ℕ) (rooms : Rooms) : Type 0 where
  pub gate_count : length rooms.gates.items ≡ gate_locks
  pub shard_count : length rooms.shards.items ≡ shard_locks
  pub gates : AreRooms passes rooms.gates.items
  pub store : IsRoom passes rooms.store
  pub oracle : IsRoom passes rooms.oracle
  pub shards : AreRooms passes rooms.shards.items

-- space for this many machines
pub record HasEnds (gate_locks shard_locks : ℕ) (ends : Ends) : Type 0 where
  pub noted_gates : IsRoom gate_locks ends.noted_gates
  pub gates : IsRoom gate_locks ends.gates
  pub noted_shards : IsRoom shard_locks ends.noted_shards
  pub shards : IsRoom shard_locks ends.shards
