-- The locks of a run while they are made. No public contract cites this.
use Rattle.std.specs.Prelude.{◌≡◌, ℕ, ◌<◌, List, [], ◌∷◌, map, length, slice_index_or, All, vec_len}
use Rattle.weave_entries.specs.declared.gate_log.GateDeed.{GateDeed}
use Rattle.weave_entries.specs.declared.shard_log.ShardDeed.{ShardDeed}
use Rattle.weave_entries.specs.declared.oracle_log.OracleEntry.{OracleEntry}
use Rattle.weave_entries.specs.declared.store_log.StoreEntry.{StoreEntry}
use Rattle.seen_logs.specs.Entries.{gate_pair, oracle_pair, shard_pair, store_pair}
use Rattle.chronicle.specs.declared.chronicle.Chronicle.{Chronicle}
use Rattle.chronicle.specs.Frames.{Frame}
use Rattle.chronicle.specs.Locks.{lock_of, name_of, LockStartsWith, IsVacant}
use Rattle.chronicle.specs.Passes.{IsUnopened}
use Rattle.lock_row.specs.Hands.{AreDealt, AreFirst, HavePasses, IsNewPass}
use Rattle.lock_row.specs.Openings.{AreVacant}
use Rattle.lock_row.specs.Reservations.{AreUnopened}
use Rattle.lock_row.specs.Rows.{names_of}
use Rattle.gate_lock.specs.declared.noted_gate.NotedGate.{NotedGate}
use Rattle.shard_lock.specs.declared.noted_shard.NotedShard.{NotedShard}
use Rattle.gate_lock.specs.Frames.{gate_frame}
use Rattle.shard_lock.specs.Frames.{shard_frame}
use Rattle.gatekeeper.specs.Gates.{GateView}
use Rattle.shard_node.specs.Shards.{ShardView}
use Rattle.weaver_locks.specs.declared.hand.Hand.{Hand}
use Rattle.weaver_locks.specs.declared.locks.Locks.{Locks}
use Rattle.weaver_locks.specs.declared.locks.Parts.{Parts}
use Rattle.weaver_locks.specs.declared.locks.Places.{Places}
use Rattle.weaver_locks.specs.declared.rooms.Rooms.{Rooms}

-- how many passes each lock has
abbrev pub passes_of : Locks → ℕ
passes_of locks = (lock_of locks.store).passes

-- locks that are still to be opened, all with the same number of passes
pub record AreReserved (locks : Locks) (parts : Parts) : Type 0 where
  pub gate_count : vec_len parts.gates ≡ length locks.gates.items
  pub gates : AreUnopened locks.gates.items parts.gates.items
  pub gate_passes : All (λ c. (lock_of c).passes ≡ passes_of locks) locks.gates.items
  pub store : IsUnopened (lock_of locks.store) parts.store
  pub oracle : IsUnopened (lock_of locks.oracle) parts.oracle
  pub oracle_passes : (lock_of locks.oracle).passes ≡ passes_of locks
  pub shard_count : vec_len parts.shards ≡ length locks.shards.items
  pub shards : AreUnopened locks.shards.items parts.shards.items
  pub shard_passes : All (λ c. (lock_of c).passes ≡ passes_of locks) locks.shards.items

-- the same locks by name, whatever is in them
pub record AreSameLocks (before after : Locks) : Type 0 where
  pub gate_count : length after.gates.items ≡ length before.gates.items
  pub gates : names_of after.gates.items ≡ names_of before.gates.items
  pub store : name_of (lock_of after.store) ≡ name_of (lock_of before.store)
  pub oracle : name_of (lock_of after.oracle) ≡ name_of (lock_of before.oracle)
  pub shard_count : length after.shards.items ≡ length before.shards.items
  pub shards : names_of after.shards.items ≡ names_of before.shards.items

-- the frames that the machines will have
abbrev pub frame_for_gate : Locks → GateView → Frame
frame_for_gate locks gate = gate_frame gate.home gate.gates gate.shards (names_of locks.gates.items)
    (name_of (lock_of locks.store)) (names_of locks.shards.items)

abbrev pub frame_for_store : Locks → ℕ → Frame
frame_for_store locks shards = (shards ∷ []) ∷ name_of (lock_of locks.oracle) ∷ names_of locks.gates.items

abbrev pub frame_for_oracle : Locks → ℕ → Frame
frame_for_oracle locks shards = (shards ∷ []) ∷ names_of locks.gates.items

abbrev pub frame_for_shard : Locks → ℕ → ShardView → Frame
frame_for_shard locks shards shard = shard_frame shard.number shard.gates shards (name_of (lock_of locks.store))
    (name_of (lock_of locks.oracle)) (names_of locks.gates.items)

-- each lock has its passes, and the frame and the log of its machine
pub record AreOpened (locks : Locks) (gates : List GateView) (store : List StoreEntry) (oracle : List OracleEntry)
    (shards : List ShardView) : Type 0 where
  pub gate_locks : (k : ℕ) (c : Chronicle NotedGate GateDeed) (g : GateView) → k < length locks.gates.items
      → LockStartsWith (lock_of (slice_index_or locks.gates.items k c)) (passes_of locks)
      (frame_for_gate locks (slice_index_or gates k g)) (map gate_pair (slice_index_or gates k g).log)
  pub store_lock : LockStartsWith (lock_of locks.store) (passes_of locks) (frame_for_store locks (length shards))
      (map store_pair store)
  pub oracle_lock : LockStartsWith (lock_of locks.oracle) (passes_of locks) (frame_for_oracle locks (length shards))
      (map oracle_pair oracle)
  pub shard_locks : (k : ℕ) (c : Chronicle NotedShard ShardDeed) (s : ShardView) → k < length locks.shards.items
      → LockStartsWith (lock_of (slice_index_or locks.shards.items k c)) (passes_of locks)
      (frame_for_shard locks (length shards) (slice_index_or shards k s))
      (map shard_pair (slice_index_or shards k s).log)

-- each list has the first passes of its lock, in the order of their numbers
pub record HaveFirst (count : ℕ) (locks : Locks) (passes : Rooms) : Type 0 where
  pub gate_count : length passes.gates.items ≡ length locks.gates.items
  pub gates : HavePasses count locks.gates.items passes.gates.items
  pub store : AreFirst count (lock_of locks.store) passes.store.items
  pub oracle : AreFirst count (lock_of locks.oracle) passes.oracle.items
  pub shard_count : length passes.shards.items ≡ length locks.shards.items
  pub shards : HavePasses count locks.shards.items passes.shards.items

-- the places of the locks' machines are empty
pub record AreEmpty (locks : Locks) (places : Places) : Type 0 where
  pub gate_count : vec_len places.gates ≡ length locks.gates.items
  pub gates : AreVacant locks.gates.items places.gates.items
  pub store : IsVacant (lock_of locks.store) places.store
  pub oracle : IsVacant (lock_of locks.oracle) places.oracle
  pub shard_count : vec_len places.shards ≡ length locks.shards.items
  pub shards : AreVacant locks.shards.items places.shards.items

-- the hand has the pass with this number of each lock, which has seen the log at the start
pub record IsNewHand (locks : Locks) (number : ℕ) (hand : Hand) : Type 0 where
  pub gate_count : length hand.gates.items ≡ length locks.gates.items
  pub gates : AreDealt number locks.gates.items hand.gates.items
  pub store : IsNewPass number (lock_of locks.store) hand.store
  pub oracle : IsNewPass number (lock_of locks.oracle) hand.oracle
  pub shard_count : length hand.shards.items ≡ length locks.shards.items
  pub shards : AreDealt number locks.shards.items hand.shards.items
