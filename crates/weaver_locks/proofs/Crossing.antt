-- A hand may be sent to another thread, and the locks of a run may be shared by threads.
-- Used by crate weave_phase.
use mathlib.Core.Path.{◌≡◌, sym, subst}
use mathlib.Core.List.{[]}
use base.Fml.{ftrue}
use base.Shift.{Keyless}
use denote.Builtin.{usize, RawPtr}
use denote.Exit.{Entries}
use denote.Param.Send.{IsSend, IsSync, SyncAt, sendable, array_sync_at, recorded_send, struct_send, struct_sync, struct_sync_at}
use denote.RattleType.{RattleType}
use denote.RawPtr.{Ptr, block_ptr, null_ptr, block_of, count_of, in_block}
use denote.Struct.Declared.{shape}
use denote.Struct.Owning as owning
use Rattle.std.proofs.Crossing.{sync, Vec-send, Vec-sync}
use Rattle.std.specs.contracts.alloc.Global as global
use Rattle.std.specs.contracts.impls.GlobalAllocator.TheImpl as handle
use Rattle.std.specs.contracts.vec.Vec as vec
use Rattle.chronicle.proofs.Shares.{chronicle_sync_within, pass_send, pass_send_within, pass_sync}
use Rattle.chronicle.specs.contracts.chronicle.Chronicle as chronicle
use Rattle.chronicle.specs.contracts.pass.Pass as pass
use Rattle.gatekeeper.specs.contracts.gate.Gate as gate
use Rattle.shard_node.specs.contracts.shard.Shard as shard
use Rattle.weave_entries.specs.contracts.gate_log.GateDeed as gate_deed
use Rattle.weave_entries.specs.contracts.oracle_log.OracleDeed as oracle_deed
use Rattle.weave_entries.specs.contracts.shard_log.ShardDeed as shard_deed
use Rattle.weave_entries.specs.contracts.store_log.StoreDeed as store_deed
use Rattle.gate_lock.proofs.Crossing as gate_lock
use Rattle.gate_lock.specs.contracts.noted_gate.NotedGate as noted_gate
use Rattle.gate_lock.specs.contracts.noted_gate.NotedGateMachine.TheImpl as gate_machine
use Rattle.oracle_lock.proofs.noted_oracle.NotedOracle.TheSendSync as oracle_sends
use Rattle.oracle_lock.specs.contracts.noted_oracle.NotedOracle as noted_oracle
use Rattle.oracle_lock.specs.contracts.noted_oracle.NotedOracleMachine.TheImpl as oracle_machine
use Rattle.shard_lock.proofs.Crossing as shard_lock
use Rattle.shard_lock.specs.contracts.noted_shard.NotedShard as noted_shard
use Rattle.shard_lock.specs.contracts.noted_shard.NotedShardMachine.TheImpl as shard_machine
use Rattle.store_lock.proofs.noted_store.NotedStore.TheSendSync as store_sends
use Rattle.store_lock.specs.contracts.noted_store.NotedStore as noted_store
use Rattle.store_lock.specs.contracts.noted_store.NotedStoreMachine.TheImpl as store_machine
use Rattle.weaver_locks.specs.Kept.{HasEnds}
use Rattle.weaver_locks.specs.contracts.ends.Ends as ends
use Rattle.weaver_locks.specs.contracts.hand.Hand as hand
use Rattle.weaver_locks.specs.contracts.rooms.Rooms as rooms
use Rattle.weaver_locks.specs.contracts.shared.Shared as shared

-- a hand within a struct
pub hand_send_within : IsSend hand.the_field.row
hand_send_within = struct_send (shape hand.the_type) (
  Vec-send (pass.the_row gate_deed.the_row) (pass_send gate_deed.the_row),
  (
    pass_send_within store_deed.the_row,
    (
      pass_send_within oracle_deed.the_row,
      (Vec-send (pass.the_row shard_deed.the_row) (pass_send shard_deed.the_row), tt),
    ),
  ),
)

-- a hand may be sent to another thread
pub hand_send : IsSend hand.the_row
hand_send = recorded_send hand.the_field.row _ _ hand.the_type.to_one hand_send_within

abbrev list_of : RattleType → RattleType
list_of T = vec.the_row T global.the_row handle.ghosts

pointer_sync : IsSync RawPtr
pointer_sync = search sendable

count_sync : IsSync usize
count_sync = search sendable

no_key : (p : Ptr) → Keyless (in_block p ftrue)
no_key (block_ptr b o) = tt
no_key null_ptr = tt

-- an empty list may be shared, whatever its elements would be
empty_sync : (T : RattleType) (list : (list_of T).Denot) → list.items ≡ [] → SyncAt (list_of T) list
empty_sync T list none b o κ =
    let V = vec.the_type T global.the_row handle.ghosts in
    let each : Entries (SyncAt T) list.items = subst (Entries (SyncAt T)) (sym none) tt in (
      (struct_sync (owning.shape V) (pointer_sync, (count_sync, (count_sync, (sync, tt))))).shared (owning.to V list) b o κ,
      (tt, (no_key list.ptr, array_sync_at T list.len list.items each (block_of list.ptr) (count_of list.ptr) κ)),
    )

room_sync : (E : RattleType) → IsSync (list_of (pass.the_row E))
room_sync E = Vec-sync (pass.the_row E) (pass_sync E)

rooms_sync : IsSync rooms.the_field.row
rooms_sync = struct_sync (shape rooms.the_type) (
  Vec-sync (list_of (pass.the_row gate_deed.the_row)) (room_sync gate_deed.the_row),
  (
    room_sync store_deed.the_row,
    (
      room_sync oracle_deed.the_row,
      (Vec-sync (list_of (pass.the_row shard_deed.the_row)) (room_sync shard_deed.the_row), tt),
    ),
  ),
)

-- while the locks are shared, the lists for machines are empty
ends_sync : (gates shards : _) (e : ends.the_type.D) → HasEnds gates shards e
    → SyncAt ends.the_field.row (ends.the_type.to e)
ends_sync gates shards e empty = struct_sync_at (shape ends.the_type) (ends.the_type.to e) (
  empty_sync noted_gate.the_row e.noted_gates empty.noted_gates.none,
  (
    empty_sync gate.the_row e.gates empty.gates.none,
    (
      empty_sync noted_shard.the_row e.noted_shards empty.noted_shards.none,
      (empty_sync shard.the_row e.shards empty.shards.none, tt),
    ),
  ),
)

gates_sync : IsSync (list_of (chronicle.the_row noted_gate.the_row gate_deed.the_row gate_machine.ghosts))
gates_sync = Vec-sync (chronicle.the_row noted_gate.the_row gate_deed.the_row gate_machine.ghosts) gate_lock.lock_sync

shards_sync : IsSync (list_of (chronicle.the_row noted_shard.the_row shard_deed.the_row shard_machine.ghosts))
shards_sync = Vec-sync (chronicle.the_row noted_shard.the_row shard_deed.the_row shard_machine.ghosts) shard_lock.lock_sync

store_sync : IsSync (chronicle.the_field noted_store.the_row store_deed.the_row store_machine.ghosts).row
store_sync = chronicle_sync_within noted_store.the_row store_deed.the_row store_machine.ghosts store_sends.the_send

oracle_sync : IsSync (chronicle.the_field noted_oracle.the_row oracle_deed.the_row oracle_machine.ghosts).row
oracle_sync = chronicle_sync_within noted_oracle.the_row oracle_deed.the_row oracle_machine.ghosts oracle_sends.the_send

-- the locks of a run may be shared by threads
pub shared_sync : IsSync shared.the_row
shared_sync = record {
  shared = λ s. let f = shared.the_type.to s in struct_sync_at (shape shared.the_type) f (
    gates_sync.shared f.0,
    (
      store_sync.shared f.1.0,
      (
        oracle_sync.shared f.1.1.0,
        (
          shards_sync.shared f.1.1.1.0,
          (rooms_sync.shared f.1.1.1.1.0, (ends_sync _ _ s.ends s.spacious, tt)),
        ),
      ),
    ),
  );
}
