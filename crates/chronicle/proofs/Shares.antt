-- Threads may share a lock if its machine may be sent, and a pass and a note may be sent whatever the entries are.
-- The kit finds neither by itself, since it has no proof that a badge may be shared.
-- Used by crates chronicle_keeper, gate_lock, shard_lock and weaver_locks.
use denote.Builtin.{u32, u64}
use denote.RattleType.{RattleType}
use denote.Param.Send.{IsSend, IsSync, part_keyless, sendable, recorded_sync, struct_sync}
use denote.Struct.Declared.{shape}
use denote.Struct.Struct.{Struct, Shape}
use Rattle.std.proofs.Crossing.{frees, send, sync, crosses}
use Rattle.std.proofs.option.Option.TheSendSync as maybe
use Rattle.std.specs.contracts.option.Option as option
use Rattle.std.specs.contracts.alloc.Global as global
use Rattle.std.proofs.sync.atomic.AtomicU64.TheSendSync as count
use Rattle.std.specs.contracts.impls.GlobalAllocator.TheImpl as handle
use Rattle.atomic_table.specs.contracts.badge.Badge.{the_row}
use Rattle.atomic_table.specs.contracts.owned.Table as table
use Rattle.atomic_table.proofs.badge.Badge.TheSendSync.{the_send}
use Rattle.atomic_table.proofs.shared.Shared.TheSendSync as shared
use Rattle.atomic_table.proofs.send_lease.SendLease.TheSendSync as lease
use Rattle.chronicle.specs.declared.machine.Machine.{Ghosts}
use Rattle.chronicle.specs.contracts.pass.Pass as pass
use Rattle.chronicle.specs.contracts.note.Note as note
use Rattle.chronicle.specs.contracts.view.View as view
use Rattle.chronicle.specs.contracts.rule.Law as law
use Rattle.chronicle.specs.contracts.rule.LawTableRuleOptionViewEntryU32.TheImpl as rule
use Rattle.chronicle.specs.contracts.chronicle.Chronicle as chronicle

badge_sync : (V : RattleType) → IsSync (the_row V)
badge_sync V = record { shared = λ d b o κ q. part_keyless (the_row V) (the_send V) q d b o }

-- threads may share a lock as a field of a struct, if its machine may be sent to another thread
pub chronicle_sync_within : (M E : RattleType) (g : Ghosts M.Denot E.Denot) → IsSend M → IsSync (chronicle.the_field M E g).row
chronicle_sync_within M E g s = let S : Shape = shape (table.the_type (option.the_row M) (view.the_row E) u32 (law.the_row M) global.the_row (rule.ghosts M E g rule.no_dict) handle.ghosts) in
    let t : IsSync (Struct S) = struct_sync S (shared.the_sync (option.the_row M) (view.the_row E) u32 (law.the_row M) (rule.ghosts M E g rule.no_dict) (maybe.the_send M s), (search sendable, (search sendable, (lease.the_sync u64 global.the_row handle.ghosts send (search frees), (lease.the_sync (option.the_row M) global.the_row handle.ghosts send (search frees), (sync, tt)))))) in
    struct_sync (shape (chronicle.the_type M E g)) (t, (search (crosses, sendable), (badge_sync _, (search (count.the_sync, crosses, sendable) depth 12, tt))))

-- threads may share a lock if its machine may be sent to another thread
pub chronicle_sync : (M E : RattleType) (g : Ghosts M.Denot E.Denot) → IsSend M → IsSync (chronicle.the_row M E g)
chronicle_sync M E g s = recorded_sync (chronicle.the_field M E g).row _ _ (chronicle.the_type M E g).to_one (chronicle_sync_within M E g s)

-- a pass may be sent to another thread
pub pass_send : (E : RattleType) → IsSend (pass.the_row E)
pass_send E = search (the_send, crosses, sendable) depth 20

-- and so may a note
pub note_send : (E : RattleType) → IsSend (note.the_row E)
note_send E = search (the_send, crosses, sendable) depth 20

-- threads may share a pass
pub pass_sync : (E : RattleType) → IsSync (pass.the_row E)
pass_sync E = search (badge_sync, crosses, sendable) depth 20

-- a pass may be sent as a field of a struct
pub pass_send_within : (E : RattleType) → IsSend (pass.the_field E).row
pass_send_within E = search (the_send, crosses, sendable) depth 20

-- a note may be sent as a field of a struct
pub note_send_within : (E : RattleType) → IsSend (note.the_field E).row
note_send_within E = search (the_send, crosses, sendable) depth 20
