-- A hold of the store by a hand, step by step. No public contract cites this.
use Rattle.std.specs.Prelude.{◌≡◌, List, [], ◌∷◌, ◌++◌, map, length, Contains}
use mathlib.Core.List.{IsPrefix}
use Rattle.weave_entries.specs.declared.gate_log.GateDeed.{GateDeed}
use Rattle.weave_entries.specs.declared.oracle_log.OracleDeed.{OracleDeed}
use Rattle.weave_entries.specs.declared.oracle_log.OracleEntry.{OracleEntry}
use Rattle.weave_entries.specs.declared.store_log.StoreDeed.{StoreDeed}
use Rattle.weave_entries.specs.declared.store_log.StoreEntry.{StoreEntry}
use Rattle.weave_entries.specs.StoreRule.{IsStoreLog}
use Rattle.weave_account.specs.declared.account.Account.{Account}
use Rattle.seen_logs.specs.Entries.{oracle_entries, store_pairs}
use Rattle.seen_logs.specs.References.{IsAskedAsSeen}
use Rattle.seen_logs.specs.Seen.{StoreRefersWithin}
use Rattle.chronicle.specs.declared.held.Held.{Held}
use Rattle.chronicle.specs.declared.pass.Pass.{Pass}
use Rattle.chronicle.specs.Frames.{Frame}
use Rattle.chronicle.specs.Holds.{lock_in, log_at_entry, machine_of, WentInWith}
use Rattle.chronicle.specs.Locks.{lock_of, name_of}
use Rattle.chronicle.specs.Logs.{entries_of}
use Rattle.chronicle.specs.Passes.{lock_noted, seen_by_note, number_of, own_entries, seen_by_pass}
use Rattle.oracle_lock.specs.Seen.{AreGateLogs, gates_noted, gates_seen, OracleIsKept}
use Rattle.store_lock.specs.declared.noted_store.NotedStore.{NotedStore}
use Rattle.store_lock.specs.Seen.{store_seen, StoreIsKept, StoreView}
use Rattle.weaver_locks.specs.declared.hand.Hand.{Hand}
use Rattle.weaver_locks.specs.declared.shared.Shared.{Shared}
use Rattle.weaver_locks.specs.Going.{AddsToOracle, AllGoOn}
use Rattle.weaver_locks.specs.Hands.{hand_number, IsHand}

-- the frame of the store with its notes
abbrev pub store_frame_of : StoreView → Frame
store_frame_of m = (m.shards ∷ []) ∷ lock_noted m.oracle ∷ map lock_noted m.gates

-- The hand is in the lock of the store. Its passes of gatekeepers' locks have met the store's notes: both have seen the
-- same.
pub record IsInStore (shared : Shared) (old now : Hand) (held : Held NotedStore StoreDeed) : Type 0 where
  pub gates : AllGoOn shared.gates.items old.gates.items now.gates.items
  pub oracle : now.oracle ≡ old.oracle
  pub shards : now.shards ≡ old.shards
  pub went : WentInWith now.store held
  pub number : number_of now.store ≡ hand_number old
  pub lock : lock_in held ≡ lock_of shared.store
  pub frame : store_frame_of (machine_of held) ≡ (lock_in held).frame
  pub entry : log_at_entry held ≡ store_pairs (machine_of held).store
  pub own_is : entries_of (hand_number old) (store_pairs (machine_of held).store) ≡ own_entries old.store
  pub found : IsPrefix (seen_by_pass old.store) (store_pairs (machine_of held).store)
  pub shard_count : (machine_of held).shards ≡ length shared.shards.items
  pub oracle_note : lock_noted (machine_of held).oracle ≡ name_of (lock_of shared.oracle)
  pub one : gates_noted (machine_of held).gates ≡ gates_seen now.gates.items
  pub legal : AreGateLogs (machine_of held).shards (gates_seen now.gates.items)
  pub kept : StoreIsKept (machine_of held).shards (gates_noted (machine_of held).gates)
      (oracle_entries (seen_by_note (machine_of held).oracle)) (machine_of held).store

-- What the hand did in the lock of the store: it added these entries of its own to the store's log, and these to the
-- oracle's within it. Its other passes are these now. They have seen all that both logs refer to.
pub record DoesInStore (shared : Shared) (old : Hand) (gates : List (Pass GateDeed)) (oracle : Pass OracleDeed)
    (before added : List StoreEntry) (settled asked : List OracleEntry) : Type 0 where
  pub hand : IsHand shared old
  pub gates_on : AllGoOn shared.gates.items old.gates.items gates
  pub oracle_adds : AddsToOracle shared old oracle settled asked
  pub asked_for : (next : Account) → next.store ≡ before ++ added
      → (entry : OracleEntry) → Contains asked entry → IsAskedAsSeen next entry
  pub found : IsPrefix (seen_by_pass old.store) (store_pairs before)
  pub own_is : entries_of (hand_number old) (store_pairs before) ≡ own_entries old.store
  pub added_by : (entry : StoreEntry) → Contains added entry → entry.author ≡ hand_number old
  pub store_legal : IsStoreLog (before ++ added)
  pub refers : StoreRefersWithin
      (store_seen (gates_seen gates) (oracle_entries (seen_by_pass oracle)) (before ++ added))
  pub oracle_kept : OracleIsKept (length shared.shards.items) (gates_seen gates) (oracle_entries (seen_by_pass oracle))

-- the hand is done in the store: its pass of that lock can leave
pub record IsDoneInStore (shared : Shared) (old now : Hand) (log before added : List StoreEntry)
    (settled asked : List OracleEntry) : Type 0 where
  pub log_is : log ≡ before ++ added
  pub shards : now.shards ≡ old.shards
  pub number : number_of now.store ≡ hand_number old
  pub does : DoesInStore shared old now.gates.items now.oracle before added settled asked
