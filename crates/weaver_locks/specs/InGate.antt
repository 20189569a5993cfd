-- A hand that is in the lock of a gatekeeper. No public contract cites this.
use Rattle.std.specs.Prelude.{◌≡◌, ◌≢◌, ℕ, ◌<◌, List, [], ◌++◌, map, length, slice_index_or, All}
use mathlib.Core.List.{IsPrefix}
use Rattle.weave_entries.specs.declared.gate_log.GateDeed.{GateDeed}
use Rattle.weave_entries.specs.declared.gate_log.GateEntry.{GateEntry}
use Rattle.weave_entries.specs.declared.shard_log.ShardDeed.{ShardDeed}
use Rattle.weave_account.specs.declared.account.Account.{Account}
use Rattle.seen_logs.specs.Entries.{gate_pairs}
use Rattle.chronicle.specs.declared.chronicle.Chronicle.{Chronicle}
use Rattle.chronicle.specs.declared.held.Held.{Held}
use Rattle.chronicle.specs.declared.pass.Pass.{Pass}
use Rattle.chronicle.specs.Holds.{log_at_entry, lock_in, machine_of, WentInWith}
use Rattle.chronicle.specs.Locks.{lock_of}
use Rattle.chronicle.specs.Logs.{entries_of}
use Rattle.chronicle.specs.Passes.{IsReady, seen_by_note, number_of, own_entries, seen_by_pass}
use Rattle.lock_row.specs.Rows.{AreReady}
use Rattle.gate_lock.specs.declared.noted_gate.NotedGate.{NotedGate}
use Rattle.gate_lock.specs.Frames.{AreReadyBut}
use Rattle.gate_lock.specs.Notes.{account_of_gate, frame_of_gate, seen_by_gate_passes}
use Rattle.weaver_locks.specs.declared.hand.Hand.{Hand}
use Rattle.weaver_locks.specs.declared.shared.Shared.{Shared}
use Rattle.weaver_locks.specs.Hands.{hand_number}
use Rattle.weaver_locks.specs.Onward.{OnlySees}

-- logs without the oracle's, of which gatekeepers keep no notes
abbrev pub without_oracle : Account → Account
without_oracle account = record account { oracle = [] }

-- the passes of the other locks are ready, and have seen no less than they had
pub record SeesElsewhere (shared : Shared) (old now : Hand) (gate : ℕ) : Type 0 where
  pub gates : length now.gates.items ≡ length old.gates.items
  pub gates_ready : AreReadyBut gate shared.gates.items now.gates.items
  pub gates_see : (k : ℕ) (p : Pass GateDeed) → k < length old.gates.items → k ≢ gate
      → OnlySees (slice_index_or old.gates.items k p) (slice_index_or now.gates.items k p)
  pub gate_number : (p : Pass GateDeed) → number_of (slice_index_or now.gates.items gate p) ≡ hand_number old
  pub store_ready : IsReady (lock_of shared.store) now.store
  pub store_sees : OnlySees old.store now.store
  pub oracle_is : now.oracle ≡ old.oracle
  pub shards : length now.shards.items ≡ length old.shards.items
  pub shards_ready : AreReady shared.shards.items now.shards.items
  pub shards_see : (k : ℕ) (p : Pass ShardDeed) → k < length old.shards.items
      → OnlySees (slice_index_or old.shards.items k p) (slice_index_or now.shards.items k p)

-- the gatekeeper's log was `before`: it began with what the hand had seen, and had all of its entries
pub record HasFoundLog (old : Hand) (gate : ℕ) (before : List GateEntry) : Type 0 where
  pub more : (p : Pass GateDeed) → IsPrefix (seen_by_pass (slice_index_or old.gates.items gate p)) (gate_pairs before)
  pub own_is : (p : Pass GateDeed) → entries_of (hand_number old) (gate_pairs before)
      ≡ own_entries (slice_index_or old.gates.items gate p)

-- the hold is of the gatekeeper's lock, and began with the hand's pass of it
pub record IsHeldBy (shared : Shared) (now : Hand) (gate : ℕ) (before : List GateEntry) (held : Held NotedGate GateDeed)
    : Type 0 where
  pub went : (p : Pass GateDeed) → WentInWith (slice_index_or now.gates.items gate p) held
  pub lock : (c : Chronicle NotedGate GateDeed) → lock_in held ≡ lock_of (slice_index_or shared.gates.items gate c)
  pub entry : log_at_entry held ≡ gate_pairs before

-- the gatekeeper has its frame, its notes have seen what the passes have, and these entries of the hand are new
pub record HasMachine (shared : Shared) (now : Hand) (number gate : ℕ) (before added : List GateEntry)
    (noted_gate : NotedGate) : Type 0 where
  pub home : noted_gate.gate.home ≡ gate
  pub gates : noted_gate.gate.gates ≡ length shared.gates.items
  pub shards : noted_gate.gate.shards ≡ length shared.shards.items
  pub frame : (c : Chronicle NotedGate GateDeed)
      → frame_of_gate noted_gate.gate noted_gate.notes ≡ (lock_of (slice_index_or shared.gates.items gate c)).frame
  pub log : noted_gate.gate.log ≡ before ++ added
  pub by : All (λ (e : GateEntry). e.author ≡ number) added
  pub notes : (own_entries : List GateEntry)
      → account_of_gate gate own_entries (map seen_by_note noted_gate.notes.gates.items)
      (seen_by_note noted_gate.notes.store)
      (map seen_by_note noted_gate.notes.shards.items)
      ≡ seen_by_gate_passes gate own_entries now.gates.items now.store now.shards.items

-- The hand went in as `old` and is now `now`; the log was `before`, and `added` is what the hand has added.
pub record IsInGate (shared : Shared) (old now : Hand) (gate : ℕ) (before added : List GateEntry)
    (held : Held NotedGate GateDeed) : Type 0 where
  pub elsewhere : SeesElsewhere shared old now gate
  pub found : HasFoundLog old gate before
  pub hold : IsHeldBy shared now gate before held
  pub machine : HasMachine shared now (hand_number old) gate before added (machine_of held)
