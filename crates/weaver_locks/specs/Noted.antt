-- The notes of machines that are put behind new locks. No public contract cites this.
use Rattle.std.specs.Prelude.{◌≡◌, List, [], ◌∷◌, map, length, All, vec_len}
use Rattle.weave_entries.specs.declared.gate_log.GateEntry.{GateEntry}
use Rattle.seen_logs.specs.Entries.{gate_entries, gate_pair, oracle_pair, shard_pair, store_pair}
use Rattle.chronicle.specs.declared.chronicle.Chronicle.{Chronicle}
use Rattle.chronicle.specs.declared.note.Note.{Note}
use Rattle.chronicle.specs.Locks.{Lock, lock_of, IsFilled}
use Rattle.chronicle.specs.Passes.{IsNote, lock_noted, seen_by_note}
use Rattle.lock_row.specs.Openings.{AllFit, AreOneRow}
use Rattle.lock_row.specs.Rows.{names_of}
use Rattle.gate_lock.specs.declared.noted_gate.NotedGate.{NotedGate}
use Rattle.gate_lock.specs.Notes.{frame_of_gate}
use Rattle.shard_lock.specs.declared.noted_shard.NotedShard.{NotedShard}
use Rattle.shard_lock.specs.Notes.{frame_of_shard}
use Rattle.gate_lock.specs.declared.notes.GateNotes.{GateNotes}
use Rattle.shard_lock.specs.declared.notes.ShardNotes.{ShardNotes}
use Rattle.weaver_locks.specs.declared.locks.Locks.{Locks}
use Rattle.weaver_locks.specs.declared.machines.Machines.{Machines}

-- the note is of this lock, and has seen the log at the start
pub record NotesStart {E : Type 0} (lock : Lock E) (note : Note E) : Type 0 where
  pub lock_is : IsNote lock note
  pub start : seen_by_note note ≡ lock.start

-- there is a note of each lock of the row, which has seen its log at the start
pub record NoteStarts {M E : Type 0} (locks : List (Chronicle M E)) (notes : List (Note E)) : Type 0 where
  pub names : map lock_noted notes ≡ names_of locks
  pub starts : map seen_by_note notes ≡ map (λ c. (lock_of c).start) locks

-- a gatekeeper's notes of all logs to which its entries refer, as they were at the start
pub record GateNotesStart (locks : Locks) (notes : GateNotes) : Type 0 where
  pub gates : NoteStarts locks.gates.items notes.gates.items
  pub store : NotesStart (lock_of locks.store) notes.store
  pub shards : NoteStarts locks.shards.items notes.shards.items

-- a shard's notes
pub record ShardNotesStart (locks : Locks) (notes : ShardNotes) : Type 0 where
  pub gates : NoteStarts locks.gates.items notes.gates.items
  pub store : NotesStart (lock_of locks.store) notes.store
  pub oracle : NotesStart (lock_of locks.oracle) notes.oracle

-- the gatekeepers' logs at the start
abbrev pub gates_start : Locks → List (List GateEntry)
gates_start locks = map gate_entries (map (λ c. (lock_of c).start) locks.gates.items)

-- the locks were opened for these machines
pub record FitLocks (locks : Locks) (machines : Machines) : Type 0 where
  pub gate_count : vec_len machines.gates ≡ length locks.gates.items
  pub gates : AllFit (λ (n : NotedGate). frame_of_gate n.gate n.notes) (λ n. map gate_pair n.gate.log)
      locks.gates.items
      machines.gates.items
  pub store_frame : (machines.store.shards ∷ [])
      ∷ lock_noted machines.store.oracle ∷ map lock_noted machines.store.gates ≡ (lock_of locks.store).frame
  pub store_log : map store_pair machines.store.store ≡ (lock_of locks.store).start
  pub oracle_frame : (machines.oracle.shards ∷ []) ∷ map lock_noted machines.oracle.gates ≡ (lock_of locks.oracle).frame
  pub oracle_log : map oracle_pair machines.oracle.oracle ≡ (lock_of locks.oracle).start
  pub shard_count : vec_len machines.shards ≡ length locks.shards.items
  pub shards : AllFit (λ (n : NotedShard). frame_of_shard n.shard n.shards n.notes)
      (λ n. map shard_pair n.shard.log)
      locks.shards.items machines.shards.items

-- the same locks, with their machines
pub record AreFilled (before after : Locks) : Type 0 where
  pub gate_count : length after.gates.items ≡ length before.gates.items
  pub gates : AreOneRow before.gates.items after.gates.items
  pub gate_names : names_of after.gates.items ≡ names_of before.gates.items
  pub gates_filled : All IsFilled after.gates.items
  pub store : lock_of after.store ≡ lock_of before.store
  pub store_filled : IsFilled after.store
  pub oracle : lock_of after.oracle ≡ lock_of before.oracle
  pub oracle_filled : IsFilled after.oracle
  pub shard_count : length after.shards.items ≡ length before.shards.items
  pub shards : AreOneRow before.shards.items after.shards.items
  pub shard_names : names_of after.shards.items ≡ names_of before.shards.items
  pub shards_filled : All IsFilled after.shards.items
