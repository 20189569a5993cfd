-- What the store with its notes has seen, and what it keeps of that.
use Rattle.std.specs.Prelude.{ℕ, List, [], length, Contains}
use Rattle.vector_stamp.specs.declared.clock.Stamp.{Stamp}
use Rattle.weave_entries.specs.declared.gate_log.GateEntry.{GateEntry}
use Rattle.weave_entries.specs.declared.gate_log.GateDeed.{GateDeed}
use Rattle.weave_entries.specs.declared.oracle_log.OracleDeed.{OracleDeed}
use Rattle.weave_entries.specs.declared.oracle_log.OracleEntry.{OracleEntry}
use Rattle.weave_entries.specs.declared.store_log.StoreEntry.{StoreEntry}
use Rattle.weave_entries.specs.GateReplay.{txs_of}
use Rattle.weave_account.specs.declared.account.Account.{Account}
use Rattle.weave_account.specs.Account.{gate_log}
use Rattle.seen_logs.specs.Seen.{AreLegal, StoreRefersWithin}
use Rattle.chronicle.specs.declared.note.Note.{Note}
use Rattle.oracle_lock.specs.Seen.{of_gates}

-- what the store has seen: its own log, and these logs of gatekeepers and of the oracle
abbrev pub store_seen : List (List GateEntry) → List OracleEntry → List StoreEntry → Account
store_seen gates oracle log = record { gates = gates; store = log; oracle = oracle; shards = []; sessions = [] }

-- a transaction of this author was begun with this stamp, in what these logs show
abbrev pub IsBegunTx : List (List GateEntry) → ℕ → ℕ → Stamp → Type 0
IsBegunTx gates author request stamp =
    (home : ℕ) × Contains (txs_of (gate_log (of_gates gates) home))
    (record { author = author; request = request; stamp = stamp })

-- a store with notes: its log, the number of shards, the notes of gatekeepers' locks, and that of the oracle's
pub record StoreView : Type 0 where
  pub store : List StoreEntry
  pub shards : ℕ
  pub gates : List (Note GateDeed)
  pub oracle : Note OracleDeed

-- all that the store's entries refer to was seen, and each list that was seen is legal
pub record StoreIsKept (shards : ℕ) (gates : List (List GateEntry)) (oracle : List OracleEntry)
    (log : List StoreEntry) : Type 0 where
  pub refers : StoreRefersWithin (store_seen gates oracle log)
  pub legal : AreLegal (length gates) shards (store_seen gates oracle log)
