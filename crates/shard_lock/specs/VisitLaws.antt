-- The laws of the crates below that a visit relies on, in one record. No public contract cites this.
use Rattle.std.specs.Prelude.{◌≡◌, ◌≢◌, ◌↔◌, ℕ, ◌+◌, ◌<◌, ◌≤◌, List, [], ◌∷◌, ◌++◌, map, take, length, slice_get, AllPairs, Contains, IsTrue, Some}
use Rattle.weave_data.specs.declared.name.Name.{Name}
use Rattle.weave_data.specs.Names.{shard_of}
use Rattle.weave_data.specs.Limits.{most_gates}
use Rattle.vector_stamp.specs.declared.clock.Stamp.{Stamp}
use Rattle.vector_stamp.specs.Order.{id_of}
use Rattle.vector_stamp.specs.Precedence.{AreAmong, GivenPair, Precedes, precedes}
use Rattle.vector_stamp.specs.Seeing.{last_seen, seen_of}
use Rattle.vector_stamp.specs.Settling.{additions_from, pairs_of}
use Rattle.weave_entries.specs.declared.shard_log.ShardEntry.{ShardEntry}
use Rattle.weave_entries.specs.declared.store_log.StoreEntry.{StoreEntry}
use Rattle.weave_entries.specs.GateReplay.{BegunRequest, running_of}
use Rattle.weave_entries.specs.GateRules.{IsGateLog}
use Rattle.weave_entries.specs.ShardReplay.{Update, updates_of}
use Rattle.weave_entries.specs.ShardRules.{IsKeptFor, IsShardLog, last_read, update_stamps, updates_read}
use Rattle.weave_entries.specs.StoreReplay.{commits_naming, commits_of}
use Rattle.weave_account.specs.declared.account.Account.{Account}
use Rattle.weave_account.specs.Account.{all_begun, gate_log, shard_log}
use Rattle.weave_account.specs.Seen.{HasSeen, HasSeenSent}
use Rattle.weave_account.specs.Shards.{update_of}
use Rattle.seen_logs.specs.Seen.{ShardRefersWithin}

-- what a shard has seen keeps what a program sees, and a visit splits the updates of its vertex
pub record VisitLaws : Type 0 where
  pub sent : (gates shards : ℕ) (seen : Account) (shard : ℕ) → gates ≤ most_gates
      → ((home : ℕ) → IsGateLog home shards (gate_log seen home))
      → IsShardLog gates (shard_log seen shard) → ShardRefersWithin shards seen shard
      → HasSeenSent gates shards seen shard (shard_log seen shard)
  pub kept : (gates shards : ℕ) (seen : Account) (shard : ℕ) (log : List ShardEntry)
      → HasSeen shards seen.store shard log → HasSeenSent gates shards seen shard log → (home : ℕ) → home < gates
      → (program : BegunRequest) → Contains (running_of (gate_log seen home)) program
      → (v : Name) → shard_of v shards ≡ shard → IsKeptFor program.stamp v log
  pub updates : (shards : ℕ) (store : List StoreEntry) (shard : ℕ) (log : List ShardEntry)
      → HasSeen shards store shard log → (v : Name) → shard_of v shards ≡ shard → updates_of v log
      ≡ map (update_of v) (take (length (updates_of v log)) (commits_naming v (commits_of store)))
  pub ids : (shards : ℕ) (seen : Account) → length seen.gates ≤ most_gates
      → ((home : ℕ) → IsGateLog home shards (gate_log seen home))
      → AllPairs (λ (a b : BegunRequest). id_of a.stamp ≢ id_of b.stamp) (all_begun seen)
  pub skipped : (pairs : List GivenPair) (program : Stamp) (v : Name) (log : List ShardEntry) (place : ℕ)
      (later : Update)
      → updates_read pairs program v log ≤ place → slice_get (updates_of v log) place ≡ Some later
      → IsTrue (precedes pairs program later.stamp)
  pub read : (pairs : List GivenPair) (program : Stamp) (v : Name) (log : List ShardEntry) → IsKeptFor program v log
      → updates_read pairs program v log ≡ seen_of pairs program (update_stamps v log)
  pub last : (pairs : List GivenPair) (program : Stamp) (v : Name) (log : List ShardEntry) → IsKeptFor program v log
      → last_read pairs program v log ≡ last_seen (seen_of pairs program (update_stamps v log)) (update_stamps v log)
  pub named : (updates : List Stamp) (update : Stamp) (before : ℕ) → slice_get updates before ≡ Some update
      → last_seen (before + 1) updates ≡ update ∷ []
  pub all_precede : (pairs : List GivenPair) (earlier : List Stamp) (later event : Stamp) → Contains earlier event
      → IsTrue (precedes (pairs ++ pairs_of (additions_from 0 pairs earlier later) later) event later)
  pub tested : (pairs : List GivenPair) (a b : Stamp) → Precedes pairs a b ↔ IsTrue (precedes pairs a b)
  pub grows : (pairs others : List GivenPair) → AreAmong pairs others → (a b : Stamp) → IsTrue (precedes pairs a b)
      → IsTrue (precedes others a b)
