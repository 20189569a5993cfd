-- How the locks of a run fit each other. No public contract cites this.
use Rattle.std.specs.Prelude.{◌≡◌, ℕ, ◌<◌, ◌≤◌, List, [], ◌∷◌, length, slice_index_or, All}
use Rattle.weave_data.specs.Limits.{most_gates, most_shards}
use Rattle.weave_entries.specs.declared.gate_log.GateDeed.{GateDeed}
use Rattle.weave_entries.specs.declared.oracle_log.OracleDeed.{OracleDeed}
use Rattle.weave_entries.specs.declared.shard_log.ShardDeed.{ShardDeed}
use Rattle.weave_entries.specs.declared.store_log.StoreDeed.{StoreDeed}
use Rattle.chronicle.specs.declared.chronicle.Chronicle.{Chronicle}
use Rattle.chronicle.specs.Locks.{lock_of, name_of}
use Rattle.lock_row.specs.Rows.{names_of}
use Rattle.gate_lock.specs.declared.noted_gate.NotedGate.{NotedGate}
use Rattle.gate_lock.specs.Frames.{gate_frame}
use Rattle.oracle_lock.specs.declared.noted_oracle.NotedOracle.{NotedOracle}
use Rattle.shard_lock.specs.declared.noted_shard.NotedShard.{NotedShard}
use Rattle.shard_lock.specs.Frames.{shard_frame}
use Rattle.store_lock.specs.declared.noted_store.NotedStore.{NotedStore}

-- There are few gatekeepers and shards, all locks have as many passes as the store's, and each lock's frame has its
-- machine's numbers, and the names of the locks of which the machine keeps notes.
pub record AreFramed (gates : List (Chronicle NotedGate GateDeed)) (store : Chronicle NotedStore StoreDeed)
    (oracle : Chronicle NotedOracle OracleDeed) (shards : List (Chronicle NotedShard ShardDeed)) : Type 0 where
  pub some_gate : 1 ≤ length gates
  pub few_gates : length gates ≤ most_gates
  pub some_shard : 1 ≤ length shards
  pub few_shards : length shards ≤ most_shards
  pub some_pass : 1 ≤ (lock_of store).passes
  pub gate_passes : All (λ c. (lock_of c).passes ≡ (lock_of store).passes) gates
  pub oracle_passes : (lock_of oracle).passes ≡ (lock_of store).passes
  pub shard_passes : All (λ c. (lock_of c).passes ≡ (lock_of store).passes) shards
  pub gate_frames : (k : ℕ) (c : Chronicle NotedGate GateDeed) → k < length gates
      → (lock_of (slice_index_or gates k c)).frame ≡ gate_frame k (length gates) (length shards) (names_of gates)
      (name_of (lock_of store)) (names_of shards)
  pub store_frame : (lock_of store).frame ≡ (length shards ∷ []) ∷ name_of (lock_of oracle) ∷ names_of gates
  pub oracle_frame : (lock_of oracle).frame ≡ (length shards ∷ []) ∷ names_of gates
  pub shard_frames : (k : ℕ) (c : Chronicle NotedShard ShardDeed) → k < length shards
      → (lock_of (slice_index_or shards k c)).frame ≡ shard_frame k (length gates) (length shards)
      (name_of (lock_of store)) (name_of (lock_of oracle)) (names_of gates)
