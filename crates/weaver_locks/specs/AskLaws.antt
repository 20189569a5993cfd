-- The laws of the crates below that a visit in a hold relies on, in one record. No public contract cites this.
use Rattle.std.specs.Prelude.{◌≡◌, ◌↔◌, ℕ, List, [], ◌∷◌, ◌++◌, IsTrue}
use Rattle.weave_data.specs.declared.name.Name.{Name}
use Rattle.vector_stamp.specs.declared.clock.Stamp.{Stamp}
use Rattle.vector_stamp.specs.Precedence.{AreAmong, GivenPair, Precedes, precedes}
use Rattle.vector_stamp.specs.Seeing.{last_seen, seen_of}
use Rattle.weave_entries.specs.declared.shard_log.ShardEntry.{ShardEntry}
use Rattle.weave_entries.specs.ShardReplay.{processed_by, updates_of}
use Rattle.weave_entries.specs.ShardRules.{IsKeptFor, IsShardLog, last_read, update_stamps, updates_read}

-- what is kept is read like all updates, a visit leaves the updates, and precedence is decided and grows
pub record AskLaws : Type 0 where
  pub read : (pairs : List GivenPair) (program : Stamp) (v : Name) (log : List ShardEntry) → IsKeptFor program v log
      → updates_read pairs program v log ≡ seen_of pairs program (update_stamps v log)
  pub last : (pairs : List GivenPair) (program : Stamp) (v : Name) (log : List ShardEntry) → IsKeptFor program v log
      → last_read pairs program v log ≡ last_seen (seen_of pairs program (update_stamps v log)) (update_stamps v log)
  pub still : (gates : ℕ) (log : List ShardEntry) (entry : ShardEntry) (v : Name) → IsShardLog gates log
      → processed_by entry.deed ≡ [] → updates_of v (log ++ entry ∷ []) ≡ updates_of v log
  pub tested : (pairs : List GivenPair) (a b : Stamp) → Precedes pairs a b ↔ IsTrue (precedes pairs a b)
  pub grows : (pairs others : List GivenPair) → AreAmong pairs others → (a b : Stamp) → IsTrue (precedes pairs a b)
      → IsTrue (precedes others a b)
