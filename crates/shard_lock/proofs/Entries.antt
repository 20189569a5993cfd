-- A shard's log turned into pairs and back is itself, and so are pairs turned into entries and back.
-- Used by `entries_come_back`.
use Rattle.std.proofs.Common.{◌≡◌, List, [], ◌∷◌, map, refl, ap}
use Rattle.weave_entries.specs.declared.shard_log.ShardDeed.{ShardDeed}
use Rattle.weave_entries.specs.declared.shard_log.ShardEntry.{ShardEntry}
use Rattle.chronicle.specs.Logs.{Log}
use Rattle.seen_logs.specs.Entries.{shard_entries, shard_pair}

-- a shard's log, turned into pairs and back, is itself
pub entries_back : (log : List ShardEntry) → shard_entries (map shard_pair log) ≡ log
entries_back [] = refl
entries_back (entry ∷ log) = ap (λ (l : List ShardEntry). entry ∷ l) (entries_back log)

-- and so are pairs that are turned into entries and back
pub pairs_back : (log : Log ShardDeed) → map shard_pair (shard_entries log) ≡ log
pairs_back [] = refl
pairs_back (pair ∷ log) = ap (λ (l : Log ShardDeed). pair ∷ l) (pairs_back log)
