-- What is seen of a shard.
-- Used by `apply`, `arrive` and `visit`.
use Rattle.std.proofs.Common.{◌≡◌, ℕ, List, ◌∙◌}
use Rattle.weave_entries.specs.declared.shard_log.ShardEntry.{ShardEntry}
use Rattle.shard_node.specs.Shards.{ShardView}

-- with the same log it is the same
pub same_view : (number gates : ℕ) (new log : List ShardEntry) (old : ShardView) → new ≡ log → ◌≡◌ {A = ShardView} (record { number = number; gates = gates; log = log }) old → ◌≡◌ {A = ShardView} (record { number = number; gates = gates; log = new }) old
same_view number gates new log old same is = (λ i. record { number = number; gates = gates; log = same i }) ∙ is
