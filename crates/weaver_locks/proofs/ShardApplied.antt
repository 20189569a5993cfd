-- The call that processes the head of a channel in the lock of a shard adds its entry, or none if it is refused.
-- Used by `apply`.
use Rattle.std.proofs.Common.{◌≡◌, ℕ, ◌+◌, List, subst}
use Rattle.std.specs.Prelude.{OnErr, OnOk, Result}
use Rattle.weave_entries.specs.declared.shard_log.ShardDeed.TheVariants.{Applied}
use Rattle.weave_entries.specs.declared.shard_log.ShardEntry.{ShardEntry}
use Rattle.weave_entries.specs.ShardReplay.{processed_count}
use Rattle.shard_node.specs.declared.fault.ApplyFault.{ApplyFault}
use Rattle.shard_node.specs.Shards.{AddsEntry}
use Rattle.shard_lock.specs.Notes.{NotedShardView}
use Rattle.weaver_locks.specs.declared.hand.Hand.{Hand}
use Rattle.weaver_locks.specs.Hands.{hand_number}
use Rattle.weaver_locks.specs.ShardHolds.{shard_entries_of}
use Rattle.weaver_locks.proofs.ShardCalled.{IsCalled}
use Rattle.weaver_locks.proofs.ShardDone.{goes_by}

module _ (old : Hand) (author gate : ℕ) (author_is : author ≡ hand_number old) (r : Result (Unit {0}) ApplyFault) (s m held : NotedShardView)
    (s_is : s ≡ held) where
  abbrev pub added : List ShardEntry
  added = shard_entries_of old (Applied gate (processed_count gate held.shard.log + 1)) r

  -- the call adds the entry of a processed message if it succeeds, and nothing if it is refused
  pub applied : OnOk r (AddsEntry s.shard m.shard author (Applied gate (processed_count gate s.shard.log + 1))) → OnErr r (m.shard ≡ s.shard)
      → m.shards ≡ s.shards → m.notes ≡ s.notes → IsCalled s m added
  applied adds same shards notes = subst (λ (v : NotedShardView). IsCalled s m (shard_entries_of old (Applied gate (processed_count gate v.shard.log + 1)) r)) s_is
      (record { goes = goes_by old author (Applied gate (processed_count gate s.shard.log + 1)) s.shard m.shard author_is r adds same; shards = shards; notes = notes })
