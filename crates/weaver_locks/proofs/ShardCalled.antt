-- A call in the lock of a shard that adds at most one entry, and visits nothing.
-- Used by `apply`, `arrive`, ShardApplied and ShardArrived.
use Rattle.std.proofs.Common.{◌≡◌, ℕ, ◌<◌, List, [], length, get_or, Contains, ap, subst}
use Rattle.std.specs.Prelude.{Result, Ok, Err}
use Rattle.weave_data.proofs.Members.{has_none, only}
use Rattle.weave_entries.specs.declared.shard_log.ShardDeed.{ShardDeed}
use Rattle.weave_entries.specs.declared.shard_log.ShardDeed.TheVariants.{Applied, Visited}
use Rattle.weave_entries.specs.declared.shard_log.ShardEntry.{ShardEntry}
use Rattle.weave_entries.specs.ShardReplay.{Visit}
use Rattle.seen_logs.specs.Entries.{shard_pairs}
use Rattle.seen_logs.specs.Seen.{visit_entry}
use Rattle.chronicle.specs.declared.held.Held.{Held}
use Rattle.chronicle.specs.declared.pass.Pass.{Pass}
use Rattle.chronicle.specs.Holds.{log_at_entry, machine_of}
use Rattle.chronicle.specs.Logs.{Follows}
use Rattle.chronicle.specs.Passes.{number_of}
use Rattle.shard_lock.specs.declared.noted_shard.NotedShard.{NotedShard}
use Rattle.shard_lock.specs.Notes.{ShardIsKept, NotedShardView}
use Rattle.weaver_locks.specs.declared.hand.Hand.{Hand}
use Rattle.weaver_locks.specs.declared.shared.Shared.{Shared}
use Rattle.weaver_locks.specs.Hands.{hand_number, IsHand}
use Rattle.weaver_locks.specs.InShard.{IsDoneInShard, IsInShard}
use Rattle.weaver_locks.specs.ShardHolds.{shard_entries_of}
use Rattle.weaver_locks.proofs.ShardDone.{GoesBy, done, follows}

-- the machine s is m now: its log has these entries more
pub record IsCalled (s m : NotedShardView) (added : List ShardEntry) : Type 0 where
  pub goes : GoesBy s.shard m.shard added
  pub shards : m.shards ≡ s.shards
  pub notes : m.notes ≡ s.notes

-- an entry that is no visit
pub no_visits : {A F : Type 0} (hand : Hand) (deed : ShardDeed) (r : Result A F)
    → ((v : Visit) → deed ≡ Visited v.request v.stamp v.vertex v.updates v.settled → ⊥)
    → (v : Visit) → Contains (shard_entries_of hand deed r) (visit_entry v) → ⊥
no_visits hand deed (Ok a) other v has = other v (ap (λ (e : ShardEntry). e.deed) (only _ (visit_entry v) has))
no_visits hand deed (Err f) other v has = has_none (visit_entry v) has

-- the processing of a message is no visit
pub applied_apart : (gate number : ℕ) (v : Visit) → Applied gate number ≡ Visited v.request v.stamp v.vertex v.updates v.settled → ⊥
applied_apart gate number v is = absurd cc

module _ (shared : Shared) (old now : Hand) (shard : ℕ) (held : Held NotedShard ShardDeed) (hand : IsHand shared old)
    (low : shard < length shared.shards.items) (i : IsInShard shared old now shard held) (s m : NotedShardView) (s_is : s ≡ machine_of held)
    (added : List ShardEntry) (called : IsCalled s m added) (by : (e : ShardEntry) → Contains added e → e.author ≡ hand_number old) where
  here : IsCalled (machine_of held) m added
  here = subst (λ (v : NotedShardView). IsCalled v m added) s_is called

  -- since the hold began, the shard's log went on by entries of the hand alone
  pub called_follows : (p : Pass ShardDeed) → Follows (number_of (get_or now.shards.items shard p)) (log_at_entry held) (shard_pairs m.shard.log)
  called_follows = follows shared old now shard held hand low i m.shard.log added here.goes.log by

  -- if the shard keeps what shards keep, and no visit was added, the hand is done in the shard
  pub called_done : ShardIsKept m.shard m.shards m.notes → ((v : Visit) → Contains added (visit_entry v) → ⊥)
      → IsDoneInShard shared old now shard m.shard.log (machine_of held).shard.log added []
  called_done kept none = done shared old now shard held hand low i m added here.goes here.shards here.notes kept by none
