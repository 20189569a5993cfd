-- What collections leave: the versions of a vertex that a shard keeps.
use Rattle.std.specs.Prelude.{ℕ, List, Contains, IsTrue, Option, Some, slice_get, IsSomeAnd}
use Rattle.weave_data.specs.declared.name.Name.{Name}
use Rattle.vector_stamp.specs.declared.clock.Clock.{Clock}
use Rattle.vector_stamp.specs.Order.{is_before}
use Rattle.weave_entries.specs.declared.shard_log.ShardEntry.{ShardEntry}
use Rattle.weave_entries.specs.declared.shard_log.ShardDeed.TheVariants.{Collected}
use Rattle.weave_entries.specs.ShardReplay.{Update, updates_of}
use Rattle.weave_entries.specs.ShardRules.{dropped_of}

-- the oldest version of a vertex that the shard keeps at the end of its log, as the update that made it
abbrev pub oldest_kept : Name → List ShardEntry → Option Update
oldest_kept v log = slice_get (updates_of v log) (dropped_of v log)

-- it is before a bound of the log
pub record IsBeforeABound (v : Name) (log : List ShardEntry) : Type 0 where
  pub author : ℕ
  pub bound : Clock
  pub collected : Contains log (record { author = author; deed = Collected (Some bound) })
  pub oldest : IsSomeAnd (oldest_kept v log) (λ (update : Update). IsTrue (is_before update.stamp.clock bound))
