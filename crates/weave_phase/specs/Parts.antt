-- The parts of a core before a phase, and what the phase leaves of them. No public contract cites this.
use Rattle.std.specs.Prelude.{◌≡◌, ℕ, ◌<◌, length, slice_index_or}
use Rattle.shard_node.specs.Shards.{ShardView}
use Rattle.weave_entries.specs.ShardRules.{IsShardLog}
use Rattle.weave_entries.specs.StoreRule.{IsStoreLog}
use Rattle.weave_account.specs.GoesOn.{GoesOn}
use Rattle.weaver_core.specs.declared.split.Split.{Split}
use Rattle.weaver_core.specs.Splitting.{account_of, CanBeJoined}
use Rattle.weaver_workers.specs.Phases.{phase_end, phase_start}
use Rattle.weaver_workers.specs.Workers.{HasPhase}
use Rattle.workers_account.specs.Pairs.{AddsOpenPairs, AreBegunByOwnWorkers, GainBelow}
use Rattle.workers_account.specs.Ready.{IsAnsweredUpTo}
use Rattle.workers_account.specs.SessionRuns.{WasRunForSession}

-- parts that can be joined, whose machines keep their logs' rules, before this phase of their script
pub record AreReadyParts (phase : ℕ) (split : Split) : Type 0 where
  pub joined : CanBeJoined split
  pub store : IsStoreLog split.store
  pub shards : (k : ℕ) (s : ShardView) → k < length split.shards.items
      → IsShardLog (slice_index_or split.shards.items k s).gates (slice_index_or split.shards.items k s).log
  pub has : HasPhase split.script phase
  pub answered : IsAnsweredUpTo split.script (phase_start split.script phase) (account_of split)

-- parts of the same script that can be joined, whose logs went on; the phase was run for each session, by a worker of
-- its own
pub record PartsGoOn (phase : ℕ) (old new : Split) : Type 0 where
  pub joined : CanBeJoined new
  pub script : new.script ≡ old.script
  pub goes_on : GoesOn (account_of old) (account_of new)
  pub begins : GainBelow (phase_end old.script phase) (account_of old) (account_of new)
  pub workers : AreBegunByOwnWorkers old.script (account_of old) (account_of new)
  pub pairs : AddsOpenPairs old.script (account_of old) (account_of new)
  pub sessions : (session : ℕ)
      → WasRunForSession old.script (phase_end old.script phase) session (account_of old) (account_of new)
