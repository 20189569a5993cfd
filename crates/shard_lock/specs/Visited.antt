-- What a visit does under both locks, over the oracle's log as it was in that hold.
use Rattle.std.specs.Prelude.{◌≡◌, ℕ, List, ◌++◌, false, map, take, None, IsSome, Result, IfErr, IfOk, OnErr, OnOk}
use mathlib.Core.List.{IsPrefix}
use Rattle.weave_data.specs.declared.name.Name.{Name}
use Rattle.graph_ops.specs.Operations.{State}
use Rattle.vector_stamp.specs.declared.clock.Stamp.{Stamp}
use Rattle.weave_entries.specs.declared.oracle_log.OracleDeed.{OracleDeed}
use Rattle.weave_entries.specs.declared.oracle_log.OracleEntry.{OracleEntry}
use Rattle.weave_entries.specs.declared.shard_log.ShardDeed.TheVariants.{Visited}
use Rattle.weave_entries.specs.OracleReplay.{oracle_entry_of, pairs_of_log}
use Rattle.weave_entries.specs.ShardReplay.{first_unready, state_of_updates, updates_of}
use Rattle.weave_entries.specs.ShardRules.{entries_of_visit, is_judge_asked_by_visit, is_settled_by, pairs_after_visit, updates_read}
use Rattle.shard_node.specs.Shards.{AddsEntry, IsRightlyUnread, ShardView}
use Rattle.shard_node.specs.declared.fault.VisitFault.{VisitFault}
use Rattle.chronicle.specs.Logs.{Log, entries_of}
use Rattle.seen_logs.specs.Entries.{oracle_entries, oracle_pairs}

-- The oracle's log was `before`, which begins with the list that had been seen, and has this author's own entries. Then
-- the list `has` was seen, which is the log after the visit. The answer and both entries are those of the shard's rule
-- over `before`. At a refusal, and out of memory, nothing was added.
pub record VisitsOver (author request : ℕ) (stamp : Stamp) (v : Name) (old new : ShardView)
    (had own has : Log OracleDeed)
    (before : List OracleEntry) (result : Result State VisitFault) : Type 0 where
  pub begins : IsPrefix had (oracle_pairs before)
  pub own_then : entries_of author (oracle_pairs before) ≡ own
  pub ready : OnOk result (first_unready old.gates stamp old.log ≡ None)
  pub state : IfOk result (λ state. state
      ≡ state_of_updates (take (updates_read (pairs_of_log before) stamp v old.log) (updates_of v old.log)))
  pub entry : OnOk result (AddsEntry old new author (Visited request stamp v
      (updates_read (pairs_of_log before) stamp v old.log) (is_settled_by (pairs_of_log before) stamp v old.log)))
  pub logged : OnOk result (has
      ≡ oracle_pairs (before ++ map oracle_entry_of (entries_of_visit (pairs_of_log before) author stamp v old.log)))
  pub pairs : OnOk result (pairs_of_log (oracle_entries has) ≡ pairs_after_visit (pairs_of_log before) stamp v old.log)
  pub not_ready : IsSome (first_unready old.gates stamp old.log) → has ≡ oracle_pairs before
  pub not_asked : is_judge_asked_by_visit stamp v old.log ≡ false → has ≡ oracle_pairs before
  pub refused : IfErr result (λ fault. IsRightlyUnread old.gates stamp old.log fault)
  pub unchanged : OnErr result (new ≡ old)
  pub oracle : OnErr result (has ≡ oracle_pairs before)
