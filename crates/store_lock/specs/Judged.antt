-- What a judgement does under both locks, over the oracle's log as it was in that hold.
use Rattle.std.specs.Prelude.{◌≡◌, ℕ, List, [], ◌∷◌, ◌++◌, map, Result, IfOk, OnErr}
use mathlib.Core.List.{IsPrefix}
use Rattle.graph_ops.specs.declared.op.Op.{Op}
use Rattle.vector_stamp.specs.declared.clock.Stamp.{Stamp}
use Rattle.weave_entries.specs.declared.oracle_log.OracleDeed.{OracleDeed}
use Rattle.weave_entries.specs.declared.oracle_log.OracleEntry.{OracleEntry}
use Rattle.weave_entries.specs.declared.store_log.StoreEntry.{StoreEntry}
use Rattle.weave_entries.specs.declared.verdict.Verdict.{Verdict}
use Rattle.weave_entries.specs.OracleReplay.{oracle_entry_of, pairs_of_log}
use Rattle.backing_store.specs.Commits.{asked_at, entries_added, judged_entry, pairs_added, verdict_at}
use Rattle.chronicle.specs.Logs.{Log, entries_of}
use Rattle.seen_logs.specs.Entries.{oracle_entries, oracle_pairs}

-- The oracle's log was `before`, which begins with the list that had been seen, and has this author's own entries. Then
-- the list `has` was seen, which is the log after the judgement. The verdict and both entries are those of the store's
-- rule over `before`. At an error nothing was added.
pub record JudgesOver {E : Type 0} (author request : ℕ) (stamp : Stamp) (ops : List Op) (old new : List StoreEntry)
    (had own has : Log OracleDeed) (before : List OracleEntry) (result : Result Verdict E) : Type 0 where
  pub begins : IsPrefix had (oracle_pairs before)
  pub own_then : entries_of author (oracle_pairs before) ≡ own
  pub verdict : IfOk result (λ verdict. verdict ≡ verdict_at (pairs_of_log before) old stamp ops)
  pub entry : IfOk result (λ verdict. new ≡ old ++ judged_entry author request stamp ops old verdict ∷ [])
  pub logged : IfOk result (λ verdict. has ≡ oracle_pairs (before
      ++ map oracle_entry_of (entries_added verdict author (pairs_of_log before) (asked_at old stamp ops) stamp)))
  pub pairs : IfOk result (λ verdict. pairs_of_log (oracle_entries has)
      ≡ pairs_of_log before ++ pairs_added verdict (pairs_of_log before) (asked_at old stamp ops) stamp)
  pub store : OnErr result (new ≡ old)
  pub oracle : OnErr result (has ≡ oracle_pairs before)
