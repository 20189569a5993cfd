-- The logs at the end of a run by hands.
use Rattle.std.specs.Prelude.{◌⊎◌, ℕ, ◌<◌, ◌≤◌, List, length}
use Rattle.weave_entries.specs.declared.gate_log.GateEntry.{GateEntry}
use Rattle.weave_entries.specs.declared.oracle_log.OracleEntry.{OracleEntry}
use Rattle.weave_entries.specs.declared.shard_log.ShardEntry.{ShardEntry}
use Rattle.weave_entries.specs.declared.store_log.StoreEntry.{StoreEntry}
use Rattle.weave_entries.specs.Logs.{AtEachEntry}
use Rattle.weave_account.specs.declared.account.Account.{Account}
use Rattle.weave_account.specs.Account.{gate_log, shard_log}
use Rattle.seen_logs.specs.Seen.{IsSeenByHand, IsWithin, VisitsOwnPrograms}

-- a log had an entry at the start, or one of the hands made it and has seen it
abbrev pub IsOfHands : {E : Type 0} → ℕ → List E → (ℕ → List E) → List E → ℕ → Type 0
IsOfHands {E} hands start seen_by before author =
    (length before < length start) ⊎ ((author < hands) × (length before < length (seen_by author)))

-- The hands have the numbers from 0, and each made visits for its own programs alone. What each of them has seen is
-- within the closed logs, and each entry there was there at the start, or is of a hand, which has seen it.
pub record AreOfHands (shards hands : ℕ) (start : Account) (seen_by : ℕ → Account) (closed : Account) : Type 0 where
  pub some : 1 ≤ hands
  pub seen : (number : ℕ) → number < hands → IsSeenByHand shards number start (seen_by number)
  pub own_visits : (number : ℕ) → number < hands → VisitsOwnPrograms number start (seen_by number)
  pub within : (number : ℕ) → number < hands → IsWithin (seen_by number) closed
  pub gate_entries : (home : ℕ) → AtEachEntry (λ before (entry : GateEntry).
      IsOfHands hands (gate_log start home) (λ number. gate_log (seen_by number) home) before entry.author)
      (gate_log closed home)
  pub store_entries : AtEachEntry (λ before (entry : StoreEntry).
      IsOfHands hands start.store (λ number. (seen_by number).store) before entry.author) closed.store
  pub oracle_entries : AtEachEntry (λ before (entry : OracleEntry).
      IsOfHands hands start.oracle (λ number. (seen_by number).oracle) before entry.author) closed.oracle
  pub shard_entries : (shard : ℕ) → AtEachEntry (λ before (entry : ShardEntry).
      IsOfHands hands (shard_log start shard) (λ number. shard_log (seen_by number) shard) before entry.author)
      (shard_log closed shard)
