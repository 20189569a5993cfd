-- An account goes on: each of its logs is the beginning of one of another account.
use Rattle.std.specs.Prelude.{◌≡◌, ℕ, ◌==◌, List, ◌++◌, filter}
use Rattle.weave_entries.specs.declared.shard_log.ShardEntry.{ShardEntry}
use Rattle.weave_entries.specs.ShardReplay.{Visit, visits_of}
use Rattle.weave_account.specs.declared.account.Account.{Account}
use Rattle.weave_account.specs.Account.{gate_log, shard_log, session_log}

-- a list begins another one
abbrev pub IsBeginningOf : {E : Type 0} → List E → List E → Type 0
IsBeginningOf {E} log next = (more : List E) × (next ≡ log ++ more)

-- each log of the account begins the log of the next one
pub record GoesOn (account next : Account) : Type 0 where
  pub gates : (home : ℕ) → IsBeginningOf (gate_log account home) (gate_log next home)
  pub store : IsBeginningOf account.store next.store
  pub oracle : IsBeginningOf account.oracle next.oracle
  pub shards : (shard : ℕ) → IsBeginningOf (shard_log account shard) (shard_log next shard)
  pub sessions : (session : ℕ) → IsBeginningOf (session_log account session) (session_log next session)

-- the visits of a request in a shard, in order
abbrev pub visits_by : ℕ → List ShardEntry → List Visit
visits_by r log = filter (λ (visit : Visit). visit.request == r) (visits_of log)
