-- The locks of a run.
use Rattle.std.specs.Prelude.{ℕ, map, length}
use Rattle.weave_account.specs.declared.account.Account.{Account}
use Rattle.seen_logs.specs.Entries.{account_of_logs}
use Rattle.chronicle.specs.Locks.{lock_of}
use Rattle.weaver_locks.specs.declared.shared.Shared.{Shared}

-- the logs with which the locks began
abbrev pub start_of : Shared → Account
start_of shared = account_of_logs (map (λ c. (lock_of c).start) shared.gates.items) (lock_of shared.store).start
    (lock_of shared.oracle).start (map (λ c. (lock_of c).start) shared.shards.items)

-- how many hands there are
abbrev pub hands_of : Shared → ℕ
hands_of shared = (lock_of shared.store).passes

-- how many gatekeepers and shards there are
abbrev pub gate_count : Shared → ℕ
gate_count shared = length shared.gates.items

abbrev pub shard_count : Shared → ℕ
shard_count shared = length shared.shards.items
