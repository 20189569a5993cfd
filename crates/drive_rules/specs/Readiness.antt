-- When a gatekeeper no longer keeps a shard from being ready for a program.
use Rattle.std.specs.Prelude.{ℕ, ◌≤◌, Contains, IsTrue}
use Rattle.vector_stamp.specs.declared.clock.Stamp.{Stamp}
use Rattle.vector_stamp.specs.Order.{stamp_before}
use Rattle.weave_entries.specs.declared.message.Addressed.{Addressed}
use Rattle.weave_entries.specs.GateReplay.{addressed_to}
use Rattle.weave_entries.specs.ShardReplay.{processed_count}
use Rattle.weave_account.specs.declared.account.Account.{Account}
use Rattle.weave_account.specs.Account.{gate_log, shard_log}

-- a message of this gatekeeper's channel to a shard is after the stamp, and was processed
pub record IsPassed (account : Account) (shard : ℕ) (stamp : Stamp) (home : ℕ) : Type 0 where
  pub addressed : Addressed
  pub sent : Contains (addressed_to shard (gate_log account home)) addressed
  pub later : IsTrue (stamp_before stamp addressed.message.stamp)
  pub done : addressed.number ≤ processed_count home (shard_log account shard)
