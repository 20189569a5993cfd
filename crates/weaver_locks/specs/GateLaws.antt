-- The laws of the crates below on gatekeepers, in one. No public contract cites this.
use Rattle.std.specs.Prelude.{◌≡◌, ℕ, ◌<◌, List, [], ◌∷◌, ◌++◌, IsTrue}
use Rattle.weave_data.specs.Limits.{most_gates}
use Rattle.graph_ops.specs.declared.op.Op.{Op}
use Rattle.vector_stamp.specs.declared.clock.Clock.{Clock}
use Rattle.vector_stamp.specs.declared.clock.Stamp.{Stamp}
use Rattle.vector_stamp.specs.Clocks.{counts_no_more}
use Rattle.vector_stamp.specs.Precedence.{GivenPair}
use Rattle.weave_entries.specs.declared.gate_log.GateDeed.{GateDeed}
use Rattle.weave_entries.specs.declared.gate_log.GateEntry.{GateEntry}
use Rattle.weave_entries.specs.GateReplay.{clock_of, flight_after, flight_of}
use Rattle.weave_entries.specs.GateRules.{IsGateLog}
use Rattle.weave_entries.specs.Sending.{IsCountsOf}
use Rattle.weave_entries.specs.ShardRules.{IsShardLog}
use Rattle.weave_entries.specs.StoreReplay.{Commit}
use Rattle.weave_entries.specs.StoreRule.{verdict_on}
use Rattle.weave_account.specs.declared.account.Account.{Account}
use Rattle.weave_account.specs.Account.{gate_log, shard_log}
use Rattle.weave_account.specs.Clocks.{IsKnown}
use Rattle.weave_account.specs.GoesOn.{IsBeginningOf}
use Rattle.seen_logs.specs.References.{GateRefersAs}
use Rattle.seen_logs.specs.Seen.{GateRefersWithin, GatesGoOn, ShardsGoOn}

-- what a gatekeeper's entry refers to stays seen, its clock counts what was seen, known clocks may be heard, a flight
-- goes on entry by entry, and verdicts count what is named
pub record GateLaws : Type 0 where
  pub stays : (gates shards : ℕ) (seen next : Account) → GatesGoOn seen next
      → IsBeginningOf seen.store next.store → ShardsGoOn seen next
      → ((shard : ℕ) → IsShardLog gates (shard_log next shard))
      → (before : List GateEntry) (author : ℕ) (deed : GateDeed)
      → GateRefersAs seen shards before author deed → GateRefersAs next shards before author deed
  pub own_clock : (shards : ℕ) (seen : Account) (home : ℕ) → GateRefersWithin shards seen home
      → home < most_gates → IsKnown seen (clock_of home (gate_log seen home))
  pub may_be_heard : (shards home : ℕ) (account : Account) → home < most_gates
      → IsGateLog home shards (gate_log account home) → (clock : Clock) → IsKnown account clock
      → IsTrue (counts_no_more home (clock_of home (gate_log account home)) clock)
  pub flight : (log : List GateEntry) (entry : GateEntry)
      → flight_of (log ++ entry ∷ []) ≡ flight_after (flight_of log) entry.author entry.deed
  pub counts : (pairs : List GivenPair) (commits : List Commit) (stamp : Stamp) (ops : List Op)
      → IsCountsOf ops (verdict_on pairs commits stamp ops)
