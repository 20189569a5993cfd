-- What a worker's calls rely on: laws of the crates below, in one record. For tests: no public contract cites this.
use Rattle.std.specs.Prelude.{◌≡◌, ◌≢◌, ℕ, List, [], slice_index_or, Contains}
use Rattle.vector_stamp.specs.declared.clock.Stamp.{Stamp}
use Rattle.weave_entries.specs.declared.gate_log.GateDeed.{GateDeed}
use Rattle.weave_entries.specs.declared.gate_log.GateDeed.TheVariants.{Finished}
use Rattle.weave_entries.specs.declared.gate_log.GateEntry.{GateEntry}
use Rattle.weave_entries.specs.declared.oracle_log.OracleDeed.{OracleDeed}
use Rattle.weave_entries.specs.declared.shard_log.ShardDeed.{ShardDeed}
use Rattle.weave_entries.specs.declared.store_log.StoreDeed.{StoreDeed}
use Rattle.weave_entries.specs.GateReplay.{programs_of, running_of}
use Rattle.weave_entries.specs.ShardRules.{IsShardLog}
use Rattle.weave_account.specs.declared.account.Account.{Account}
use Rattle.weave_account.specs.Account.{gate_log, shard_log}
use Rattle.weave_account.specs.GoesOn.{IsBeginningOf}
use Rattle.seen_logs.specs.Entries.{account_of_logs, gate_entries}
use Rattle.seen_logs.specs.References.{GateRefersAs}
use Rattle.seen_logs.specs.Seen.{GatesGoOn, ShardsGoOn}

-- own programs run until they are finished, and what was seen stays seen
pub record WorkersLaws : Type 0 where
  pub at_gate : (gates : List (List (ℕ × GateDeed))) (store : List (ℕ × StoreDeed)) (oracle : List (ℕ × OracleDeed))
      (shards : List (List (ℕ × ShardDeed))) (home : ℕ)
      → gate_log (account_of_logs gates store oracle shards) home ≡ gate_entries (slice_index_or gates home [])
  pub refers : (gates shards : ℕ) (seen next : Account) → GatesGoOn seen next
      → IsBeginningOf seen.store next.store → ShardsGoOn seen next
      → ((shard : ℕ) → IsShardLog gates (shard_log next shard))
      → (before : List GateEntry) (author : ℕ) (deed : GateDeed)
      → GateRefersAs seen shards before author deed → GateRefersAs next shards before author deed
  pub runs : (log : List GateEntry) (author request : ℕ) (stamp : Stamp)
      → Contains (programs_of log) (record { author = author; request = request; stamp = stamp })
      → ((entry : GateEntry) → Contains log entry → entry.author ≡ author → entry.deed ≢ Finished request)
      → Contains (running_of log) (record { author = author; request = request; stamp = stamp })
