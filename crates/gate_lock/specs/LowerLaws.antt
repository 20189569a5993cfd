-- The laws of the crates below that this crate relies on, in one record. No public contract cites this.
use Rattle.std.specs.Prelude.{◌≡◌, ℕ, ◌+◌, ◌<◌, ◌≤◌, List, [], ◌∷◌, ◌++◌, length, Contains, IsTrue}
use Rattle.weave_data.specs.Limits.{most_gates}
use Rattle.program_defs.specs.declared.script.Script.{Script}
use Rattle.vector_stamp.specs.declared.clock.Clock.{Clock}
use Rattle.vector_stamp.specs.Clocks.{clock_after_hearing, clock_after_tick, counts_no_more}
use Rattle.weave_entries.specs.declared.gate_log.GateDeed.{GateDeed}
use Rattle.weave_entries.specs.declared.gate_log.GateEntry.{GateEntry}
use Rattle.weave_entries.specs.declared.message.Addressed.{Addressed}
use Rattle.weave_entries.specs.GateReplay.{addressed_to, clock_of, ticks_of}
use Rattle.weave_entries.specs.GateRules.{HearsAs, HearsNoMore, IsChannel, IsGateLog}
use Rattle.weave_entries.specs.Logs.{AtEachEntry}
use Rattle.weave_entries.specs.ShardRules.{IsShardLog}
use Rattle.weave_account.specs.declared.account.Account.{Account}
use Rattle.weave_account.specs.Account.{gate_log, shard_log}
use Rattle.weave_account.specs.Clocks.{IsKnown}
use Rattle.weave_account.specs.GoesOn.{GoesOn, IsBeginningOf}
use Rattle.weave_account.specs.Seen.{IsMade}
use Rattle.seen_logs.specs.References.{GateRefersAs}
use Rattle.seen_logs.specs.Seen.{AreLegal, GateRefersWithin, GatesGoOn, IsWithin, ShardsGoOn}

-- what was seen goes on, known clocks may be heard, and messages that were sent are made
pub record LawsForGateNotes : Type 0 where
  pub hears : (home : ℕ) (log : List GateEntry) (entry : GateEntry)
      → HearsNoMore home log → HearsAs home log entry.deed → HearsNoMore home (log ++ entry ∷ [])
  pub channel : (home shards shard : ℕ) (log : List GateEntry) → home < most_gates → IsGateLog home shards log
      → IsChannel shard log
  pub may_be_heard : (shards home : ℕ) (account : Account) → home < most_gates
      → IsGateLog home shards (gate_log account home) → (clock : Clock) → IsKnown account clock
      → IsTrue (counts_no_more home (clock_of home (gate_log account home)) clock)
  pub heard : (account : Account) (home : ℕ) → home < most_gates → (clock other : Clock) → IsKnown account clock
      → IsKnown account other → IsKnown account (clock_after_hearing home clock other)
  pub ticked : (script : Script) (account next : Account) → GoesOn account next → (home : ℕ) → home < most_gates
      → (clock : Clock) → IsKnown account clock
      → ticks_of clock.epoch (gate_log next home) ≡ ticks_of clock.epoch (gate_log account home) + 1
      → IsKnown next (clock_after_tick home clock)
  pub own_clock : (shards : ℕ) (seen : Account) (home : ℕ) → GateRefersWithin shards seen home
      → home < most_gates → IsKnown seen (clock_of home (gate_log seen home))
  pub notes : (gates shards : ℕ) (seen next : Account) → GatesGoOn seen next
      → IsBeginningOf seen.store next.store → ShardsGoOn seen next
      → ((shard : ℕ) → IsShardLog gates (shard_log next shard)) → (home : ℕ) → GateRefersWithin shards seen home
      → AtEachEntry (λ before (entry : GateEntry). length (gate_log seen home) ≤ length before
      → GateRefersAs next shards before entry.author entry.deed) (gate_log next home)
      → GateRefersWithin shards next home
  pub stays : (gates shards : ℕ) (seen next : Account) → GatesGoOn seen next
      → IsBeginningOf seen.store next.store → ShardsGoOn seen next
      → ((shard : ℕ) → IsShardLog gates (shard_log next shard))
      → (before : List GateEntry) (author : ℕ) (deed : GateDeed)
      → GateRefersAs seen shards before author deed → GateRefersAs next shards before author deed
  pub beginnings : (gates shards : ℕ) (seen next : Account) → IsWithin seen next → AreLegal gates shards next
      → AreLegal gates shards seen
  pub made : (shards : ℕ) (seen : Account) (home : ℕ) → GateRefersWithin shards seen home
      → (shard : ℕ) (addressed : Addressed) → Contains (addressed_to shard (gate_log seen home)) addressed
      → IsMade shards seen.store shard addressed.message
