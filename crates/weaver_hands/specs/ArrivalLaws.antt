-- The laws of the crates below on messages that arrive, in one. No public contract cites this.
use Rattle.std.specs.Prelude.{◌≡◌, ℕ, ◌<◌, List, [], ◌∷◌, ◌++◌, None, Some}
use Rattle.weave_data.specs.Limits.{most_gates}
use Rattle.weave_entries.specs.declared.gate_log.GateEntry.{GateEntry}
use Rattle.weave_entries.specs.declared.message.Message.{Message}
use Rattle.weave_entries.specs.declared.shard_log.ShardEntry.{ShardEntry}
use Rattle.weave_entries.specs.declared.shard_log.ShardDeed.TheVariants.{Arrived}
use Rattle.weave_entries.specs.GateRules.{IsChannel, IsGateLog}
use Rattle.weave_entries.specs.ShardReplay.{arrived_at}

-- a message is there once it arrives, and a channel's numbers run from 1
pub record ArrivalLaws : Type 0 where
  pub new : (log : List ShardEntry) (author gate number : ℕ) (message : Message) → arrived_at gate number log ≡ None
      → arrived_at gate number (log ++ record { author = author; deed = Arrived gate number message } ∷ [])
      ≡ Some message
  pub channel : (home shards shard : ℕ) (log : List GateEntry) → home < most_gates → IsGateLog home shards log
      → IsChannel shard log
