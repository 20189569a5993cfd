-- What the logs of shards keep: messages as they were sent, each applied in its turn; visits, each of which sees the
-- updates that precede its program and none that it precedes; bounds of collections.
use Rattle.std.specs.Prelude.{◌≡◌, ℕ, ◌+◌, ◌-◌, ◌<◌, ◌≤◌, List, length, Contains, Option, None, Some, slice_get}
use Rattle.std.specs.Option.{ForSome}
use Rattle.weave_data.specs.declared.name.Name.{Name}
use Rattle.weave_data.specs.Names.{shard_of}
use Rattle.graph_ops.specs.VertexOps.{ops_on}
use Rattle.vector_stamp.specs.declared.clock.Stamp.{Stamp}
use Rattle.program_defs.specs.declared.script.Script.{Script}
use Rattle.weave_entries.specs.declared.message.Message.{Message}
use Rattle.weave_entries.specs.declared.shard_log.ShardEntry.{ShardEntry}
use Rattle.weave_entries.specs.declared.shard_log.ShardDeed.{ShardDeed}
use Rattle.weave_entries.specs.declared.shard_log.ShardDeed.TheVariants.{Arrived, Applied, Visited, Collected}
use Rattle.weave_entries.specs.Logs.{AtEachEntry}
use Rattle.weave_entries.specs.GateReplay.{programs_of, addressed_to}
use Rattle.weave_entries.specs.ShardReplay.{Update, arrived_at, processed_count, head_of, waits_at, updates_of, first_unready, bound_of}
use Rattle.weave_entries.specs.StoreReplay.{Commit}
use Rattle.weave_account.specs.declared.account.Account.{Account}
use Rattle.weave_account.specs.Account.{gate_log, shard_log, Precedence}

-- Processing

-- a message arrives as it was sent, with its number, for the first time
pub record MessageArrives (account : Account) (shard : ℕ) (before : List ShardEntry) (home number : ℕ)
    (message : Message) : Type 0 where
  pub sent : Contains (addressed_to shard (gate_log account home))
      (record { shard = shard; number = number; message = message })
  pub new : arrived_at home number before ≡ None

-- the head of a channel is applied, and each of its vertices has had as many updates as its part counts
pub record Applies (before : List ShardEntry) (home number : ℕ) : Type 0 where
  pub number_is : number ≡ processed_count home before + 1
  pub message : Message
  pub head : head_of home before ≡ Some message
  pub in_turn : waits_at message before ≡ None

-- Visits

-- the update of a vertex that a commit is
abbrev pub update_of : Name → Commit → Update
update_of v commit = record { stamp = commit.stamp; ops = ops_on v commit.ops }

-- the n-th update of a vertex, from 0, at the end of the log
abbrev pub update_at : Name → ℕ → List ShardEntry → Option Update
update_at v n log = slice_get (updates_of v log) n

-- A program that was begun reads a vertex of the shard, which is ready for it, after the first `updates` of the
-- updates applied so far. The last of these precedes the program, and the program precedes the next one.
pub record IsRightVisit (script : Script) (account : Account) (shard : ℕ) (before : List ShardEntry) (r : ℕ)
    (stamp : Stamp)
    (v : Name) (updates : ℕ) : Type 0 where
  pub home : ℕ
  pub author : ℕ
  pub begun : Contains (programs_of (gate_log account home)) (record { author = author; request = r; stamp = stamp })
  pub kept_here : shard_of v script.shards ≡ shard
  pub ready : first_unready script.gates stamp before ≡ None
  pub applied : updates ≤ length (updates_of v before)
  pub after_seen : 0 < updates
      → ForSome (update_at v (updates - 1) before) (λ (update : Update). Precedence account update.stamp stamp)
  pub before_skipped : ForSome (update_at v updates before) (λ (update : Update). Precedence account stamp update.stamp)

-- Each deed

-- a deed at a shard is right after these entries
abbrev pub ShardFitsAs : Script → Account → ℕ → List ShardEntry → ShardDeed → Type 0
ShardFitsAs script account shard before (Arrived home number message) =
    MessageArrives account shard before home number message
ShardFitsAs script account shard before (Applied home number) = Applies before home number
ShardFitsAs script account shard before (Visited r stamp v updates settled) =
    IsRightVisit script account shard before r stamp v updates
ShardFitsAs script account shard before (Collected bound) = bound ≡ bound_of script.gates before

-- each deed of a log is right after those before it
abbrev pub AreShardDeeds : Script → Account → ℕ → List ShardEntry → Type 0
AreShardDeeds script account shard log =
    AtEachEntry (λ before entry. ShardFitsAs script account shard before entry.deed) log

-- Shards: each deed is right after those before it
pub record ShardsClause (script : Script) (account : Account) : Type 0 where
  pub as_many : length account.shards ≡ script.shards
  pub deeds : (shard : ℕ)
      → AreShardDeeds script account shard (shard_log account shard)
