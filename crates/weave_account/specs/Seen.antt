-- What a hand knows of a shard and of the store in a hold, if it has seen the beginnings of the other logs alone:
-- no more than the laws on heads and updates need.
use Rattle.std.specs.Prelude.{◌≡◌, ◌⊎◌, ℕ, ◌≤◌, List, [], Contains, Ok, ⊤}
use Rattle.weave_data.specs.Limits.{most_gates}
use Rattle.graph_ops.specs.PlainGraph.{PlainGraph, transaction}
use Rattle.graph_ops.specs.declared.op.Op.{Op}
use Rattle.graph_ops.specs.declared.tx.Got.{Got}
use Rattle.weave_entries.specs.declared.gate_log.GateEntry.{GateEntry}
use Rattle.weave_entries.specs.declared.message.Addressed.{Addressed}
use Rattle.weave_entries.specs.declared.message.Message.{Message}
use Rattle.weave_entries.specs.declared.shard_log.ShardEntry.{ShardEntry}
use Rattle.weave_entries.specs.declared.shard_log.ShardDeed.{ShardDeed}
use Rattle.weave_entries.specs.declared.shard_log.ShardDeed.TheVariants.{Arrived, Applied, Visited, Collected}
use Rattle.weave_entries.specs.declared.store_log.StoreEntry.{StoreEntry}
use Rattle.weave_entries.specs.declared.verdict.Counted.{Counted}
use Rattle.weave_entries.specs.declared.verdict.Verdict.{Verdict}
use Rattle.weave_entries.specs.declared.verdict.Verdict.TheVariants.{Committed, Conflict, Refused}
use Rattle.weave_entries.specs.Logs.{AtEachEntry}
use Rattle.weave_entries.specs.GateReplay.{BegunRequest, addressed_to}
use Rattle.weave_entries.specs.GateRules.{IsGateLog}
use Rattle.weave_entries.specs.ShardReplay.{bound_of}
use Rattle.weave_entries.specs.Sending.{messages_of}
use Rattle.weave_entries.specs.StoreReplay.{Commit, Judgement, judged_by, judgements_of, commits_of, graph_committed}
use Rattle.weave_entries.specs.StoreRule.{counts_of}
use Rattle.weave_account.specs.declared.account.Account.{Account}
use Rattle.weave_account.specs.Account.{gate_log}
use Rattle.weave_account.specs.Shards.{Applies}

-- The store

-- operations pass on the graph that these commits leave, and count the commits at each vertex that they name
pub record PassesAfter (before : List Commit) (ops : List Op) (answers : List Got) (counts : List Counted) : Type 0
  where
    pub graph : PlainGraph
    pub passes : transaction ops (graph_committed before) ≡ Ok (record { graph = graph; gots = answers })
    pub counts_are : counts ≡ counts_of ops before

-- operations whose verdict is a commit pass like this
abbrev pub PassesAs : List Commit → List Op → Verdict → Type 0
PassesAs before ops (Committed number answers counts) = PassesAfter before ops answers counts
PassesAs before ops (Conflict v newer) = ⊤
PassesAs before ops (Refused op reason at) = ⊤

-- the operations of each entry of a log pass like this after the commits before it
abbrev pub HavePassed : List StoreEntry → Type 0
HavePassed log =
    AtEachEntry (λ before entry. PassesAs (commits_of before) (judged_by entry.author entry.deed).ops
    (judged_by entry.author entry.deed).verdict) log

-- The shard

-- a message to this shard that a gatekeeper makes of a judgement in the store's log
pub record IsOfJudgement (shards : ℕ) (store : List StoreEntry) (shard : ℕ) (message : Message) : Type 0 where
  pub judged : Judgement
  pub is_judged : Contains (judgements_of store) judged
  pub log : List GateEntry
  pub begun : BegunRequest
  pub stamp_is : begun.stamp ≡ judged.stamp
  pub addressed : Addressed
  pub sent : Contains (messages_of shards log begun judged.ops judged.verdict) addressed
  pub shard_is : addressed.shard ≡ shard
  pub message_is : addressed.message ≡ message

-- the message is empty, or made of a judgement
abbrev pub IsMade : ℕ → List StoreEntry → ℕ → Message → Type 0
IsMade shards store shard message = (message.parts ≡ []) ⊎ IsOfJudgement shards store shard message

-- what arrives was made like this, and what is applied is applied in its turn
abbrev pub TakesAs : ℕ → List StoreEntry → ℕ → List ShardEntry → ShardDeed → Type 0
TakesAs shards store shard before (Arrived home number message) = IsMade shards store shard message
TakesAs shards store shard before (Applied home number) = Applies before home number
TakesAs shards store shard before (Visited r stamp v updates settled) = ⊤
TakesAs shards store shard before (Collected bound) = ⊤

-- Each commit in what was seen of the store's log passed there. Each message that arrived at the shard, up to the end
-- of this log, was made of a judgement in it, or is empty, and each was applied in its turn.
pub record HasSeen (shards : ℕ) (store : List StoreEntry) (shard : ℕ) (log : List ShardEntry) : Type 0 where
  pub passes : HavePassed store
  pub takes : AtEachEntry (λ before (entry : ShardEntry). TakesAs shards store shard before entry.deed) log

-- The gatekeepers

-- what arrives was sent in what was seen of its gatekeeper's log, what is applied is applied in its turn, and a
-- collection has the bound of the entries before it
abbrev pub ComesAs : ℕ → Account → ℕ → List ShardEntry → ShardDeed → Type 0
ComesAs gates seen shard before (Arrived home number message) =
    Contains (addressed_to shard (gate_log seen home)) (record { shard = shard; number = number; message = message })
ComesAs gates seen shard before (Applied home number) = Applies before home number
ComesAs gates seen shard before (Visited r stamp v updates settled) = ⊤
ComesAs gates seen shard before (Collected bound) = bound ≡ bound_of gates before

-- There are at most 8 gatekeepers, and their logs keep the rules as far as they were seen. Each message that arrived
-- at the shard, up to the end of this log, was sent there, and each collection had its bound.
pub record HasSeenSent (gates shards : ℕ) (seen : Account) (shard : ℕ) (log : List ShardEntry) : Type 0 where
  pub few : gates ≤ most_gates
  pub logs : (home : ℕ) → IsGateLog home shards (gate_log seen home)
  pub comes : AtEachEntry (λ before (entry : ShardEntry). ComesAs gates seen shard before entry.deed) log
