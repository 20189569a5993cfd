-- What locks are made for, and what is left when they are closed.
use Rattle.std.specs.Prelude.{◌≡◌, ◌==◌, if◌then◌else◌, ℕ, ◌<◌, ◌≤◌, List, [], ◌∷◌, map, length, slice_index_or}
use Rattle.std.specs.List.{filter}
use Rattle.weave_data.specs.Limits.{most_gates, most_shards}
use Rattle.weave_entries.specs.declared.gate_log.GateEntry.{GateEntry}
use Rattle.weave_entries.specs.declared.oracle_log.OracleEntry.{OracleEntry}
use Rattle.weave_entries.specs.declared.shard_log.ShardEntry.{ShardEntry}
use Rattle.weave_entries.specs.declared.store_log.StoreEntry.{StoreEntry}
use Rattle.weave_entries.specs.Logs.{AtEachEntry}
use Rattle.gatekeeper.specs.Gates.{GateView}
use Rattle.shard_node.specs.Shards.{ShardView}
use Rattle.weave_account.specs.declared.account.Account.{Account}
use Rattle.weave_account.specs.Account.{gate_log, shard_log}
use Rattle.seen_logs.specs.Closed.{IsOfHands}
use Rattle.seen_logs.specs.Seen.{AreLegal, IsSeenByHand}
use Rattle.weaver_locks.specs.declared.hand.Hand.{Hand}
use Rattle.weaver_locks.specs.Hands.{hand_number, seen_by}

-- the logs of machines as an account
abbrev pub logs_of : List GateView → List StoreEntry → List OracleEntry → List ShardView → Account
logs_of gates store oracle shards = record {
  gates = map (λ (gate : GateView). gate.log) gates;
  store = store;
  oracle = oracle;
  shards = map (λ (shard : ShardView). shard.log) shards;
  sessions = [];
}

-- each gatekeeper has the home of its place, each shard the number of its place, and all are made for these numbers of
-- gatekeepers and shards
pub record AreInOrder (gates : List GateView) (shards : List ShardView) : Type 0 where
  pub homes : (k : ℕ) (g : GateView) → k < length gates → (slice_index_or gates k g).home ≡ k
  pub gates_of : (k : ℕ) (g : GateView) → k < length gates → (slice_index_or gates k g).gates ≡ length gates
  pub shards_of : (k : ℕ) (g : GateView) → k < length gates → (slice_index_or gates k g).shards ≡ length shards
  pub numbers : (k : ℕ) (s : ShardView) → k < length shards → (slice_index_or shards k s).number ≡ k
  pub shard_gates : (k : ℕ) (s : ShardView) → k < length shards → (slice_index_or shards k s).gates ≡ length gates

-- a shard before its first entry, with this number and for that many gatekeepers. No public contract cites this.
abbrev pub IsNewShard : ℕ → ℕ → ShardView → Type 0
IsNewShard number gates shard = shard ≡ record { number = number; gates = gates; log = [] }

-- Machines may be put behind locks if they are in order, and their logs are legal and refer to nothing but themselves.
-- Those of an account do.
pub record MayStart (gates : List GateView) (store : List StoreEntry) (oracle : List OracleEntry)
    (shards : List ShardView) : Type 0 where
  pub some_gate : 1 ≤ length gates
  pub few_gates : length gates ≤ most_gates
  pub some_shard : 1 ≤ length shards
  pub few_shards : length shards ≤ most_shards
  pub order : AreInOrder gates shards
  pub legal : AreLegal (length gates) (length shards) (logs_of gates store oracle shards)
  pub refers : (number : ℕ) → IsSeenByHand (length shards) number (logs_of gates store oracle shards)
      (logs_of gates store oracle shards)

-- what the hand with this number has seen; nothing if there is none
abbrev pub seen_by_number : List Hand → ℕ → Account
seen_by_number [] number = record { gates = []; store = []; oracle = []; shards = []; sessions = [] }
seen_by_number (hand ∷ hands) number =
    if hand_number hand == number then seen_by hand else seen_by_number hands number

-- each entry of these logs was there at the start, or is of one of that many hands, which has seen it
pub record AreEntriesOfHands (hands : ℕ) (start : Account) (seen_by : ℕ → Account) (closed : Account) : Type 0 where
  pub gate_entries : (home : ℕ) → AtEachEntry (λ before (entry : GateEntry).
      IsOfHands hands (gate_log start home) (λ number. gate_log (seen_by number) home) before entry.author)
      (gate_log closed home)
  pub store_entries : AtEachEntry (λ before (entry : StoreEntry).
      IsOfHands hands start.store (λ number. (seen_by number).store) before entry.author) closed.store
  pub oracle_entries : AtEachEntry (λ before (entry : OracleEntry).
      IsOfHands hands start.oracle (λ number. (seen_by number).oracle) before entry.author) closed.oracle
  pub shard_entries : (shard : ℕ) → AtEachEntry (λ before (entry : ShardEntry).
      IsOfHands hands (shard_log start shard) (λ number. shard_log (seen_by number) shard) before entry.author)
      (shard_log closed shard)

-- the entries of each log that have this author
abbrev pub entries_by : ℕ → Account → Account
entries_by number account = record {
  gates = map (filter (λ (entry : GateEntry). entry.author == number)) account.gates;
  store = filter (λ (entry : StoreEntry). entry.author == number) account.store;
  oracle = filter (λ (entry : OracleEntry). entry.author == number) account.oracle;
  shards = map (filter (λ (entry : ShardEntry). entry.author == number)) account.shards;
  sessions = [];
}
