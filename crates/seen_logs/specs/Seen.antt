-- What a machine behind a lock and a hand have seen, and when it is enough.
use Rattle.std.specs.Prelude.{◌≡◌, ◌⊎◌, ℕ, ◌<◌, ◌≤◌, List, [], ◌∷◌, ◌++◌, drop, length, slice_index_or, Contains, IsTrue, ⊤}
use Rattle.weave_entries.specs.declared.gate_log.GateEntry.{GateEntry}
use Rattle.weave_entries.specs.declared.oracle_log.OracleEntry.{OracleEntry}
use Rattle.weave_entries.specs.declared.shard_log.ShardEntry.{ShardEntry}
use Rattle.weave_entries.specs.declared.shard_log.ShardDeed.{ShardDeed}
use Rattle.weave_entries.specs.declared.shard_log.ShardDeed.TheVariants.{Visited}
use Rattle.weave_entries.specs.declared.store_log.StoreEntry.{StoreEntry}
use Rattle.weave_entries.specs.Logs.{AtEachEntry}
use Rattle.weave_entries.specs.GateReplay.{programs_of}
use Rattle.weave_entries.specs.GateRules.{HearsNoMore, IsGateLog}
use Rattle.weave_entries.specs.OracleRules.{IsOracleLog}
use Rattle.weave_entries.specs.ShardReplay.{Visit}
use Rattle.weave_entries.specs.ShardRules.{IsShardLog}
use Rattle.weave_entries.specs.StoreRule.{IsStoreLog}
use Rattle.weave_account.specs.declared.account.Account.{Account}
use Rattle.weave_account.specs.Account.{gate_log, shard_log}
use Rattle.weave_account.specs.GoesOn.{IsBeginningOf}
use Rattle.weave_account.specs.Oracle.{seen_last}
use Rattle.seen_logs.specs.References.{GateRefersAs, IsAskedAsSeen, OracleRefersAs, ShardRefersAs, StoreRefersAs}

-- More is seen

-- of logs by their numbers: each is the beginning of the one at its place
abbrev pub AreBeginnings : {A : Type 0} → List (List A) → List (List A) → Type 0
AreBeginnings logs next = (k : ℕ) → IsBeginningOf (slice_index_or logs k []) (slice_index_or next k [])

-- of the gatekeepers' logs: each begins the one of the next account
abbrev pub GatesGoOn : Account → Account → Type 0
GatesGoOn seen next = (home : ℕ) → IsBeginningOf (gate_log seen home) (gate_log next home)

-- of the shards' logs
abbrev pub ShardsGoOn : Account → Account → Type 0
ShardsGoOn seen next = (shard : ℕ) → IsBeginningOf (shard_log seen shard) (shard_log next shard)

-- of each log
pub record IsWithin (seen next : Account) : Type 0 where
  pub gates : GatesGoOn seen next
  pub store : IsBeginningOf seen.store next.store
  pub oracle : IsBeginningOf seen.oracle next.oracle
  pub shards : ShardsGoOn seen next

-- the logs of an account without those of sessions
abbrev pub without_sessions : Account → Account
without_sessions account = record account { sessions = [] }

-- each log that was seen keeps the rules of its machine, and a gatekeeper heard of no event of its own that it hadn't
-- made
pub record AreLegal (gates shards : ℕ) (seen : Account) : Type 0 where
  pub gate_logs : (home : ℕ) → IsGateLog home shards (gate_log seen home)
  pub hears : (home : ℕ) → HearsNoMore home (gate_log seen home)
  pub store_log : IsStoreLog seen.store
  pub oracle_log : IsOracleLog seen.oracle
  pub shard_logs : (shard : ℕ) → IsShardLog gates (shard_log seen shard)

-- Machines: what a machine has seen is its own log, whole, and of other logs what its notes have seen

-- all that a gatekeeper's entries refer to was seen
abbrev pub GateRefersWithin : ℕ → Account → ℕ → Type 0
GateRefersWithin shards seen home = AtEachEntry
    (λ before (entry : GateEntry). GateRefersAs seen shards before entry.author entry.deed) (gate_log seen home)

-- all that the store's entries refer to was seen
abbrev pub StoreRefersWithin : Account → Type 0
StoreRefersWithin seen = AtEachEntry
    (λ before (entry : StoreEntry). StoreRefersAs seen before entry.author entry.deed) seen.store

-- all that the oracle's entries refer to was seen
abbrev pub OracleRefersWithin : Account → Type 0
OracleRefersWithin seen = AtEachEntry (λ before (entry : OracleEntry). OracleRefersAs seen entry.deed) seen.oracle

-- all that a shard's entries refer to was seen
abbrev pub ShardRefersWithin : ℕ → Account → ℕ → Type 0
ShardRefersWithin shards seen shard = AtEachEntry
    (λ before (entry : ShardEntry). ShardRefersAs seen shards shard before entry.author entry.deed)
    (shard_log seen shard)

-- Hands: what a hand has seen are its passes' logs

-- a hand answers for an entry after these ones of a log if it made the entry, or if the log had it at the start
abbrev pub AnswersFor : {E : Type 0} → ℕ → List E → List E → ℕ → Type 0
AnswersFor {E} number start before author = (author ≡ number) ⊎ (length before < length start)

-- the hand made the entry since the start
abbrev pub IsOwn : {E : Type 0} → ℕ → List E → List E → ℕ → Type 0
IsOwn {E} number start before author = (author ≡ number) × (length start ≤ length before)

-- the entries of a log since the start
abbrev pub entries_since : {E : Type 0} → List E → List E → List E
entries_since {E} start log = drop (length start) log

-- a visit is of a program that the hand began since the start
abbrev pub VisitsItsOwn : ℕ → Account → Account → ShardDeed → Type 0
VisitsItsOwn number start seen (Visited r stamp v updates settled) =
    (home : ℕ) × Contains (programs_of (entries_since (gate_log start home) (gate_log seen home)))
    (record { author = number; request = r; stamp = stamp })
VisitsItsOwn number start seen _ = ⊤

-- A hand's visits are of programs that it began itself since the start.
abbrev pub VisitsOwnPrograms : ℕ → Account → Account → Type 0
VisitsOwnPrograms number start seen = (shard : ℕ) → AtEachEntry (λ before (entry : ShardEntry).
    IsOwn number (shard_log start shard) before entry.author → VisitsItsOwn number start seen entry.deed)
    (shard_log seen shard)

-- a visit as an entry of its shard's log
abbrev pub visit_entry : Visit → ShardEntry
visit_entry visit = record {
  author = visit.author;
  deed = Visited visit.request visit.stamp visit.vertex visit.updates visit.settled;
}

-- after these entries of a shard's log is a visit for which the hand answers, and for which the oracle added a pair
pub record HasAsked (number : ℕ) (start seen : Account) (shard : ℕ) (before : List ShardEntry) (visit : Visit)
    : Type 0 where
  pub after : List ShardEntry
  pub at : shard_log seen shard ≡ before ++ visit_entry visit ∷ after
  pub answers : AnswersFor number (shard_log start shard) before visit.author
  pub marked : IsTrue visit.settled

-- What a hand, known by its number as an author, has seen since the logs were as at the start. All that the entries
-- refer to for which it answers was seen, and no two visits for which it answers asked for one pair.
pub record IsSeenByHand (shards number : ℕ) (start seen : Account) : Type 0 where
  pub starts : IsWithin start seen
  pub gate_entries : (home : ℕ) → AtEachEntry (λ before (entry : GateEntry).
      AnswersFor number (gate_log start home) before entry.author
      → GateRefersAs seen shards before entry.author entry.deed) (gate_log seen home)
  pub store_entries : AtEachEntry (λ before (entry : StoreEntry).
      AnswersFor number start.store before entry.author
      → StoreRefersAs seen before entry.author entry.deed) seen.store
  pub oracle_entries : AtEachEntry (λ before (entry : OracleEntry).
      AnswersFor number start.oracle before entry.author
      → OracleRefersAs seen entry.deed × IsAskedAsSeen seen entry) seen.oracle
  pub shard_entries : (shard : ℕ) → AtEachEntry (λ before (entry : ShardEntry).
      AnswersFor number (shard_log start shard) before entry.author
      → ShardRefersAs seen shards shard before entry.author entry.deed) (shard_log seen shard)
  pub asks_once : (shard other : ℕ) (before rest : List ShardEntry) (a b : Visit)
      → HasAsked number start seen shard before a → HasAsked number start seen other rest b
      → a.stamp ≡ b.stamp → seen_last before a ≡ seen_last rest b
      → (shard ≡ other) × (length before ≡ length rest)

-- What a hand made since it had seen less refers to what it has seen next. None of its visits there asked for the pair
-- of another visit for which it answers.
pub record AddsAsSeen (shards number : ℕ) (start seen next : Account) : Type 0 where
  pub gate_entries : (home : ℕ) → AtEachEntry (λ before (entry : GateEntry).
      IsOwn number (gate_log seen home) before entry.author
      → GateRefersAs next shards before entry.author entry.deed) (gate_log next home)
  pub store_entries : AtEachEntry (λ before (entry : StoreEntry).
      IsOwn number seen.store before entry.author
      → StoreRefersAs next before entry.author entry.deed) next.store
  pub oracle_entries : AtEachEntry (λ before (entry : OracleEntry).
      IsOwn number seen.oracle before entry.author
      → OracleRefersAs next entry.deed × IsAskedAsSeen next entry) next.oracle
  pub shard_entries : (shard : ℕ) → AtEachEntry (λ before (entry : ShardEntry).
      IsOwn number (shard_log seen shard) before entry.author
      → ShardRefersAs next shards shard before entry.author entry.deed) (shard_log next shard)
  pub asks_once : (shard other : ℕ) (before rest : List ShardEntry) (a b : Visit)
      → HasAsked number start next shard before a → HasAsked number start next other rest b
      → length (shard_log seen shard) ≤ length before
      → a.stamp ≡ b.stamp → seen_last before a ≡ seen_last rest b
      → (shard ≡ other) × (length before ≡ length rest)
