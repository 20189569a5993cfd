-- What a hand has seen goes on after a hold, log by log: it made nothing there, or all that the log's entries refer to
-- is within what it has seen next.
-- Used by Following, Leaving, Passing and Sending.
use Rattle.std.proofs.Common.{◌≡◌, ◌⊎◌, inl, inr, ℕ, ◌≤◌, List, length, ap, arith, length-append}
use Rattle.weave_entries.specs.declared.gate_log.GateEntry.{GateEntry}
use Rattle.weave_entries.specs.declared.oracle_log.OracleEntry.{OracleEntry}
use Rattle.weave_entries.specs.declared.shard_log.ShardEntry.{ShardEntry}
use Rattle.weave_entries.specs.declared.store_log.StoreEntry.{StoreEntry}
use Rattle.weave_entries.specs.Logs.{AtEachEntry}
use Rattle.weave_entries.specs.ShardReplay.{Visit}
use Rattle.weave_account.specs.declared.account.Account.{Account}
use Rattle.weave_account.specs.Account.{gate_log, shard_log}
use Rattle.weave_account.specs.GoesOn.{IsBeginningOf}
use Rattle.weave_account.specs.Oracle.{seen_last}
use Rattle.seen_logs.specs.References.{IsAskedAsSeen}
use Rattle.seen_logs.specs.Seen.{AddsAsSeen, AreLegal, GateRefersWithin, HasAsked, IsOwn, IsSeenByHand, IsWithin, OracleRefersWithin, ShardRefersWithin, StoreRefersWithin, visit_entry}
use Rattle.weaver_locks.specs.HandLaws.{HandLaws}

-- no entry of this author is past what was seen of a log
abbrev pub AddsNone : {E : Type 0} → (E → ℕ) → ℕ → List E → List E → Type 0
AddsNone {E} author_of number seen next =
    AtEachEntry (λ before (entry : E). IsOwn number seen before (author_of entry) → ⊥) next

-- the author of an entry of a gatekeeper's log
abbrev pub gate_author : GateEntry → ℕ
gate_author entry = entry.author

abbrev pub store_author : StoreEntry → ℕ
store_author entry = entry.author

abbrev pub oracle_author : OracleEntry → ℕ
oracle_author entry = entry.author

abbrev pub shard_author : ShardEntry → ℕ
shard_author entry = entry.author

-- no visit asked for the pair of another one
abbrev pub AsksOnce : ℕ → Account → Account → Account → Type 0
AsksOnce number start seen next = (shard other : ℕ) (before rest : List ShardEntry) (a b : Visit)
    → HasAsked number start next shard before a → HasAsked number start next other rest b
    → length (shard_log seen shard) ≤ length before
    → a.stamp ≡ b.stamp → seen_last before a ≡ seen_last rest b → (shard ≡ other) × (length before ≡ length rest)

-- what a hand made past what it had seen
pub record HasAdded (shards number : ℕ) (start seen next : Account) : Type 0 where
  pub gates_are : (home : ℕ) → AddsNone gate_author number (gate_log seen home) (gate_log next home)
      ⊎ GateRefersWithin shards next home
  pub store_is : AddsNone store_author number seen.store next.store ⊎ StoreRefersWithin next
  pub oracle_is : AddsNone oracle_author number seen.oracle next.oracle ⊎ OracleRefersWithin next
  pub asked : AtEachEntry (λ before (entry : OracleEntry). IsOwn number seen.oracle before entry.author
      → IsAskedAsSeen next entry) next.oracle
  pub shards_are : (shard : ℕ) → AddsNone shard_author number (shard_log seen shard) (shard_log next shard)
      ⊎ ShardRefersWithin shards next shard
  pub asks_once : AsksOnce number start seen next

module _ (shards number : ℕ) (start seen next : Account) (added : HasAdded shards number start seen next) where
  adds : AddsAsSeen shards number start seen next
  adds = record {
    gate_entries = λ home before entry after at own. elim (added.gates_are home) [
      | inl none ↦ absurd (none before entry after at own)
      | inr refers ↦ refers before entry after at
    ];
    store_entries = λ before entry after at own. elim added.store_is [
      | inl none ↦ absurd (none before entry after at own)
      | inr refers ↦ refers before entry after at
    ];
    oracle_entries = λ before entry after at own. elim added.oracle_is [
      | inl none ↦ absurd (none before entry after at own)
      | inr refers ↦ (refers before entry after at, added.asked before entry after at own)
    ];
    shard_entries = λ shard before entry after at own. elim (added.shards_are shard) [
      | inl none ↦ absurd (none before entry after at own)
      | inr refers ↦ refers before entry after at
    ];
    asks_once = added.asks_once;
  }

  -- if the hand added this, what it has seen next is seen as a hand must have seen it
  pub hand_goes_on : HandLaws → (gates : ℕ) → IsSeenByHand shards number start seen → IsWithin seen next → AreLegal gates shards next
      → IsSeenByHand shards number start next
  hand_goes_on laws gates hand within legal = laws.see_more gates shards number start seen next hand within legal.shard_logs adds

-- A hand that added nothing to the oracle asked for nothing
pub asked_none : (number : ℕ) (seen next : Account) → AddsNone oracle_author number seen.oracle next.oracle
    → AtEachEntry (λ before (entry : OracleEntry). IsOwn number seen.oracle before entry.author → IsAskedAsSeen next entry) next.oracle
asked_none number seen next none before entry after at own = absurd (none before entry after at own)

longer : {E : Type 0} (log next : List E) → IsBeginningOf log next → length log ≤ length next
longer {E} log next on = omega (arith, ap (λ (l : List E). length l) on.1, length-append log on.0)

module _ (number : ℕ) (start seen next : Account) (starts : IsWithin start seen) where
  -- a hand that added nothing to the shards' logs made no visit
  pub asks_none : ((shard : ℕ) → AddsNone shard_author number (shard_log seen shard) (shard_log next shard))
      → AsksOnce number start seen next
  asks_none none shard other before rest a b asked again past same last = elim asked.answers [
    | inl own ↦ absurd (none shard before (visit_entry a) asked.after asked.at (own, past))
    | inr given ↦ absurd (omega (arith, given, past, longer (shard_log start shard) (shard_log seen shard) (starts.shards shard)))
  ]
