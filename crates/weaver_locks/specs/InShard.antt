-- A hold of a shard by a hand, step by step. No public contract cites this.
use Rattle.std.specs.Prelude.{◌≡◌, ◌≢◌, ℕ, ◌<◌, ◌≤◌, List, ◌∷◌, ◌++◌, length, slice_index_or, slice_set, Contains, IsTrue}
use mathlib.Core.List.{IsPrefix}
use Rattle.weave_entries.specs.declared.oracle_log.OracleEntry.{OracleEntry}
use Rattle.weave_entries.specs.declared.gate_log.GateDeed.{GateDeed}
use Rattle.weave_entries.specs.declared.oracle_log.OracleDeed.{OracleDeed}
use Rattle.weave_entries.specs.declared.shard_log.ShardDeed.{ShardDeed}
use Rattle.weave_entries.specs.declared.store_log.StoreDeed.{StoreDeed}
use Rattle.weave_entries.specs.declared.shard_log.ShardEntry.{ShardEntry}
use Rattle.weave_entries.specs.OracleRules.{IsOracleLog}
use Rattle.weave_entries.specs.ShardReplay.{Visit}
use Rattle.weave_entries.specs.ShardRules.{IsShardLog}
use Rattle.weave_entries.specs.StoreRule.{IsStoreLog}
use Rattle.weave_account.specs.declared.account.Account.{Account}
use Rattle.weave_account.specs.Account.{shard_log}
use Rattle.weave_account.specs.Oracle.{seen_last}
use Rattle.seen_logs.specs.Entries.{oracle_entries, shard_pairs, store_entries}
use Rattle.seen_logs.specs.References.{IsAskedAsSeen, OracleRefersAs}
use Rattle.seen_logs.specs.Seen.{HasAsked, ShardRefersWithin, visit_entry}
use Rattle.chronicle.specs.declared.held.Held.{Held}
use Rattle.chronicle.specs.declared.pass.Pass.{Pass}
use Rattle.chronicle.specs.Holds.{lock_in, log_at_entry, machine_of, WentInWith}
use Rattle.chronicle.specs.Locks.{lock_of}
use Rattle.chronicle.specs.Logs.{entries_of}
use Rattle.chronicle.specs.Passes.{number_of, own_entries, seen_by_pass}
use Rattle.oracle_lock.specs.Seen.{AreGateLogs, gates_seen, of_gates}
use Rattle.shard_lock.specs.declared.noted_shard.NotedShard.{NotedShard}
use Rattle.shard_lock.specs.Notes.{frame_of_shard, seen_by_shard_passes, seen_of_shard}
use Rattle.weaver_locks.specs.declared.hand.Hand.{Hand}
use Rattle.weaver_locks.specs.declared.shared.Shared.{Shared}
use Rattle.weaver_locks.specs.Going.{AddsToOracle, AllGoOn, GoesOnAs}
use Rattle.weaver_locks.specs.Hands.{hand_number, IsHand, seen_by}
use Rattle.weaver_locks.specs.Locks.{start_of}

-- The hand is in the lock of a shard. Its other passes have met the shard's notes: both have seen the same.
pub record IsInShard (shared : Shared) (old now : Hand) (shard : ℕ) (held : Held NotedShard ShardDeed) : Type 0 where
  pub gates : AllGoOn shared.gates.items old.gates.items now.gates.items
  pub store : GoesOnAs (lock_of shared.store) old.store now.store
  pub oracle : GoesOnAs (lock_of shared.oracle) old.oracle now.oracle
  pub pass : Pass ShardDeed
  pub shards : now.shards.items ≡ slice_set old.shards.items shard pass
  pub went : WentInWith pass held
  pub number : number_of pass ≡ hand_number old
  pub lock : (c : _) → lock_in held ≡ lock_of (slice_index_or shared.shards.items shard c)
  pub frame : frame_of_shard (machine_of held).shard (machine_of held).shards (machine_of held).notes
      ≡ (lock_in held).frame
  pub entry : log_at_entry held ≡ shard_pairs (machine_of held).shard.log
  pub own_is : (p : _) → entries_of (hand_number old) (shard_pairs (machine_of held).shard.log)
      ≡ own_entries (slice_index_or old.shards.items shard p)
  pub found : (p : _)
      → IsPrefix (seen_by_pass (slice_index_or old.shards.items shard p)) (shard_pairs (machine_of held).shard.log)
  pub place : (machine_of held).shard.number ≡ shard
  pub gate_count : (machine_of held).shard.gates ≡ length shared.gates.items
  pub shard_count : (machine_of held).shards ≡ length shared.shards.items
  pub same : seen_of_shard (machine_of held).shard (machine_of held).notes
      ≡ seen_by_shard_passes (machine_of held).shard.number (machine_of held).shard.log now.gates.items now.store
      now.oracle

-- the visit that follows these entries of a shard's log asked for no pair of another visit for which the hand answers
abbrev pub AsksForNewPair : Shared → Hand → ℕ → Account → List ShardEntry → Visit → Type 0
AsksForNewPair shared old shard account cut a =
    (other : ℕ) (rest : List ShardEntry) (b : Visit)
    → HasAsked (hand_number old) (start_of shared) account other rest b → a.stamp ≡ b.stamp
    → seen_last cut a ≡ seen_last rest b → (shard ≡ other) × (length cut ≡ length rest)

-- so it is with each marked visit in what was added to this shard's log, where the other shards' logs are as the hand
-- has seen them
abbrev pub AddedAskForNewPairs : Shared → Hand → ℕ → List ShardEntry → List ShardEntry → Type 0
AddedAskForNewPairs shared old shard before added =
    (next : Account) → shard_log next shard ≡ before ++ added
    → ((k : ℕ) → k ≢ shard → shard_log next k ≡ shard_log (seen_by old) k)
    → (cut after : List ShardEntry) (a : Visit) → before ++ added ≡ cut ++ visit_entry a ∷ after
    → length before ≤ length cut → IsTrue a.settled → AsksForNewPair shared old shard next cut a

-- What the hand did in the lock of a shard: it added these entries of its own to the shard's log, and these to the
-- oracle's within it. Its other passes are these now. They have seen all that both logs refer to.
pub record DoesInShard (shared : Shared) (old : Hand) (shard : ℕ) (gates : List (Pass GateDeed))
    (store : Pass StoreDeed) (oracle : Pass OracleDeed) (before added : List ShardEntry) (asked : List OracleEntry)
    : Type 0 where
  pub hand : IsHand shared old
  pub low : shard < length shared.shards.items
  pub gates_on : AllGoOn shared.gates.items old.gates.items gates
  pub store_on : GoesOnAs (lock_of shared.store) old.store store
  pub settled : List OracleEntry
  pub oracle_adds : AddsToOracle shared old oracle settled asked
  pub asked_refers : (entry : OracleEntry) → Contains asked entry
      → OracleRefersAs (of_gates (gates_seen gates)) entry.deed
  pub asked_for : (next : Account) → shard_log next shard ≡ before ++ added
      → (entry : OracleEntry) → Contains asked entry → IsAskedAsSeen next entry
  pub found : (p : _) → IsPrefix (seen_by_pass (slice_index_or old.shards.items shard p)) (shard_pairs before)
  pub own_is : (p : _)
      → entries_of (hand_number old) (shard_pairs before) ≡ own_entries (slice_index_or old.shards.items shard p)
  pub added_by : (entry : ShardEntry) → Contains added entry → entry.author ≡ hand_number old
  pub gates_legal : AreGateLogs (length shared.shards.items) (gates_seen gates)
  pub store_legal : IsStoreLog (store_entries (seen_by_pass store))
  pub oracle_legal : IsOracleLog (oracle_entries (seen_by_pass oracle))
  pub shard_legal : IsShardLog (length shared.gates.items) (before ++ added)
  pub refers : ShardRefersWithin (length shared.shards.items)
      (seen_by_shard_passes shard (before ++ added) gates store oracle) shard
  -- what was added asked for no pair of another visit for which the hand answers
  pub asks_new : AddedAskForNewPairs shared old shard before added

-- the hand is done in the shard: its pass of that lock can leave
pub record IsDoneInShard (shared : Shared) (old now : Hand) (shard : ℕ) (log before added : List ShardEntry)
    (asked : List OracleEntry) : Type 0 where
  pub log_is : log ≡ before ++ added
  pub pass : Pass ShardDeed
  pub shards : now.shards.items ≡ slice_set old.shards.items shard pass
  pub number : number_of pass ≡ hand_number old
  pub does : DoesInShard shared old shard now.gates.items now.store now.oracle before added asked
