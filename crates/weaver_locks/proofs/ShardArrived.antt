-- A message that arrives in the lock of a shard adds its entry, or none if it is a repeat or refused.
-- Used by `arrive`.
use Rattle.std.proofs.Common.{◌≡◌, ◌≢◌, ℕ, List, [], ◌∷◌, ◌++◌, length, get_or, AllPairs, Contains, refl, sym, ap, subst}
use Rattle.std.specs.Prelude.{IfOk, OnErr, Result, Ok, Err}
use Rattle.weave_data.proofs.Members.{has_cut, has_none, only}
use Rattle.graph_ops.specs.declared.part.Part.{Part}
use Rattle.shard_queue.specs.declared.inbox.Arrival.{Arrival}
use Rattle.shard_queue.specs.declared.inbox.Arrival.TheVariants.{Kept, Repeat}
use Rattle.weave_entries.specs.declared.gate_log.GateEntry.{GateEntry}
use Rattle.weave_entries.specs.declared.message.Message.{Message}
use Rattle.weave_entries.specs.declared.shard_log.ShardDeed.{ShardDeed}
use Rattle.weave_entries.specs.declared.shard_log.ShardDeed.TheVariants.{Arrived, Visited}
use Rattle.weave_entries.specs.declared.shard_log.ShardEntry.{ShardEntry}
use Rattle.weave_entries.specs.declared.store_log.StoreEntry.{StoreEntry}
use Rattle.weave_entries.specs.ShardReplay.{Visit}
use Rattle.weave_entries.specs.StoreRule.{IsStoreLog}
use Rattle.weave_account.specs.declared.account.Account.{Account}
use Rattle.weave_account.specs.Account.{gate_log}
use Rattle.weave_account.specs.GoesOn.{IsBeginningOf}
use Rattle.weave_account.specs.Seen.{HasSeen, HavePassed, IsMade, TakesAs}
use Rattle.seen_logs.specs.Entries.{oracle_entry, oracle_pair, store_entry, store_pair}
use Rattle.seen_logs.specs.References.{ArrivesAsSeen}
use Rattle.seen_logs.specs.Seen.{visit_entry}
use Rattle.chronicle.specs.declared.held.Held.{Held}
use Rattle.chronicle.specs.Holds.{machine_of}
use Rattle.chronicle.specs.Passes.{seen_by_pass}
use Rattle.shard_node.specs.Shards.{AddsEntry}
use Rattle.shard_lock.specs.declared.noted_shard.NotedShard.{NotedShard}
use Rattle.shard_lock.specs.Notes.{NotedShardView, seen_by_shard_passes, seen_of_shard}
use Rattle.weaver_locks.specs.declared.hand.Hand.{Hand}
use Rattle.weaver_locks.specs.declared.shared.Shared.{Shared}
use Rattle.weaver_locks.specs.Hands.{hand_number, IsHand, seen_by}
use Rattle.weaver_locks.specs.HoldLaws.{HoldLaws}
use Rattle.weaver_locks.specs.InShard.{IsInShard}
use Rattle.weaver_locks.specs.ShardHolds.{arrival_entries}
use Rattle.weaver_locks.proofs.Beside.{gates_on, named}
use Rattle.weaver_locks.proofs.Logged.{records_on}
use Rattle.weaver_locks.proofs.ShardCalled.{IsCalled}
use Rattle.weaver_locks.proofs.ShardDone.{goes_by_none, goes_by_one}

module _ (passed : (store : List StoreEntry) → IsStoreLog store → HavePassed store)
    (apart : (shards : ℕ) (store : List StoreEntry) (shard : ℕ) (log : List ShardEntry) → HasSeen shards store shard log → (message : Message)
    → IsMade shards store shard message → AllPairs (λ (one other : Part). one.vertex ≢ other.vertex) message.parts) where
  -- the vertices of a message that is made of a judgement, or empty, are distinct
  pub are_apart : (shards shard : ℕ) (store : List StoreEntry) → IsStoreLog store → (message : Message) → IsMade shards store shard message
      → AllPairs (λ (one other : Part). one.vertex ≢ other.vertex) message.parts
  are_apart shards shard store legal message made = apart shards store shard [] (record { passes = passed store legal; takes = none }) message made
    where
      none : (before : List ShardEntry) (entry : ShardEntry) (after : List ShardEntry) → [] ≡ before ++ entry ∷ after → TakesAs shards store shard before entry.deed
      none before entry after at = absurd (has_none entry (subst (λ (l : List ShardEntry). Contains l entry) (sym at) (has_cut before entry after)))

-- What was seen of a sending was seen by the notes
module _ (laws : HoldLaws) (shared : Shared) (old now : Hand) (shard : ℕ) (held : Held NotedShard ShardDeed) (hand : IsHand shared old)
    (i : IsInShard shared old now shard held) where
  abbrev was : NotedShardView
  was = machine_of held

  abbrev by_passes : Account
  by_passes = seen_by_shard_passes was.shard.number was.shard.log now.gates.items now.store now.oracle

  -- what a message that arrives refers to was seen by the shard with its notes, if the hand had seen it
  pub still_seen : (s : NotedShardView) → s ≡ was → (gate number : ℕ) (message : Message)
      → ArrivesAsSeen (seen_by old) (length shared.shards.items) shard gate number message
      → ArrivesAsSeen (seen_of_shard s.shard s.notes) s.shards s.shard.number gate number message
  still_seen s s_is gate number message h =
      let gates = subst (λ (l : List (List GateEntry)). (home : ℕ) → IsBeginningOf (gate_log (seen_by old) home) (get_or l home []))
      (named shared old now hand i.gates) (gates_on shared old now hand i.gates) in
      let store = records_on store_entry store_pair (λ x. refl) (seen_by_pass old.store) (seen_by_pass now.store) i.store.more in
      let oracle = records_on oracle_entry oracle_pair (λ x. refl) (seen_by_pass old.oracle) (seen_by_pass now.oracle) i.oracle.more in
      let there : ArrivesAsSeen by_passes (length shared.shards.items) shard gate number message =
      laws.shard_stays (length shared.shards.items) shard (seen_by old) by_passes gates store oracle [] 0 (Arrived gate number message) h in
      subst (λ (v : NotedShardView). ArrivesAsSeen (seen_of_shard v.shard v.notes) v.shards v.shard.number gate number message) (sym s_is)
      (subst (λ (z : Account × ℕ × ℕ). ArrivesAsSeen z.0 z.1 z.2 gate number message) (λ j. (sym i.same j, sym i.shard_count j, sym i.place j)) there)

-- The entry of an arrival
module _ {F : Type 0} (old : Hand) (author : ℕ) (deed : ShardDeed) (author_is : author ≡ hand_number old) (s m : NotedShardView) where
  -- the call adds the entry of an arrival if the message is new, and nothing if it is a repeat or refused
  pub arrived : (r : Result Arrival F) → IfOk r (λ arrival. arrival ≡ Kept → AddsEntry s.shard m.shard author deed)
      → IfOk r (λ arrival. arrival ≡ Repeat → m.shard ≡ s.shard) → OnErr r (m.shard ≡ s.shard) → m.shards ≡ s.shards → m.notes ≡ s.notes
      → IsCalled s m (arrival_entries old deed r)
  arrived (Ok Kept) kept repeat refused shards notes =
      record { goes = goes_by_one s.shard m.shard author (hand_number old) deed author_is (kept refl); shards = shards; notes = notes }
  arrived (Ok Repeat) kept repeat refused shards notes = record { goes = goes_by_none s.shard m.shard (repeat refl); shards = shards; notes = notes }
  arrived (Err f) kept repeat refused shards notes = record { goes = goes_by_none s.shard m.shard refused; shards = shards; notes = notes }

-- the entry of an arrival is the hand's own
pub arrivals_by : {F : Type 0} (old : Hand) (deed : ShardDeed) (r : Result Arrival F) (e : ShardEntry)
    → Contains (arrival_entries old deed r) e → e.author ≡ hand_number old
arrivals_by old deed (Ok Kept) e has = ap (λ (x : ShardEntry). x.author) (sym (only _ e has))
arrivals_by old deed (Ok Repeat) e has = absurd (has_none e has)
arrivals_by old deed (Err f) e has = absurd (has_none e has)

-- the entry of an arrival is no visit
pub no_arrival_visits : {F : Type 0} (old : Hand) (gate number : ℕ) (message : Message) (r : Result Arrival F) (v : Visit)
    → Contains (arrival_entries old (Arrived gate number message) r) (visit_entry v) → ⊥
no_arrival_visits old gate number message (Ok Kept) v has =
    let is : Arrived gate number message ≡ Visited v.request v.stamp v.vertex v.updates v.settled = ap (λ (e : ShardEntry). e.deed) (only _ (visit_entry v) has) in
    absurd cc
no_arrival_visits old gate number message (Ok Repeat) v has = has_none (visit_entry v) has
no_arrival_visits old gate number message (Err f) v has = has_none (visit_entry v) has
