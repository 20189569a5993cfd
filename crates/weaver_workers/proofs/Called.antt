-- A hand only carries in each call that begins nothing: it has a clock heard, an empty message sent, a message brought,
-- or the head of a channel processed.
-- Used by `nudge`, `other_calls_only_carry` and There.
use Rattle.std.proofs.Common.{ℕ, Bool, true, false, [], ◌∷◌, Contains, refl}
use Rattle.std.specs.Prelude.{IsTrue, Result, Ok, Err, is_some, if◌then◌else◌}
use Rattle.weave_data.proofs.Members.{has_none}
use Rattle.weave_entries.specs.declared.message.Message.{Message}
use Rattle.weave_entries.specs.declared.shard_log.ShardEntry.{ShardEntry}
use Rattle.weave_entries.specs.ShardReplay.{arrived_at}
use Rattle.weaver_locks.specs.declared.hand.Hand.{Hand}
use Rattle.weaver_locks.specs.declared.shared.Shared.{Shared}
use Rattle.weaver_locks.specs.Hands.{IsHand}
use Rattle.weaver_locks.specs.ShardHolds.{shard_entry_by}
use Rattle.weave_entries.specs.declared.shard_log.ShardDeed.TheVariants.{Arrived}
use Rattle.weaver_hands.specs.declared.fault.HandFault.{HandFault}
use Rattle.weaver_hands.specs.declared.fault.HandFault.TheVariants.{Busy, NotYet, Empty, Waits, Memory}
use Rattle.weaver_hands.specs.Messages.{AppliesAs, PullsAs}
use Rattle.weaver_hands.specs.Telling.{NopsAs, TellsAs}
use Rattle.weaver_workers.specs.Carrying.{is_bringing, is_telling, Carries, OnlyCarries}
use Rattle.weaver_workers.proofs.Carried.{at-gate, at-shard, carries-none, carries-through, made-none, nothing-at-gate, nothing-at-shard, one-passes}

-- a hand that only carries in each of two calls, one after the other, only carries in both together
pub carries-on : (shared : Shared) (old mid new : Hand) → Carries shared old mid → Carries shared mid new → Carries shared old new
carries-on shared old mid new first second =
    record { hand = second.hand; only = carries-through old mid new first.only second.only }

-- a hand that makes no call only carries, and is still a hand
pub carries-start : (shared : Shared) (hand : Hand) → IsHand shared hand → Carries shared hand hand
carries-start shared hand is = record { hand = is; only = carries-none hand }

-- the hand only carries when it lets a gatekeeper hear the clock of another one
pub told : (shards : ℕ) (old new : Hand) (from to : ℕ) (result : Result (Unit {0}) HandFault) → TellsAs shards old new from to result
    → OnlyCarries old new
told shards old new from to (Ok done) tells =
    carries-through old tells.told new (nothing-at-gate shards old tells.told from tells.said tells.says)
    (at-gate shards tells.told new to tells.before _ tells.hears (one-passes (λ e. is_telling e.deed) _ refl))
told shards old new from to (Err Memory) none = made-none old new none
told shards old new from to (Err Busy) none = absurd none
told shards old new from to (Err (NotYet shard at)) none = absurd none
told shards old new from to (Err Empty) none = absurd none
told shards old new from to (Err (Waits vertex)) none = absurd none

-- it only carries when it has a gatekeeper send an empty message to a shard
pub sent-empty : (shards : ℕ) (old new : Hand) (gate shard : ℕ) (result : Result (Unit {0}) HandFault)
    → NopsAs shards old new gate shard result → OnlyCarries old new
sent-empty shards old new gate shard (Ok done) sends =
    at-gate shards old new gate sends.before _ sends.was (one-passes (λ e. is_telling e.deed) _ refl)
sent-empty shards old new gate shard (Err Busy) found = nothing-at-gate shards old new gate found.before found.was
sent-empty shards old new gate shard (Err Memory) none = made-none old new none
sent-empty shards old new gate shard (Err (NotYet other at)) none = absurd none
sent-empty shards old new gate shard (Err Empty) none = absurd none
sent-empty shards old new gate shard (Err (Waits vertex)) none = absurd none

-- a message that arrives, or has arrived before
arrivals-bring : (hand : Hand) (gate number : ℕ) (message : Message) (known : Bool) (entry : ShardEntry)
    → Contains (if known then [] else shard_entry_by hand (Arrived gate number message) ∷ []) entry → IsTrue (is_bringing entry.deed)
arrivals-bring hand gate number message true entry h = absurd (has_none entry h)
arrivals-bring hand gate number message false entry h = one-passes (λ (e : ShardEntry). is_bringing e.deed) _ refl entry h

-- it only carries when it brings a gatekeeper's message to a shard
pub pulled : (shards : ℕ) (old new : Hand) (gate shard number : ℕ) (result : Result Bool HandFault)
    → PullsAs shards old new gate shard number result → OnlyCarries old new
pulled shards old new gate shard number (Ok true) pulls =
    carries-through old pulls.fetched new (nothing-at-gate shards old pulls.fetched gate pulls.sent pulls.fetches)
    (at-shard shards pulls.fetched new shard pulls.before _ pulls.arrives
    (arrivals-bring pulls.fetched gate number pulls.message (is_some (arrived_at gate number pulls.before))))
pulled shards old new gate shard number (Ok false) found = nothing-at-gate shards old new gate found.sent found.was
pulled shards old new gate shard number (Err Memory) none = made-none old new none
pulled shards old new gate shard number (Err Busy) none = absurd none
pulled shards old new gate shard number (Err (NotYet other at)) none = absurd none
pulled shards old new gate shard number (Err Empty) none = absurd none
pulled shards old new gate shard number (Err (Waits vertex)) none = absurd none

-- it only carries when it has a shard process the head of a channel
pub applied : (shards : ℕ) (old new : Hand) (shard gate : ℕ) (result : Result (Unit {0}) HandFault)
    → AppliesAs shards old new shard gate result → OnlyCarries old new
applied shards old new shard gate (Ok done) applies =
    at-shard shards old new shard applies.before _ applies.was (one-passes (λ (e : ShardEntry). is_bringing e.deed) _ refl)
applied shards old new shard gate (Err Empty) found = nothing-at-shard shards old new shard found.before found.was
applied shards old new shard gate (Err (Waits vertex)) found = nothing-at-shard shards old new shard found.before found.was
applied shards old new shard gate (Err Memory) none = made-none old new none
applied shards old new shard gate (Err Busy) none = absurd none
applied shards old new shard gate (Err (NotYet other at)) none = absurd none
