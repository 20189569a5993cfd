-- What hands' calls on messages have done.
use Rattle.std.specs.Prelude.{◌≡◌, ◌∷◌, ◌+◌, ℕ, Bool, true, false, if◌then◌else◌}
use Rattle.std.specs.Prelude.{List, [], None, Some, is_some, Result, Ok, Err}
use Rattle.weave_data.specs.declared.name.Name.{Name}
use Rattle.shard_queue.specs.Outbox.{sent_as}
use Rattle.weave_entries.specs.declared.gate_log.GateEntry.{GateEntry}
use Rattle.weave_entries.specs.declared.message.Message.{Message}
use Rattle.weave_entries.specs.declared.shard_log.ShardEntry.{ShardEntry}
use Rattle.weave_entries.specs.declared.shard_log.ShardDeed.TheVariants.{Arrived, Applied}
use Rattle.weave_entries.specs.GateReplay.{channel_of}
use Rattle.weave_entries.specs.ShardReplay.{arrived_at, head_of, processed_count, waits_at}
use Rattle.weave_account.specs.Account.{shard_log}
use Rattle.weaver_locks.specs.declared.hand.Hand.{Hand}
use Rattle.weaver_locks.specs.GateHolds.{WasAtGate}
use Rattle.weaver_locks.specs.Hands.{seen_by}
use Rattle.weaver_locks.specs.ShardHolds.{shard_entry_by, WasAtShard}
use Rattle.shard_queue.specs.declared.inbox.Arrival.{Arrival}
use Rattle.shard_queue.specs.declared.inbox.Arrival.TheVariants as arrival
use Rattle.weaver_hands.specs.declared.fault.HandFault.{HandFault}
use Rattle.weaver_hands.specs.declared.fault.HandFault.TheVariants.{Busy, NotYet, Empty, Waits, Memory}
use Rattle.weaver_hands.specs.declared.messages.Pulled.{Pulled}
use Rattle.weaver_hands.specs.declared.messages.Pulled.TheVariants.{Unsent, Known, New}
use Rattle.weaver_hands.specs.Leaving.{MadeNone}

-- the entry of a message that arrives, if it has not arrived before
abbrev pub arrivals_after : Hand → ℕ → ℕ → Message → List ShardEntry → List ShardEntry
arrivals_after hand gate number message before =
    if is_some (arrived_at gate number before) then [] else shard_entry_by hand (Arrived gate number message) ∷ []

-- The message of this number was found at the gatekeeper in one hold, and arrived at the shard in a second, unless it
-- had arrived before. In what the hand has seen of the shard it has arrived.
pub record Pulls (shards : ℕ) (old new : Hand) (gate shard number : ℕ) : Type 0 where
  pub fetched : Hand
  pub sent : List GateEntry
  pub fetches : WasAtGate shards old fetched gate sent []
  pub message : Message
  pub message_is : sent_as number (channel_of shard sent) ≡ Some message
  pub before : List ShardEntry
  pub arrives : WasAtShard shards fetched new shard before (arrivals_after fetched gate number message before) []
  pub arrived : arrived_at gate number (shard_log (seen_by new) shard) ≡ Some message

-- The gatekeeper had not sent a message of this number to the shard in this call's hold, and nothing was done.
pub record FoundUnsent (shards : ℕ) (old new : Hand) (gate shard number : ℕ) : Type 0 where
  pub sent : List GateEntry
  pub was : WasAtGate shards old new gate sent []
  pub unsent : sent_as number (channel_of shard sent) ≡ None

-- the outcome for a message that the shard took in like this. No public contract cites this.
abbrev pub pulled_by : Arrival → Pulled
pulled_by arrival.Kept = New
pulled_by arrival.Repeat = Known

-- whether it was sent. No public contract cites this.
abbrev pub is_sent : Pulled → Bool
is_sent Unsent = false
is_sent Known = true
is_sent New = true

-- The message was brought like this, and it had arrived before, or had not.
pub record Brings (shards : ℕ) (old new : Hand) (gate shard number : ℕ) (known : Bool) : Type 0 where
  pub pulls : Pulls shards old new gate shard number
  pub known_is : is_some (arrived_at gate number pulls.before) ≡ known

-- what `bring` answers
abbrev pub BringsAs : ℕ → Hand → Hand → ℕ → ℕ → ℕ → Result Pulled HandFault → Type 0
BringsAs shards old new gate shard number (Ok Unsent) = FoundUnsent shards old new gate shard number
BringsAs shards old new gate shard number (Ok Known) = Brings shards old new gate shard number true
BringsAs shards old new gate shard number (Ok New) = Brings shards old new gate shard number false
BringsAs shards old new gate shard number (Err Memory) = MadeNone old new
BringsAs shards old new gate shard number (Err Busy) = ⊥
BringsAs shards old new gate shard number (Err (NotYet other at)) = ⊥
BringsAs shards old new gate shard number (Err Empty) = ⊥
BringsAs shards old new gate shard number (Err (Waits vertex)) = ⊥

-- what `pull` answers
abbrev pub PullsAs : ℕ → Hand → Hand → ℕ → ℕ → ℕ → Result Bool HandFault → Type 0
PullsAs shards old new gate shard number (Ok true) = Pulls shards old new gate shard number
PullsAs shards old new gate shard number (Ok false) = FoundUnsent shards old new gate shard number
PullsAs shards old new gate shard number (Err Memory) = MadeNone old new
PullsAs shards old new gate shard number (Err Busy) = ⊥
PullsAs shards old new gate shard number (Err (NotYet other at)) = ⊥
PullsAs shards old new gate shard number (Err Empty) = ⊥
PullsAs shards old new gate shard number (Err (Waits vertex)) = ⊥

-- The head of the gatekeeper's channel was processed in one hold of the shard: each of its counts was the number of
-- updates applied there.
pub record AppliesChannelHead (shards : ℕ) (old new : Hand) (shard gate : ℕ) : Type 0 where
  pub before : List ShardEntry
  pub head : Message
  pub head_is : head_of gate before ≡ Some head
  pub in_turn : waits_at head before ≡ None
  pub was : WasAtShard shards old new shard before
      (shard_entry_by old (Applied gate (processed_count gate before + 1)) ∷ []) []

-- The next message had not arrived in this call's hold, and nothing was done.
pub record FoundEmpty (shards : ℕ) (old new : Hand) (shard gate : ℕ) : Type 0 where
  pub before : List ShardEntry
  pub was : WasAtShard shards old new shard before [] []
  pub empty : head_of gate before ≡ None

-- The head waited at this vertex in this call's hold, and nothing was done.
pub record FoundWaiting (shards : ℕ) (old new : Hand) (shard gate : ℕ) (vertex : Name) : Type 0 where
  pub before : List ShardEntry
  pub was : WasAtShard shards old new shard before [] []
  pub head : Message
  pub head_is : head_of gate before ≡ Some head
  pub waits : waits_at head before ≡ Some vertex

-- what `apply` answers
abbrev pub AppliesAs : ℕ → Hand → Hand → ℕ → ℕ → Result (Unit {0}) HandFault → Type 0
AppliesAs shards old new shard gate (Ok done) = AppliesChannelHead shards old new shard gate
AppliesAs shards old new shard gate (Err Empty) = FoundEmpty shards old new shard gate
AppliesAs shards old new shard gate (Err (Waits vertex)) = FoundWaiting shards old new shard gate vertex
AppliesAs shards old new shard gate (Err Memory) = MadeNone old new
AppliesAs shards old new shard gate (Err Busy) = ⊥
AppliesAs shards old new shard gate (Err (NotYet other at)) = ⊥
