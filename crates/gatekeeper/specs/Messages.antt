-- Channels on which messages are sent. No public contract cites this.
use Rattle.std.specs.Prelude.{◌≡◌, ◌≢◌, ℕ, ◌+◌, ◌≤◌, Bool, false, true, List, [], ◌∷◌, ◌++◌, map, length, slice_get, Option, Some, None}
use Rattle.vector_stamp.specs.declared.clock.Clock.{Clock}
use Rattle.graph_ops.specs.declared.op.Op.{Op}
use Rattle.graph_ops.specs.declared.part.Part.{Part}
use Rattle.shard_queue.specs.Outbox.{Channel}
use Rattle.weave_entries.specs.declared.message.Addressed.{Addressed}
use Rattle.weave_entries.specs.declared.verdict.Counted.{Counted}
use Rattle.weave_entries.specs.declared.verdict.Verdict.{Verdict}
use Rattle.weave_entries.specs.declared.verdict.Verdict.TheVariants.{Committed, Conflict, Refused}
use Rattle.weave_entries.specs.GateReplay.{to_shard}
use Rattle.weave_entries.specs.Sending.{parts_for, shards_named}
use Rattle.gatekeeper.specs.Places.{places_to}
use Rattle.gatekeeper.specs.declared.flight.Flight.{Flight}
use Rattle.gatekeeper.specs.declared.places.Place.{Place}

-- the places of what was sent to a shard
abbrev pub sent_on : Option (Channel Place) → List Place
sent_on None = []
sent_on (Some channel) = channel.sent

-- and by its number
abbrev pub sent_at : ℕ → List (Channel Place) → List Place
sent_at shard channels = sent_on (slice_get channels shard)

-- the message of a transaction to a shard, with the next number of the channel
abbrev pub made_for : List (Channel Place) → ℕ → Flight → Clock → List Op → List Counted → ℕ → Addressed
made_for channels shards flight low ops counts shard = record {
  shard = shard;
  number = length (sent_at shard channels) + 1;
  message = record {
    request = Some flight.request;
    stamp = flight.stamp;
    low = low;
    parts = parts_for shards shard ops counts;
  };
}

-- the messages with one more, unless there are no parts. No public contract cites this.
abbrev pub with_parted : Addressed → List Part → List Addressed → List Addressed
with_parted addressed [] messages = messages
with_parted addressed (part ∷ parts) messages = messages ++ addressed ∷ []

-- whether there are parts. No public contract cites this.
abbrev pub has_parts : List Part → Bool
has_parts [] = false
has_parts (part ∷ parts) = true

-- the messages of a transaction by its verdict
abbrev pub messages_made : List (Channel Place) → ℕ → Flight → Clock → List Op → Verdict → List Addressed
messages_made channels shards flight low ops (Committed number answers counts) =
    map (made_for channels shards flight low ops counts) (shards_named shards counts)
messages_made channels shards flight low ops (Conflict vertex newer) = []
messages_made channels shards flight low ops (Refused op reason at) = []

-- there is room for one more message to the shard
pub record HasRoomAt (channels : List (Channel Place)) (shard : ℕ) : Type 0 where
  pub channel : Channel Place
  pub at : slice_get channels shard ≡ Some channel
  pub room : 1 ≤ channel.spare

-- what was sent stays on each channel, and the room is no less
pub record KeepsSent (old new : List (Channel Place)) : Type 0 where
  pub count : length new ≡ length old
  pub each : (shard : ℕ) (after : Channel Place) → slice_get new shard ≡ Some after → (before : Channel Place)
      × (slice_get old shard ≡ Some before) × (after.sent ≡ before.sent) × (before.spare ≤ after.spare)

-- there is room for each of these messages, and they go to distinct shards
abbrev pub CanAllGo : List (Channel Place) → List Addressed → Type 0
CanAllGo channels [] = Unit {0}
CanAllGo channels (one ∷ rest) = HasRoomAt channels one.shard × (to_shard one.shard rest ≡ []) × CanAllGo channels rest

-- the place is at the end of the shard's channel, and all other channels are as before
pub record IsSentOn (old new : List (Channel Place)) (shard : ℕ) (place : Place) : Type 0 where
  pub count : length new ≡ length old
  pub here : (before : Channel Place) → slice_get old shard ≡ Some before → (after : Channel Place)
      × (slice_get new shard ≡ Some after) × (after.sent ≡ before.sent ++ place ∷ [])
  pub others : (other : ℕ) → other ≢ shard → slice_get new other ≡ slice_get old other

-- the places of the messages in this entry are at the end of the channels to their shards
pub record AreSent (old new : List (Channel Place)) (entry : ℕ) (messages : List Addressed) : Type 0 where
  pub count : length new ≡ length old
  pub each : (shard : ℕ) (after : Channel Place) → slice_get new shard ≡ Some after → (before : Channel Place)
      × (slice_get old shard ≡ Some before) × (after.sent ≡ before.sent ++ places_to shard entry 0 messages)
