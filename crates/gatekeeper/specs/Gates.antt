-- A gatekeeper as contracts see it.
use Rattle.std.specs.Prelude.{◌≡◌, ℕ, ◌+◌, ◌≤◌, ◌<◌, List, [], ◌∷◌, ◌++◌, length, slice_get, Contains, IsTrue, Option, Some}
use Rattle.std.specs.Option.{option_map}
use Rattle.weave_data.specs.Limits.{most_gates}
use Rattle.vector_stamp.specs.declared.clock.Clock.{Clock}
use Rattle.vector_stamp.specs.declared.clock.Stamp.{Stamp}
use Rattle.vector_stamp.specs.Order.{has_64_bits}
use Rattle.weave_entries.specs.declared.message.Message.{Message}
use Rattle.weave_entries.specs.declared.gate_log.GateEntry.{GateEntry}
use Rattle.weave_entries.specs.declared.gate_log.GateDeed.{GateDeed}
use Rattle.weave_entries.specs.declared.gate_log.GateDeed.TheVariants.{Sent}
use Rattle.weave_entries.specs.declared.verdict.Verdict.{Verdict}
use Rattle.graph_ops.specs.declared.op.Op.{Op}
use Rattle.weave_entries.specs.Sending.{messages_of}
use Rattle.weave_entries.specs.GateReplay.{BegunRequest, clock_of, stamps_of, flight_of, running_of, channel_of}
use Rattle.weave_entries.specs.GateRules.{IsGateLog}
use Rattle.shard_queue.specs.Outbox.{Channel}
use Rattle.gatekeeper.specs.Opened.{as_begun}
use Rattle.gatekeeper.specs.Places.{LeadTo}
use Rattle.gatekeeper.specs.Running.{HoldsPrograms}
use Rattle.gatekeeper.specs.declared.flight.Flight.{Flight}
use Rattle.gatekeeper.specs.declared.places.Place.{Place}

-- whose gatekeeper it is, of how many gatekeepers and for how many shards, its log, and for how many more entries there
-- is room
pub record GateView : Type 0 where
  pub home : ℕ
  pub gates : ℕ
  pub shards : ℕ
  pub log : List GateEntry
  pub spare : ℕ

-- before its first event
pub record IsNew (home gates shards : ℕ) (gate : GateView) : Type 0 where
  pub home_is : gate.home ≡ home
  pub gates_are : gate.gates ≡ gates
  pub shards_are : gate.shards ≡ shards
  pub log_is : gate.log ≡ []

-- the log has one more entry of this author, spare capacity drops by at most one, and nothing else changes
pub record Adds (old new : GateView) (author : ℕ) (deed : GateDeed) : Type 0 where
  pub log : new.log ≡ old.log ++ record { author = author; deed = deed } ∷ []
  pub home : new.home ≡ old.home
  pub gates : new.gates ≡ old.gates
  pub shards : new.shards ≡ old.shards
  pub spare : old.spare ≤ new.spare + 1

-- the transaction in flight was sent by this author: the entry has its messages by the verdict, at the end of the log
pub record SendsFlight (old new : GateView) (author : ℕ) (ops : List Op) (verdict : Verdict) : Type 0 where
  pub flight : BegunRequest
  pub flies : flight_of old.log ≡ Some flight
  pub adds : Adds old new author (Sent flight.request (messages_of old.shards old.log flight ops verdict))

-- there is room for this many entries, spare capacity is no less than before, and nothing else changes
pub record MakesRoom (old new : GateView) (entries : ℕ) : Type 0 where
  pub log : new.log ≡ old.log
  pub home : new.home ≡ old.home
  pub gates : new.gates ≡ old.gates
  pub shards : new.shards ≡ old.shards
  pub room : entries ≤ new.spare
  pub kept : old.spare ≤ new.spare

-- the stamps have 64 bits
abbrev pub HaveBits : List Stamp → Type 0
HaveBits stamps = (stamp : Stamp) → Contains stamps stamp → IsTrue (has_64_bits stamp.clock)

-- the fields are what the replay of the log gives; the channels lead to the messages, in the log or among those of the
-- nops
pub record IsGateReplay (home shards : ℕ) (clock : Clock) (flight : Option Flight) (running : List ((ℕ × ℕ)
    × Clock)) (channels : List (Channel Place)) (nops : List Message) (log : List GateEntry) : Type 0 where
  pub clock_is : clock ≡ clock_of home log
  pub flight_is : option_map as_begun flight ≡ flight_of log
  pub running_is : HoldsPrograms running (running_of log)
  pub all_channels : length channels ≡ shards
  pub channels_are : (shard : ℕ) (channel : Channel Place) → slice_get channels shard ≡ Some channel
      → LeadTo nops log channel.sent (channel_of shard log)
  pub home_is : home < most_gates
  pub some_shard : 1 ≤ shards
  pub rules : IsGateLog home shards log
  pub bits : HaveBits (stamps_of log)
