-- What is left of a gatekeeper that stopped, and what is handed in again when it returns.
use Rattle.std.specs.Prelude.{◌≡◌, ◌≢◌, ℕ, ◌≤◌, ◌<◌, Bool, false, ◌&&◌, ◌==◌, List, [], fold, length, slice_get, AllPairs, Contains, Option, None, Some, if◌then◌else◌}
use Rattle.std.specs.Option.{option_map}
use Rattle.weave_data.specs.Limits.{most_gates}
use Rattle.vector_stamp.specs.declared.clock.Clock.{Clock}
use Rattle.vector_stamp.specs.Order.{same_stamp}
use Rattle.weave_entries.specs.declared.message.Message.{Message}
use Rattle.weave_entries.specs.declared.gate_log.GateEntry.{GateEntry}
use Rattle.weave_entries.specs.declared.gate_log.GateDeed.{GateDeed}
use Rattle.weave_entries.specs.declared.gate_log.GateDeed.TheVariants.{BeganTx, BeganProgram}
use Rattle.weave_entries.specs.GateReplay.{BegunRequest, stamps_of, running_of, flight_of, channel_of}
use Rattle.weave_entries.specs.GateRules.{IsGateLog}
use Rattle.shard_queue.specs.Outbox.{Channel}
use Rattle.gatekeeper.specs.Gates.{HaveBits}
use Rattle.gatekeeper.specs.Places.{LeadTo}
use Rattle.gatekeeper.specs.Running.{HoldsPrograms}
use Rattle.gatekeeper.specs.declared.places.Place.{Place}
use Rattle.gatekeeper.specs.declared.stopping.Open.{Open}

-- What is handed in again

-- a begun program as its client hands it in: the request's number and the stamp
abbrev pub as_open : BegunRequest → Open
as_open begun = record { request = begun.request; stamp = begun.stamp }

-- the number of a begun request
abbrev pub begun_number : BegunRequest → ℕ
begun_number begun = begun.request

-- these are the programs that are running, in any order, each request once
pub record AreThoseRunning (given : List Open) (running : List BegunRequest) : Type 0 where
  pub all : (begun : BegunRequest) → Contains running begun → Contains given (as_open begun)
  pub no_others : (one : Open) → Contains given one → (begun : BegunRequest) × Contains running begun
      × (as_open begun ≡ one)
  pub once : AllPairs (λ (a b : Open). a.request ≢ b.request) given

-- the transaction in flight and the running programs are those that the log leaves unsent and unfinished
pub record AreLeftOpen (flight : Option ℕ) (given : List Open) (log : List GateEntry) : Type 0 where
  pub flight_is : flight ≡ option_map begun_number (flight_of log)
  pub running_are : AreThoseRunning given (running_of log)

-- How it is found in the log. No public contract cites what follows.

-- the transaction that was begun last, after a deed. No public contract cites this.
abbrev pub tx_after : ℕ → Option BegunRequest → GateDeed → Option BegunRequest
tx_after author last (BeganTx request stamp) = Some (record { author = author; request = request; stamp = stamp })
tx_after author last _ = last

-- the transaction that was begun last. No public contract cites this.
abbrev pub last_tx : List GateEntry → Option BegunRequest
last_tx log = fold (λ last (entry : GateEntry). tx_after entry.author last entry.deed) None log

-- the transaction in flight, if one is handed in again. No public contract cites this.
abbrev pub found_flight : Option ℕ → List GateEntry → Option BegunRequest
found_flight None log = None
found_flight (Some request) log = last_tx log

-- whether the deed begins this program with this stamp. No public contract cites this.
abbrev pub begins_with_stamp : Open → GateDeed → Bool
begins_with_stamp one (BeganProgram request stamp) = (request == one.request) && same_stamp stamp one.stamp
begins_with_stamp one _ = false

-- the author after an entry. No public contract cites this.
abbrev pub author_after : Open → ℕ → GateEntry → ℕ
author_after one author entry = if begins_with_stamp one entry.deed then entry.author else author

-- the author who began the program last with this stamp; 0 if no one did. No public contract cites this.
abbrev pub program_author : Open → List GateEntry → ℕ
program_author one log = fold (author_after one) 0 log

-- the program with the author of its begin. No public contract cites this.
abbrev pub as_program : ℕ → Open → BegunRequest
as_program author one = record { author = author; request = one.request; stamp = one.stamp }

-- the program with the author whom the log has for it. No public contract cites this.
abbrev pub program_in_log : List GateEntry → Open → BegunRequest
program_in_log log one = as_program (program_author one log) one

-- What is left over

-- an empty table has the room of one that held the running programs
pub record HasRoomAgain (running : List BegunRequest) (room : ℕ) : Type 0 where
  pub table : List ((ℕ × ℕ) × Clock)
  pub held : HoldsPrograms table running
  pub fits : length table ≤ room

-- the channels lead to the messages of the log, and nothing is running
pub record IsLeftOver (home shards : ℕ) (channels : List (Channel Place)) (nops : List Message)
    (entries : List ((ℕ × ℕ) × Clock)) (room : ℕ) (log : List GateEntry) : Type 0 where
  pub all_channels : length channels ≡ shards
  pub channels_are : (shard : ℕ) (channel : Channel Place) → slice_get channels shard ≡ Some channel
      → LeadTo nops log channel.sent (channel_of shard log)
  pub home_is : home < most_gates
  pub some_shard : 1 ≤ shards
  pub rules : IsGateLog home shards log
  pub bits : HaveBits (stamps_of log)
  pub nothing_runs : entries ≡ []
  pub room_again : HasRoomAgain (running_of log) room
