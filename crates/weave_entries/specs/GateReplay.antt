-- What the log of a gatekeeper says of its state: the replay of the entries from the start.
use Rattle.std.specs.Prelude.{ℕ, ◌+◌, Bool, not, ◌&&◌, ◌==◌, List, [], ◌∷◌, ◌++◌, map, fold, filter, length, count_by, Option, None, Some}
use Rattle.std.specs.List.{find, flat_map, list_any}
use Rattle.vector_stamp.specs.declared.clock.Clock.{Clock}
use Rattle.vector_stamp.specs.declared.clock.Stamp.{Stamp}
use Rattle.vector_stamp.specs.Clocks.{start_clock, first_clock, clock_after_tick, clock_after_hearing, meet_of}
use Rattle.weave_entries.specs.declared.message.Message.{Message}
use Rattle.weave_entries.specs.declared.message.Addressed.{Addressed}
use Rattle.weave_entries.specs.declared.gate_log.GateEntry.{GateEntry}
use Rattle.weave_entries.specs.declared.gate_log.GateDeed.{GateDeed}
use Rattle.weave_entries.specs.declared.gate_log.GateDeed.TheVariants.{BeganTx, BeganProgram, Sent, Nop, Heard, Raised, Finished}

-- The clock

-- the next stamp of a gatekeeper with this clock
abbrev pub next_stamp : ℕ → Clock → Stamp
next_stamp home clock = record { home = home; clock = clock_after_tick home clock }

-- the clock after the stamp was heard, if there is one
abbrev pub clock_after_last : ℕ → Clock → Option Stamp → Clock
clock_after_last home clock None = clock
clock_after_last home clock (Some last) = clock_after_hearing home clock last.clock

-- the stamp of a request: the last stamp that was begun in its session is heard before the own count rises
abbrev pub begun_stamp : ℕ → Clock → Option Stamp → Stamp
begun_stamp home clock last = next_stamp home (clock_after_last home clock last)

-- an event leaves the clock of its stamp
abbrev pub clock_after : ℕ → Clock → GateDeed → Clock
clock_after home clock (BeganTx request stamp) = stamp.clock
clock_after home clock (BeganProgram request stamp) = stamp.clock
clock_after home clock (Sent request messages) = clock
clock_after home clock (Nop shard number stamp low) = stamp.clock
clock_after home clock (Heard heard) = clock_after_hearing home clock heard
clock_after home clock (Raised epoch) = first_clock epoch
clock_after home clock (Finished request) = clock

-- the gatekeeper's clock at the end of its log
abbrev pub clock_of : ℕ → List GateEntry → Clock
clock_of home log = fold (λ clock (entry : GateEntry). clock_after home clock entry.deed) start_clock log

-- The events

-- the stamp of the event that a deed is, if it is one
abbrev pub stamps_by : GateDeed → List Stamp
stamps_by (BeganTx request stamp) = stamp ∷ []
stamps_by (BeganProgram request stamp) = stamp ∷ []
stamps_by (Nop shard number stamp low) = stamp ∷ []
stamps_by _ = []

-- the stamps that the gatekeeper made, in order
abbrev pub stamps_of : List GateEntry → List Stamp
stamps_of log = flat_map (λ (entry : GateEntry). stamps_by entry.deed) log

-- how many of them are of an epoch: the gatekeeper's ticks in it
abbrev pub ticks_of : ℕ → List GateEntry → ℕ
ticks_of epoch log = count_by (λ (stamp : Stamp). stamp.clock.epoch == epoch) (stamps_of log)

-- The requests

-- who began which request, and its stamp
pub record BegunRequest : Type 0 where
  pub author : ℕ
  pub request : ℕ
  pub stamp : Stamp

-- whether it is what this author began under this number
abbrev pub is_begun : ℕ → ℕ → BegunRequest → Bool
is_begun author request begun = (begun.author == author) && (begun.request == request)

-- the transaction that a deed began
abbrev pub tx_by : ℕ → GateDeed → List BegunRequest
tx_by author (BeganTx request stamp) = record { author = author; request = request; stamp = stamp } ∷ []
tx_by author _ = []

-- the program that a deed began
abbrev pub program_by : ℕ → GateDeed → List BegunRequest
program_by author (BeganProgram request stamp) = record { author = author; request = request; stamp = stamp } ∷ []
program_by author _ = []

-- the transactions that were begun, in order
abbrev pub txs_of : List GateEntry → List BegunRequest
txs_of log = flat_map (λ (entry : GateEntry). tx_by entry.author entry.deed) log

-- the programs that were begun, in order
abbrev pub programs_of : List GateEntry → List BegunRequest
programs_of log = flat_map (λ (entry : GateEntry). program_by entry.author entry.deed) log

-- what a deed began: a transaction or a program
abbrev pub begun_by : ℕ → GateDeed → List BegunRequest
begun_by author deed = tx_by author deed ++ program_by author deed

-- the transactions and programs that were begun, in order
abbrev pub begun_in : List GateEntry → List BegunRequest
begun_in log = flat_map (λ (entry : GateEntry). begun_by entry.author entry.deed) log

-- the program of this number, if it was begun
abbrev pub program_begun : ℕ → List GateEntry → Option BegunRequest
program_begun request log = find (λ (begun : BegunRequest). begun.request == request) (programs_of log)

-- the numbers of all requests that were begun, in order
abbrev pub requests_of : List GateEntry → List ℕ
requests_of log =
    flat_map (λ (entry : GateEntry). map (λ (begun : BegunRequest). begun.request) (tx_by entry.author entry.deed
    ++ program_by entry.author entry.deed)) log

-- the request that a deed sent or finished
abbrev pub ended_by : GateDeed → List ℕ
ended_by (Sent request messages) = request ∷ []
ended_by (Finished request) = request ∷ []
ended_by _ = []

-- the requests that were sent or finished, in order
abbrev pub ended_in : List GateEntry → List ℕ
ended_in log = flat_map (λ (entry : GateEntry). ended_by entry.deed) log

-- whether a request was sent or finished
abbrev pub has_ended_in : ℕ → List GateEntry → Bool
has_ended_in request log = list_any (λ ended. ended == request) (ended_in log)

-- a transaction is in flight from its begin to its sending
abbrev pub flight_after : Option BegunRequest → ℕ → GateDeed → Option BegunRequest
flight_after flight author (BeganTx request stamp) = Some (record { author = author; request = request; stamp = stamp })
flight_after flight author (Sent request messages) = None
flight_after flight author _ = flight

-- the transaction in flight at the end of the log
abbrev pub flight_of : List GateEntry → Option BegunRequest
flight_of log = fold (λ flight (entry : GateEntry). flight_after flight entry.author entry.deed) None log

-- a program is running from its begin until its author finishes it
abbrev pub running_after : List BegunRequest → ℕ → GateDeed → List BegunRequest
running_after running author (BeganProgram request stamp) =
    running ++ record { author = author; request = request; stamp = stamp } ∷ []
running_after running author (Finished request) = filter (λ begun. not (is_begun author request begun)) running
running_after running author _ = running

-- the programs that are running at the end of the log, in the order of their begins
abbrev pub running_of : List GateEntry → List BegunRequest
running_of log = fold (λ running (entry : GateEntry). running_after running entry.author entry.deed) [] log

-- The channels

-- an empty message: a stamp, and no vertices
abbrev pub nop_message : Stamp → Clock → Message
nop_message stamp low = record { request = None; stamp = stamp; low = low; parts = [] }

-- the messages that a deed sent
abbrev pub messages_by : GateDeed → List Addressed
messages_by (Sent request messages) = messages
messages_by (Nop shard number stamp low) =
    record { shard = shard; number = number; message = nop_message stamp low } ∷ []
messages_by _ = []

-- the messages of a list that go to a shard
abbrev pub to_shard : ℕ → List Addressed → List Addressed
to_shard shard messages = filter (λ (addressed : Addressed). addressed.shard == shard) messages

-- all messages that were sent to a shard, in order, with their numbers
abbrev pub addressed_to : ℕ → List GateEntry → List Addressed
addressed_to shard log = flat_map (λ (entry : GateEntry). to_shard shard (messages_by entry.deed)) log

-- what was sent on the channel to a shard
abbrev pub channel_of : ℕ → List GateEntry → List Message
channel_of shard log = map (λ (addressed : Addressed). addressed.message) (addressed_to shard log)

-- the number of the next message to a shard: they are numbered from 1
abbrev pub next_number : ℕ → List GateEntry → ℕ
next_number shard log = length (channel_of shard log) + 1

-- all messages that were sent, in order. No public contract cites this.
abbrev pub sent_in : List GateEntry → List Addressed
sent_in log = flat_map (λ (entry : GateEntry). messages_by entry.deed) log

-- the low mark of a message: the meet of its stamp and the stamps of the programs then running
abbrev pub low_mark : Stamp → List BegunRequest → Clock
low_mark stamp running = fold (λ low (begun : BegunRequest). meet_of low begun.stamp.clock) stamp.clock running

-- All clocks

-- the clocks of a message: that of its stamp, and its low mark
abbrev pub clocks_of_message : Addressed → List Clock
clocks_of_message addressed = addressed.message.stamp.clock ∷ addressed.message.low ∷ []

-- the clocks of a deed
abbrev pub clocks_by : GateDeed → List Clock
clocks_by (BeganTx request stamp) = stamp.clock ∷ []
clocks_by (BeganProgram request stamp) = stamp.clock ∷ []
clocks_by (Sent request messages) = flat_map clocks_of_message messages
clocks_by (Nop shard number stamp low) = stamp.clock ∷ low ∷ []
clocks_by (Heard heard) = heard ∷ []
clocks_by (Raised epoch) = []
clocks_by (Finished request) = []

-- all clocks of a log, in order
abbrev pub clocks_in : List GateEntry → List Clock
clocks_in log = flat_map (λ (entry : GateEntry). clocks_by entry.deed) log
