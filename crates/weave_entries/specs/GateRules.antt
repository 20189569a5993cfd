-- The rules that the log of a gatekeeper keeps (Weaver, PVLDB 9(11) 2016), each over the replay of the entries before
-- an entry.
use Rattle.std.specs.Prelude.{◌≡◌, ◌≢◌, ℕ, ◌<◌, List, map, length, AllPairs, Contains, IsTrue, Option, None, Some}
use Rattle.std.specs.List.{list_any, range_with_len}
use Rattle.std.specs.Option.{ForSome}
use Rattle.graph_ops.specs.declared.op.Op.{Op}
use Rattle.vector_stamp.specs.declared.clock.Clock.{Clock}
use Rattle.vector_stamp.specs.declared.clock.Stamp.{Stamp}
use Rattle.vector_stamp.specs.Order.{count_of, HasEightCounts, CountsNonePast}
pub use Rattle.vector_stamp.specs.Order.{StampsRise}
use Rattle.vector_stamp.specs.Clocks.{counts_no_more}
use Rattle.weave_entries.specs.declared.message.Message.{Message}
use Rattle.weave_entries.specs.declared.message.Addressed.{Addressed}
use Rattle.weave_entries.specs.declared.verdict.Verdict.{Verdict}
use Rattle.weave_entries.specs.declared.gate_log.GateEntry.{GateEntry}
use Rattle.weave_entries.specs.declared.gate_log.GateDeed.{GateDeed}
use Rattle.weave_entries.specs.declared.gate_log.GateDeed.TheVariants.{BeganTx, BeganProgram, Sent, Nop, Heard, Raised, Finished}
pub use Rattle.weave_entries.specs.GateReplay.{ended_by}
use Rattle.weave_entries.specs.GateReplay.{is_begun, next_stamp, begun_stamp, clock_of, ticks_of, txs_of, programs_of, requests_of, ended_in, flight_of, running_of, addressed_to, channel_of, next_number, low_mark}
use Rattle.weave_entries.specs.Logs.{AtEachEntry}
use Rattle.weave_entries.specs.Sending.{IsCountsOf, messages_of}

-- The rules

-- the stamp of a request that is begun at this clock, once what its session had begun last is heard
pub record IsBegunAt (home : ℕ) (clock : Clock) (stamp : Stamp) : Type 0 where
  pub last : Option Stamp
  pub eight : ForSome last (λ heard. HasEightCounts heard.clock)
  pub is : stamp ≡ begun_stamp home clock last

-- a transaction is begun: none is in flight
pub record BeginsTx (home : ℕ) (before : List GateEntry) (stamp : Stamp) : Type 0 where
  pub alone : flight_of before ≡ None
  pub begun : IsBegunAt home (clock_of home before) stamp

-- the transaction in flight is sent by its author, with the messages of its operations and its verdict
pub record Sends (shards : ℕ) (before : List GateEntry) (author request : ℕ) (messages : List Addressed) : Type 0 where
  pub stamp : Stamp
  pub flight : flight_of before ≡ Some (record { author = author; request = request; stamp = stamp })
  pub ops : List Op
  pub verdict : Verdict
  pub counts : IsCountsOf ops verdict
  pub messages_are : messages
      ≡ messages_of shards before (record { author = author; request = request; stamp = stamp }) ops verdict

-- an empty message is sent: none is in flight, and it has the next stamp, the next number and the low mark
pub record SendsNop (home shards : ℕ) (before : List GateEntry) (shard number : ℕ) (stamp : Stamp) (low : Clock) : Type
    0 where
  pub alone : flight_of before ≡ None
  pub shard_is : shard < shards
  pub stamp_is : stamp ≡ next_stamp home (clock_of home before)
  pub number_is : number ≡ next_number shard before
  pub low_is : low ≡ low_mark stamp (running_of before)

-- a program is finished by its author: it is running
abbrev pub Finishes : List GateEntry → ℕ → ℕ → Type 0
Finishes before author request = IsTrue (list_any (is_begun author request) (running_of before))

-- a deed of an author is right after these entries
abbrev pub FitsAs : ℕ → ℕ → List GateEntry → ℕ → GateDeed → Type 0
FitsAs home shards before author (BeganTx request stamp) = BeginsTx home before stamp
FitsAs home shards before author (BeganProgram request stamp) = IsBegunAt home (clock_of home before) stamp
FitsAs home shards before author (Sent request messages) = Sends shards before author request messages
FitsAs home shards before author (Nop shard number stamp low) = SendsNop home shards before shard number stamp low
FitsAs home shards before author (Heard clock) = HasEightCounts clock
FitsAs home shards before author (Raised epoch) = (clock_of home before).epoch < epoch
FitsAs home shards before author (Finished request) = Finishes before author request

-- a log of the gatekeeper of this home, with this many shards: each entry is right after those before it
abbrev pub IsGateLog : ℕ → ℕ → List GateEntry → Type 0
IsGateLog home shards log = AtEachEntry (λ before entry. FitsAs home shards before entry.author entry.deed) log

-- What callers owe

-- no request is begun twice
abbrev pub BeginsEachOnce : List GateEntry → Type 0
BeginsEachOnce log = AllPairs (λ a b. a ≢ b) (requests_of log)

-- a clock that is heard counts no more of the gatekeeper's events than it made
abbrev pub HearsAs : ℕ → List GateEntry → GateDeed → Type 0
HearsAs home before (Heard clock) = IsTrue (counts_no_more home (clock_of home before) clock)
HearsAs home before _ = Unit {0}

-- this at each entry of the log
abbrev pub HearsNoMore : ℕ → List GateEntry → Type 0
HearsNoMore home log = AtEachEntry (λ before entry. HearsAs home before entry.deed) log

-- the stamp of a begin, before which a stamp, if any, was heard that counts no event of a gatekeeper past the first
-- `gates`
pub record HearsNonePastAt (gates home : ℕ) (clock : Clock) (stamp : Stamp) : Type 0 where
  pub last : Option Stamp
  pub none_past : ForSome last (λ heard. CountsNonePast gates heard.clock)
  pub is : stamp ≡ begun_stamp home clock last

-- what a deed heard counts no event of a gatekeeper past the first `gates`
abbrev pub HearsNonePastAs : ℕ → ℕ → List GateEntry → GateDeed → Type 0
HearsNonePastAs gates home before (BeganTx request stamp) = HearsNonePastAt gates home (clock_of home before) stamp
HearsNonePastAs gates home before (BeganProgram request stamp) = HearsNonePastAt gates home (clock_of home before) stamp
HearsNonePastAs gates home before (Heard clock) = CountsNonePast gates clock
HearsNonePastAs gates home before _ = Unit {0}

-- this at each entry of the log
abbrev pub HearsNonePast : ℕ → ℕ → List GateEntry → Type 0
HearsNonePast gates home log = AtEachEntry (λ before entry. HearsNonePastAs gates home before entry.deed) log

-- What follows

-- the own count is the number of the gatekeeper's ticks in its epoch
abbrev pub CountsItsTicks : ℕ → List GateEntry → Type 0
CountsItsTicks home log = count_of home (clock_of home log) ≡ ticks_of (clock_of home log).epoch log

-- a channel's numbers run from 1, and its stamps rise
pub record IsChannel (shard : ℕ) (log : List GateEntry) : Type 0 where
  pub numbers : map (λ (addressed : Addressed). addressed.number) (addressed_to shard log)
      ≡ range_with_len 1 (length (channel_of shard log))
  pub stamps : StampsRise (map (λ (message : Message). message.stamp) (channel_of shard log))

-- no request is sent or finished twice
abbrev pub EndsEachOnce : List GateEntry → Type 0
EndsEachOnce log = AllPairs (λ a b. a ≢ b) (ended_in log)

-- what a deed sends or finishes was begun before by its author, as a transaction or as a program
abbrev pub EndsAs : List GateEntry → ℕ → GateDeed → Type 0
EndsAs before author (Sent request messages) = (stamp : Stamp)
    × Contains (txs_of before) (record { author = author; request = request; stamp = stamp })
EndsAs before author (Finished request) = (stamp : Stamp)
    × Contains (programs_of before) (record { author = author; request = request; stamp = stamp })
EndsAs before author _ = Unit {0}

-- each request is sent or finished after its begin, by the author of its begin
abbrev pub EndsWhatItBegan : List GateEntry → Type 0
EndsWhatItBegan log = AtEachEntry (λ before entry. EndsAs before entry.author entry.deed) log
